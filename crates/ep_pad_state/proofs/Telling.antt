-- What is told, as the definitions say it.
use Rattle.std.proofs.Common.{◌≡◌, ℕ, zero, suc, ◌+◌, ◌≤◌, Bool, true, false, cond, not, ◌&&◌, List, [], ◌∷◌, length, take, drop, Option, Some, None, Result, Ok, Err, refl, sym, ap, ◌∙◌, subst, T, arith}
use Rattle.std.specs.Prelude.{nat_lt, nat_le, IfSome}
use Rattle.std.specs.List.{take_while}
use Rattle.std.proofs.lemmas.Bool.Decides.{nat_tests}
use Rattle.std.proofs.lemmas.List.Sums.{take_while-cons}
use Rattle.ep_units.specs.Text.{Text, text_eq}
use Rattle.ep_units.specs.declared.session.Session.{Session}
use Rattle.ep_attr.proofs.Maps.{exact_test}
use Rattle.ep_attr.proofs.SameMap.{itself}
use Rattle.ep_history.specs.declared.rev.Rev.{Rev}
use Rattle.ep_history.specs.declared.pad_bad.PadBad.{PadBad}
use Rattle.ep_history.specs.declared.record.Record.TheVariants as record_of
use Rattle.ep_history.specs.History.{head}
use Rattle.ep_history.specs.Pad.{PadState, newest, next_session}
use Rattle.ep_cs.specs.Doc.{Doc}
use Rattle.ep_units.specs.declared.grant.Grant.{Grant}
use Rattle.ep_history.specs.History.{first_rev}
use Rattle.ep_history.specs.Pad.{create}
use Rattle.ep_revs.specs.Revisions.{last_doc}
use Rattle.ep_pad_state.proofs.Pads.{welcome-first}
use Rattle.ep_history.specs.Readings.{CatchUp, Welcome, welcome, catch_up, edited, fetch, fetch_size, nop_heads, revs_behind}
use Rattle.ep_seats.specs.Entering.{answered}
use Rattle.ep_pad_state.specs.declared.change.PadChange.{PadChange}
use Rattle.ep_pad_state.specs.declared.change.PadChange.TheVariants as made_by
use Rattle.ep_pad_state.specs.declared.pad.Pad.{Pad}
use Rattle.ep_history.specs.Entries.Entry.{Fetch}
use Rattle.ep_history.specs.Entries.Answer.{FetchAnswer}
use Rattle.ep_history.specs.Entries.Outcome.{Answers}
use Rattle.ep_pad_state.specs.declared.answers.Fetched.{Fetched}
use Rattle.ep_pad_state.specs.Answering.{Reads, ReadsFirst, fetched_of, first_of}
use Rattle.ep_pad_state.specs.Held.{IsPad}
use Rattle.ep_pad_state.specs.Making.{after, IsReady}
use Rattle.ep_pad_state.specs.Rereading.{IsNextChange, WhereThere}
use Rattle.ep_pad_state.proofs.Readying.{ready-deletion}
use Rattle.ep_history.specs.Pad.{delete}

pub not-both : {Z : Type 0} (b : Bool) → b ≡ true → b ≡ false → Z
not-both b t f = absurd (subst T (sym t ∙ f) tt)

-- what holds of what is there
pub some-of : {A : Type 0} (P : A → Type 0) (o : Option A) (x : A) → o ≡ Some x → IfSome o P → P x
some-of P o x e h = subst (λ y. IfSome y P) e h

-- ---- answers as results

pub said-bad : (f : Option PadBad) (bad : PadBad) → Err bad ≡ answered f → f ≡ Some bad
said-bad None bad e = absurd (cc)
said-bad (Some why) bad e = ap Some (sym (same e))
  where
    same : ◌≡◌ {A = Result (Unit {0}) PadBad} (Err bad) (Err why) → bad ≡ why
    same e = cc

pub said-none : (f : Option PadBad) → Ok tt ≡ answered f → f ≡ None
said-none None e = refl
said-none (Some why) e = absurd (differ e)
  where
    differ : ◌≡◌ {A = Result (Unit {0}) PadBad} (Ok tt) (Err why) → ⊥
    differ e = cc

-- ---- what is fetched, and what is told to who comes back

take-within : {A : Type 0} (n m : ℕ) (xs : List A) → n ≤ m → take n (take m xs) ≡ take n xs
take-within zero m xs h = refl
take-within (suc n) zero xs h = absurd (omega (arith, h))
take-within (suc n) (suc m) [] h = refl
take-within (suc n) (suc m) (x ∷ xs) h = ap (λ ys. x ∷ ys) (take-within n m xs (omega (arith, h)))

take-shorter : {A : Type 0} (n m : ℕ) (xs : List A) → n ≤ m → length (take n xs) ≤ length (take m xs)
take-shorter zero m xs h = omega arith
take-shorter (suc n) zero xs h = absurd (omega (arith, h))
take-shorter (suc n) (suc m) [] h = omega arith
take-shorter (suc n) (suc m) (x ∷ xs) h = omega (arith, take-shorter n m xs (omega (arith, h)))

-- of those up to a number, the ones up to a lower one
within-lower : (a b : ℕ) (hs : List ℕ) → a ≤ b → take_while (λ h. nat_le h a) (take_while (λ h. nat_le h b) hs) ≡ take_while (λ h. nat_le h a) hs
within-lower a b [] le = refl
within-lower a b (h ∷ hs) le = go (within-lower a b hs le) (nat_le h b) refl
  where
    low : nat_le h b ≡ false → (x : Bool) → nat_le h a ≡ x → nat_le h a ≡ false
    low f false e = e
    low f true e = absurd (grind (arith, nat_tests))

    go : take_while (λ q. nat_le q a) (take_while (λ q. nat_le q b) hs) ≡ take_while (λ q. nat_le q a) hs → (y : Bool) → nat_le h b ≡ y
        → take_while (λ q. nat_le q a) (take_while (λ q. nat_le q b) (h ∷ hs)) ≡ take_while (λ q. nat_le q a) (h ∷ hs)
    go later true e =
        ap (take_while (λ q. nat_le q a)) (take_while-cons (λ q. nat_le q b) h hs ∙ ap (λ c. cond c (h ∷ take_while (λ q. nat_le q b) hs) []) e)
        ∙ take_while-cons (λ q. nat_le q a) h (take_while (λ q. nat_le q b) hs)
        ∙ ap (λ hs'. cond (nat_le h a) (h ∷ hs') []) later
        ∙ sym (take_while-cons (λ q. nat_le q a) h hs)
    go later false e =
        ap (take_while (λ q. nat_le q a)) (take_while-cons (λ q. nat_le q b) h hs ∙ ap (λ c. cond c (h ∷ take_while (λ q. nat_le q b) hs) []) e)
        ∙ sym (take_while-cons (λ q. nat_le q a) h hs ∙ ap (λ c. cond c (h ∷ take_while (λ q. nat_le q a) hs) []) (low e (nat_le h a) refl))

-- the first of what is fetched
pub fetched-first : (p : PadState) (s : Session) (from told k n : ℕ) (vs : List Rev) (ns : List ℕ) → k ≤ fetch_size → n ≡ head (newest p) → vs ≡ revs_behind (newest p) from k
    → ns ≡ take_while (λ h. nat_le h (from + length vs)) (drop told (nop_heads s (newest p)))
    → record { head = n; revs = vs; nops = ns } ≡ first_of k from (fetch p s from told)
fetched-first p s from told k n vs ns le en ev es =
    let b = newest p in
    let all = drop from b.later in
    let revs : vs ≡ take k (take fetch_size all) = ev ∙ sym (take-within k fetch_size all le) in
    let lower : length vs ≤ length (take fetch_size all) = subst (λ us. length us ≤ length (take fetch_size all)) (sym ev) (take-shorter k fetch_size all le) in
    let heads = drop told (nop_heads s b) in
    let nops : ns ≡ take_while (λ h. nat_le h (from + length vs)) (take_while (λ h. nat_le h (from + length (take fetch_size all))) heads) =
    es ∙ sym (within-lower (from + length vs) (from + length (take fetch_size all)) heads (omega (arith, lower))) in
    λ i. record { head = en i; revs = revs i; nops = (nops ∙ ap (λ us. take_while (λ h. nat_le h (from + length us)) (take_while (λ h. nat_le h (from + length (take fetch_size all))) heads)) revs) i }

-- all that is fetched is the first of it
pub fetched-all : (p : PadState) (s : Session) (from told : ℕ) → first_of fetch_size from (fetch p s from told) ≡ fetch p s from told
fetched-all p s from told =
    sym (fetched-first p s from told fetch_size (head (newest p)) (revs_behind (newest p) from fetch_size)
    (take_while (λ h. nat_le h (from + length (revs_behind (newest p) from fetch_size))) (drop told (nop_heads s (newest p)))) (omega arith) refl refl refl)

pub reads-all : (k : Pad) (s : Session) (from told : ℕ) (r : Result Fetched PadBad) → ReadsFirst k s from told fetch_size r → Reads k (Fetch s from told) (λ x. FetchAnswer (fetched_of x)) r
reads-all k s from told (Ok x) h p is = let y = h p is in y.0 ∙ ap (λ f. Answers (FetchAnswer f) p) (sym (y.1 ∙ fetched-all p s from told))
reads-all k s from told (Err bad) h p is = h p is

pub caught-up : (p : PadState) (s : Session) (n m t : ℕ) → s ≡ next_session p → n ≡ head (newest p) → m ≡ length p.births → t ≡ edited (newest p)
    → record { session = s; head = n; birth = m; time = t } ≡ catch_up p
caught-up p s n m t es en em et = λ i. all (es i) (en i) (em i) (et i)
  where
    all : Session → ℕ → ℕ → ℕ → CatchUp
    all s n m t = record { session = s; head = n; birth = m; time = t }

-- what is told to who makes the pad by logging in
pub welcome-made : (p : PadState) (g : Grant) (now : ℕ) (s : Session) (n : ℕ) (doc : Doc) (author : Text) (vs : List Rev)
    → s ≡ next_session p → n ≡ suc (length p.births) → doc ≡ last_doc vs → vs ≡ first_rev now [] ∷ [] → author ≡ g.author
    → record { session = s; birth = n; rev = 0; doc = doc; author = author; read_only = g.read_only; time = now } ≡ welcome (create p now []) g
welcome-made p g now s n doc author vs es en ed ev ea = (λ i. all (es i) (en i) (ea i)) ∙ welcome-first p g now doc (ed ∙ ap last_doc ev)
  where
    all : Session → ℕ → Text → Welcome
    all s n author = record { session = s; birth = n; rev = 0; doc = doc; author = author; read_only = g.read_only; time = now }

-- ---- records that are read back

pub is-absent : (n : ℕ) (b : Bool) → 1 ≤ n → b ≡ false → (nat_lt 0 n && not b) ≡ true
is-absent n true h e = absurd (subst T e tt)
is-absent n false h e = grind (arith, nat_tests)

pub deletion-next : (k : Pad) (time : ℕ) (o : Option PadChange) → WhereThere k made_by.Deletion o → IsNextChange k (record_of.Delete time) o
deletion-next k time None w = λ p h n. not-both p.present n (w p h)
deletion-next k time (Some d) w =
    subst (λ c. IsReady k c × ((p : PadState) → IsPad k p → (p.present ≡ true) × (after c p ≡ delete p))) (sym w.0) (ready-deletion k w.1, λ p h. (w.1 p h, refl))

-- ---- texts that are compared

pub other-text : (a b : Text) (r : Bool) → r ≡ not (text_eq a b) → r ≡ true → a ≡ b → ⊥
other-text a b r e h same = not-both (text_eq a b) (ap (λ c. text_eq a c) (sym same) ∙ itself a) (back (text_eq a b) (sym e ∙ h))
  where
    back : (t : Bool) → not t ≡ true → t ≡ false
    back true e = absurd (subst T (sym e) tt)
    back false e = refl

pub same-text : (a b : Text) (r : Bool) → r ≡ not (text_eq a b) → r ≡ false → a ≡ b
same-text a b r e h = exact_test a b (back (text_eq a b) (sym e ∙ h))
  where
    back : (t : Bool) → not t ≡ false → t ≡ true
    back true e = refl
    back false e = absurd (subst T e tt)
