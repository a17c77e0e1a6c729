-- A follower from its beginning to its end.
use Rattle.std.proofs.Common.{◌≡◌, ℕ, zero, suc, ◌+◌, ◌-◌, ◌<◌, ◌≤◌, ◌^◌, Bool, true, false, cond, not, List, [], ◌∷◌, ◌++◌, length, take, drop, replicate, refl, sym, ap, ◌∙◌, subst, T, arith, append_assoc, append-nil}
use Rattle.ep_units.specs.Text.{Text}
use Rattle.ep_attr.specs.AttrMap.{AttrMap, none}
use Rattle.ep_attr.proofs.SameMap.{second_true}
use Rattle.ep_cs.specs.Doc.{Cell, Doc, text_of, is_document}
use Rattle.ep_cs.specs.Edit.{Fate, Place, Edit, Step, inserts, settle, edit_of, with_place, apply}
use Rattle.ep_cs.specs.Edit.Fate.{Drop, Keep}
use Rattle.ep_cs.specs.Edit.Step.{Pass}
use Rattle.ep_cs.specs.Steps.{passed}
use Rattle.ep_cs.specs.Draft.{Draft, blank, drafted, new_length}
use Rattle.ep_cs.specs.Runs.{cells, inserted, run_steps, steps_of, all_passed, rest_kept}
use Rattle.ep_cs.specs.Change.{Change, stamped, bank_of}
use Rattle.ep_cs.specs.Spelling.{new_len}
use Rattle.ep_cs.specs.Fits.{Fits, AreDocuments, is_identity}
use Rattle.ep_cs.specs.NormalRuns.{is_insert_then_drop, precedes, IsRun, AreNormal, IsNormal}
use Rattle.ep_cs.specs.Follow.{goes_first, passes, follow_gap, follow_place, follow_steps, follow}
use Rattle.ep_cs.specs.Normal.{joins}
use Rattle.ep_cs.specs.declared.op.Kind.{Kind}
use Rattle.ep_cs.specs.declared.op.Kind.TheVariants as kind
use Rattle.ep_cs.specs.declared.op.Op.{Op}
use Rattle.ep_cs.proofs.Canonical.{settle-inserts}
use Rattle.ep_cs.proofs.Items.{length-settle}
use Rattle.ep_cs.proofs.Pairs.{follow_keeps_pairs}
use Rattle.ep_cs.proofs.Plain.{length-text_of}
use Rattle.ep_cursor.specs.Left.{Left, left_of, steps_left}
use Rattle.ep_cursor.specs.Made.{text_made, given}
use Rattle.ep_cs.proofs.Documents.{documents-append, AreBlocks, blocks, pieces_of}
use Rattle.ep_cursor.proofs.Made.{passed-append, passed_times, length-run}
use Rattle.ep_cursor.proofs.Starts.{edit_left, passed_left, given_left, text_left, said_left}
use Rattle.ep_cursor.proofs.TrueDrafts.{true_blank, true_drafted}
use Rattle.ep_follow.specs.Gaps.{gather, followed}
use Rattle.ep_follow.specs.Following.{UnderWay, IsFollower}
use Rattle.ep_follow.proofs.Steps.{gather-inserts, followed_rest}
use Rattle.ep_follow.proofs.Identities.{through_identity, follows_nothing}

-- ---- runs in normal form say each gap as it is

abbrev is_drop_kind : Kind → Bool
is_drop_kind kind.Keep = false
is_drop_kind kind.Drop = true
is_drop_kind kind.Insert = false

abbrev drops_first : List Op → Bool
drops_first [] = false
drops_first (o ∷ os) = is_drop_kind o.kind

-- no drop stands behind an insert
insert_precedes : (o : Op) (os : List Op) → o.kind ≡ kind.Insert → precedes o os ≡ true → drops_first os ≡ false
insert_precedes o [] e h = refl
insert_precedes o (p ∷ ps) e h = go p.kind (ap (λ k. not (is_insert_then_drop k p.kind)) (sym e) ∙ second_true (not (joins o p)) (not (is_insert_then_drop o.kind p.kind)) h)
  where
    go : (k : Kind) → not (is_insert_then_drop kind.Insert k) ≡ true → is_drop_kind k ≡ false
    go kind.Keep h = refl
    go kind.Drop h = absurd (subst T (sym h) tt)
    go kind.Insert h = refl

rest_gathered : (w : List Cell) (r : ℕ) → settle w (rest_kept r) ≡ gather w (rest_kept r)
rest_gathered w zero = refl
rest_gathered w (suc r) = ap (with_place (record { before = w; fate = Keep none })) (rest_gathered [] r)

keeps_gathered : (w : List Cell) (n : ℕ) (m : AttrMap) (s : List Step) → 1 ≤ n → settle [] s ≡ gather [] s → settle w (replicate n (Pass (Keep m)) ++ s) ≡ gather w (replicate n (Pass (Keep m)) ++ s)
keeps_gathered w zero m s h e = absurd (omega (arith, h))
keeps_gathered w (suc zero) m s h e = ap (with_place (record { before = w; fate = Keep m })) e
keeps_gathered w (suc (suc n)) m s h e = ap (with_place (record { before = w; fate = Keep m })) (keeps_gathered [] (suc n) m s (omega arith) e)

drops_gathered : (n : ℕ) (s : List Step) → settle [] s ≡ gather [] s → settle [] (replicate n (Pass Drop) ++ s) ≡ gather [] (replicate n (Pass Drop) ++ s)
drops_gathered zero s e = e
drops_gathered (suc n) s e = ap (with_place (record { before = []; fate = Drop })) (drops_gathered n s e)

normal_gathered : (w : List Cell) (ops : List Op) (bank : Text) (r : ℕ) → AreNormal ops bank → (drops_first ops ≡ true → w ≡ []) → settle w (steps_of ops bank ++ rest_kept r) ≡ gather w (steps_of ops bank ++ rest_kept r)
normal_gathered w [] bank r n d = rest_gathered w r
normal_gathered w (o ∷ os) bank r n d =
    let text : Text = take (inserted o.kind o.units) bank in
    let later : List Step = steps_of os (drop (inserted o.kind o.units) bank) ++ rest_kept r in
    let parts = append_assoc (run_steps o.kind o.units o.attrs text) (steps_of os (drop (inserted o.kind o.units) bank)) (rest_kept r) in
    ap (settle w) parts
    ∙ go o.kind text later refl n.0 d (λ v. normal_gathered v os (drop (inserted o.kind o.units) bank) r n.2)
    ∙ ap (gather w) (sym parts)
  where
    go : (k : Kind) (text : Text) (later : List Step) → o.kind ≡ k → IsRun k o.units o.lines o.attrs text → (is_drop_kind k ≡ true → w ≡ [])
        → ((v : List Cell) → (drops_first os ≡ true → v ≡ []) → settle v later ≡ gather v later)
        → settle w (run_steps k o.units o.attrs text ++ later) ≡ gather w (run_steps k o.units o.attrs text ++ later)
    go kind.Keep text later e is d again = keeps_gathered w o.units o.attrs later is (again [] (λ _. refl))
    go kind.Drop text later e is d again =
        ap (λ v. settle v (replicate o.units (Pass Drop) ++ later)) (d refl)
        ∙ drops_gathered o.units later (again [] (λ _. refl))
        ∙ ap (λ v. gather v (replicate o.units (Pass Drop) ++ later)) (sym (d refl))
    go kind.Insert text later e is d again =
        settle-inserts w (cells o.attrs text) later
        ∙ again (w ++ cells o.attrs text) (λ h. absurd (subst T (sym h ∙ insert_precedes o os e n.1) tt))
        ∙ sym (gather-inserts w (cells o.attrs text) later)

-- all of a change, gap by gap, is its edit
pub all_gathered : (c : Change) → IsNormal c → gather [] (steps_left (left_of c)) ≡ c.edit
all_gathered c n =
    sym (normal_gathered [] c.runs (bank_of c.edit) (length c.edit.places - all_passed c.runs) n.normal (λ _. refl))
    ∙ sym (edit_left c n)

pub all_followed : (side : Bool) (a b : Change) → IsNormal a → IsNormal b → followed side (steps_left (left_of a)) (steps_left (left_of b)) ≡ follow_steps side a.edit.places b.edit.places a.edit.last b.edit.last
all_followed side a b na nb = (λ i. between_edits (all_gathered a na i) (all_gathered b nb i))
  where
    between_edits : Edit → Edit → List Step
    between_edits a b = follow_steps side a.places b.places a.last b.last

-- ---- the beginning

pub under_way : (a b : Change) → IsNormal a → IsNormal b → (doc : Doc) → Fits a doc → Fits b doc → new_len a.edit + length (bank_of b.edit) < 2 ^ 32
    → UnderWay (text_of (apply a.edit doc)) (blank (new_len a.edit)) (left_of a) (left_of b)
under_way a b na nb doc fa fb short =
    let s : List Step = steps_left (left_of a) in
    let text : Text = text_of doc in
    let long : length text ≡ passed s = length-text_of doc ∙ fa.length ∙ sym (passed_left a na) in
    let made : text_of (apply a.edit doc) ≡ text_made s text = text_left a na doc in
    record {
      level = sym long ∙ length-text_of doc ∙ fb.length ∙ sym (passed_left b nb);
      places = omega (arith, given_left a na);
      long = ap length made ∙ length-run (λ u m. u) (λ c. c.unit) s text (omega (arith, long)) ∙ given_left a na;
      short = omega (arith, short);
      written = true_blank (new_len a.edit) (text_of (apply a.edit doc));
      text = text;
      all = long;
      first = said_left a na doc fa;
      second = said_left b nb doc fb;
      here = made;
    }

-- ---- the end

-- the follower is written as far as the second change goes
pub record IsDone (side : Bool) (a b : Change) (out : Draft) (left right : Left) : Type 0 where
  pub same : out.steps ++ followed side (steps_left left) (steps_left right) ≡ followed side (steps_left (left_of a)) (steps_left (left_of b))
  pub done : right.ops ≡ []

pub done_steps : (side : Bool) (a b : Change) (made : Text) (out : Draft) (left right : Left) → IsNormal a → IsNormal b → IsDone side a b out left right → UnderWay made out left right
    → out.steps ++ rest_kept (out.old - passed out.steps) ≡ follow_steps side a.edit.places b.edit.places a.edit.last b.edit.last
done_steps side a b made out left right na nb d u =
    let kept : steps_left right ≡ rest_kept right.rest = ap (λ ops. steps_of ops right.bank ++ rest_kept right.rest) d.done in
    let n : out.old - passed out.steps ≡ given (steps_left left) = omega (arith, u.places) in
    ap (λ (k : ℕ). out.steps ++ rest_kept k) n
    ∙ ap (λ s. out.steps ++ s) (sym (followed_rest side (steps_left left) right.rest (u.level ∙ ap passed kept ∙ passed_times right.rest (Keep none))))
    ∙ ap (λ s. out.steps ++ followed side (steps_left left) s) (sym kept)
    ∙ d.same ∙ all_followed side a b na nb

pub done_edit : (side : Bool) (a b : Change) (made : Text) (out : Draft) (left right : Left) → IsNormal a → IsNormal b → IsDone side a b out left right → UnderWay made out left right
    → (drafted out).edit ≡ follow side a.edit b.edit
done_edit side a b made out left right na nb d u = ap edit_of (done_steps side a b made out left right na nb d u)

pub done_is : (side : Bool) (a b : Change) (made : Text) (out : Draft) (left right : Left) → IsNormal a → IsNormal b → IsDone side a b out left right → UnderWay made out left right
    → drafted out ≡ stamped (follow side a.edit b.edit) made
done_is side a b made out left right na nb d u =
    true_drafted out made u.written u.long ∙ ap (λ (e : Edit). stamped e made) (done_edit side a b made out left right na nb d u)

pub done_short : (made : Text) (out : Draft) (left right : Left) → UnderWay made out left right → new_length out < 2 ^ 32
done_short made out left right u = omega (arith, u.short)

-- ---- what is inserted

abbrev IsBlocked : List Step → Type 0
IsBlocked s = (w : List Cell) → is_document w ≡ true → AreBlocks w s

blocked_passes : (x : List Cell) (s : List Step) → IsBlocked s → IsBlocked (passes x ++ s)
blocked_passes [] s h = h
blocked_passes (c ∷ x) s h = λ w d. (d, blocked_passes x s h [] refl)

waiting_inserts : (w x : List Cell) (s : List Step) → AreBlocks (w ++ x) s → AreBlocks w (inserts x ++ s)
waiting_inserts w [] s h = subst (λ v. AreBlocks v s) (append-nil w) h
waiting_inserts w (c ∷ x) s h = waiting_inserts (w ++ c ∷ []) x s (subst (λ v. AreBlocks v s) (sym (append_assoc w (c ∷ []) x)) h)

blocked_inserts : (x : List Cell) (s : List Step) → is_document x ≡ true → IsBlocked s → IsBlocked (inserts x ++ s)
blocked_inserts x s e h = λ w d. waiting_inserts w x s (h (w ++ x) (documents-append w x d e))

blocked_gap : (side : Bool) (x y : List Cell) (s : List Step) → is_document y ≡ true → IsBlocked s → IsBlocked (follow_gap side x y ++ s)
blocked_gap side x y s e h = go (goes_first side x y)
  where
    go : (t : Bool) → IsBlocked (cond t (passes x ++ inserts y) (inserts y ++ passes x) ++ s)
    go true = subst IsBlocked (sym (append_assoc (passes x) (inserts y) s)) (blocked_passes x (inserts y ++ s) (blocked_inserts y s e h))
    go false = subst IsBlocked (sym (append_assoc (inserts y) (passes x) s)) (blocked_inserts y (passes x ++ s) e (blocked_passes x s h))

blocked_place : (f g : Fate) (s : List Step) → IsBlocked s → IsBlocked (follow_place f g ++ s)
blocked_place Drop g s h = h
blocked_place (Keep a) Drop s h = λ w d. (d, h [] refl)
blocked_place (Keep a) (Keep b) s h = λ w d. (d, h [] refl)

nothing_more : IsBlocked []
nothing_more w d = d

-- what follows inserts documents, where the second change does
blocked_follow : (side : Bool) (ps qs : List Place) (la lb : List Cell) → length ps ≡ length qs → AreDocuments qs lb → IsBlocked (follow_steps side ps qs la lb)
blocked_follow side [] [] la lb n d = subst IsBlocked (append-nil (follow_gap side la lb)) (blocked_gap side la lb [] d nothing_more)
blocked_follow side [] (q ∷ qs) la lb n d = absurd (omega (arith, n))
blocked_follow side (p ∷ ps) [] la lb n d = absurd (omega (arith, n))
blocked_follow side (p ∷ ps) (q ∷ qs) la lb n d =
    blocked_gap side p.before q.before (follow_place p.fate q.fate ++ follow_steps side ps qs la lb) d.0
    (blocked_place p.fate q.fate (follow_steps side ps qs la lb) (blocked_follow side ps qs la lb (omega (arith, n)) d.1))

pub follow_documents : (side : Bool) (a b : Edit) → length a.places ≡ length b.places → AreDocuments b.places b.last → AreDocuments (follow side a b).places (follow side a b).last
follow_documents side a b n d = blocks [] [] (follow_steps side a.places b.places a.last b.last) refl (blocked_follow side a.places b.places a.last b.last n d [] refl)

-- ---- what follows fits

pub done_fits : (side : Bool) (a b : Change) (doc : Doc) (out : Draft) (left right : Left) → IsNormal a → IsNormal b → Fits a doc → Fits b doc → IsDone side a b out left right → UnderWay (text_of (apply a.edit doc)) out left right
    → Fits (stamped (follow side a.edit b.edit) (text_of (apply a.edit doc))) (apply a.edit doc)
done_fits side a b doc out left right na nb fa fb d u =
    let made : Text = text_of (apply a.edit doc) in
    let r = out.old - passed out.steps in
    let places : length (follow side a.edit b.edit).places ≡ out.old =
    length-settle [] (follow_steps side a.edit.places b.edit.places a.edit.last b.edit.last)
    ∙ ap passed (sym (done_steps side a b made out left right na nb d u))
    ∙ passed-append out.steps (rest_kept r) ∙ ap (λ (k : ℕ). passed out.steps + k) (passed_times r (Keep none)) ∙ omega (arith, u.places) in
    record {
      length = sym (length-text_of (apply a.edit doc)) ∙ u.long ∙ sym places;
      runs = refl;
      pairs = follow_keeps_pairs side a.edit b.edit doc (sym fa.length ∙ fb.length) fa.length (pieces_of a.edit.places a.edit.last na.pieces) fa.pairs fb.pairs;
    }

-- ---- the walk from beginning to end

pub record IsWalked (side : Bool) (a b : Change) (begun out : Draft) (left right left' right' : Left) : Type 0 where
  pub first_normal : IsNormal a
  pub second_normal : IsNormal b
  pub begins : begun ≡ blank (new_len a.edit)
  pub first : left ≡ left_of a
  pub second : right ≡ left_of b
  pub room : new_len a.edit + length (bank_of b.edit) < 2 ^ 32
  pub same : out.steps ++ followed side (steps_left left') (steps_left right') ≡ begun.steps ++ followed side (steps_left left) (steps_left right)
  pub done : right'.ops ≡ []
  pub go : (made : Text) → UnderWay made begun left right → UnderWay made out left' right'

pub started : (made : Text) (a b : Change) (begun : Draft) (left right : Left) → begun ≡ blank (new_len a.edit) → left ≡ left_of a → right ≡ left_of b
    → UnderWay made (blank (new_len a.edit)) (left_of a) (left_of b) → UnderWay made begun left right
started made a b begun left right o l r u = subst (λ (x : Draft × (Left × Left)). UnderWay made x.0 x.1.0 x.1.1) (λ i. (sym o i, (sym l i, sym r i))) u

walked_way : (side : Bool) (a b : Change) (begun out : Draft) (left right left' right' : Left) → IsWalked side a b begun out left right left' right' → (doc : Doc) → Fits a doc → Fits b doc
    → UnderWay (text_of (apply a.edit doc)) out left' right'
walked_way side a b begun out left right left' right' w doc fa fb =
    w.go (text_of (apply a.edit doc)) (started (text_of (apply a.edit doc)) a b begun left right w.begins w.first w.second (under_way a b w.first_normal w.second_normal doc fa fb w.room))

walked_done : (side : Bool) (a b : Change) (begun out : Draft) (left right left' right' : Left) → IsWalked side a b begun out left right left' right' → IsDone side a b out left' right'
walked_done side a b begun out left right left' right' w = record {
  same = w.same ∙ (λ i. (w.begins i).steps ++ followed side (steps_left (w.first i)) (steps_left (w.second i)));
  done = w.done;
}

pub walked_follows : (side : Bool) (a b : Change) (begun out : Draft) (left right left' right' : Left) → IsWalked side a b begun out left right left' right' → (doc : Doc) → Fits a doc → Fits b doc → IsFollower side a b doc out
walked_follows side a b begun out left right left' right' w doc fa fb =
    let made : Text = text_of (apply a.edit doc) in
    let u = walked_way side a b begun out left right left' right' w doc fa fb in
    let d = walked_done side a b begun out left right left' right' w in
    let na = w.first_normal in
    let nb = w.second_normal in
    let is = done_is side a b made out left' right' na nb d u in
    record {
      short = done_short made out left' right' u;
      pieces = subst (λ (e : Edit). AreDocuments e.places e.last) (sym (done_edit side a b made out left' right' na nb d u)) (follow_documents side a.edit b.edit (sym fa.length ∙ fb.length) nb.pieces);
      is = is;
      through = λ e. is ∙ through_identity side a b doc nb fa fb e;
      nothing = λ e. ap (λ (c : Change). is_identity c.edit) is ∙ follows_nothing side a b doc fa fb e;
      fits = subst (λ c. Fits c (apply a.edit doc)) (sym is) (done_fits side a b doc out left' right' na nb fa fb d u);
    }
