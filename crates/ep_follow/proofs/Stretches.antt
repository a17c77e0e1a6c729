-- Places of one run in both changes.
use Rattle.std.proofs.Common.{◌≡◌, ℕ, zero, suc, ◌+◌, ◌-◌, ◌<◌, ◌≤◌, inl, Bool, false, List, [], ◌∷◌, ◌++◌, length, take, drop, replicate, refl, sym, ap, ◌∙◌, subst, T, arith, append_assoc, length-append, length-take-le}
use Rattle.std.proofs.lemmas.List.{length-replicate, replicate-append-replicate}
use Rattle.ep_units.specs.Text.{Text}
use Rattle.ep_attr.specs.AttrMap.{AttrMap, none, rest}
use Rattle.ep_cs.specs.Edit.{Fate, Step}
use Rattle.ep_cs.specs.Edit.Fate.{Drop, Keep}
use Rattle.ep_cs.specs.Edit.Step.{Pass}
use Rattle.ep_cs.specs.Steps.{passed}
use Rattle.ep_attr.proofs.Maps.{none-rest, rest-none}
use Rattle.ep_cs.specs.Draft.{Draft, inserted_by}
use Rattle.ep_cs.specs.Runs.{inserted, passed as run_passed, run_steps, steps_of, rest_kept}
use Rattle.ep_cs.specs.Change.{newlines}
use Rattle.ep_cs.specs.NormalRuns.{IsLined}
use Rattle.ep_cs.specs.declared.op.Kind.{Kind}
use Rattle.ep_cs.specs.declared.op.Kind.TheVariants as kind
use Rattle.ep_cs.proofs.Drafts.{inserted-append, kept_times, inserted_times}
use Rattle.ep_cursor.specs.declared.cursor.Head.{Head}
use Rattle.ep_cursor.specs.Heads.{IsHead, op_of}
use Rattle.ep_cursor.specs.Left.{Left, steps_left, advanced, skipped}
use Rattle.ep_cursor.specs.Made.{text_made, given}
use Rattle.ep_cursor.specs.Said.{source, IsSaid, AreSaid}
use Rattle.ep_cursor.specs.TrueDraft.{IsTrueDraft}
use Rattle.ep_cursor.proofs.Made.{passed-append, passed_times, text_kept, given-append, given_kept, given_dropped}
use Rattle.ep_cursor.specs.Part.{IsShorter}
use Rattle.ep_cursor.proofs.Parts.{inside_first, inside_second, lines_front, piece}
use Rattle.ep_cursor.proofs.Lined.{lined_within, IsPiece}
use Rattle.ep_cursor.proofs.Advances.{IsTaken, taken_steps, taken_said, taken_bank}
use Rattle.ep_cursor.proofs.TrueDrafts.{GoesOn, true_keep, true_drop}
use Rattle.ep_follow.specs.Gaps.{followed, is_insert, begins_with_insert, fate_of, kept_of, followed_run}
use Rattle.ep_follow.specs.Following.{UnderWay}
use Rattle.ep_follow.specs.declared.writer.Writer.{Writer}
use Rattle.ep_follow.specs.Writing.{said, waiting, IsKept, IsFollowedRun, IsTrueWriter, IsGoing}
use Rattle.ep_follow.proofs.Steps.{run_of, followed_runs}
use Rattle.ep_follow.proofs.Going.{go_on, made_on}
use Rattle.ep_follow.proofs.Writers.{run_goes_said}

-- k places of one fate
abbrev pub times : ℕ → Fate → List Step
times k f = replicate k (Pass f)

given_run : (k : ℕ) (f : Fate) → given (times k f) ≡ kept_of k f
given_run k Drop = given_dropped k
given_run k (Keep m) = given_kept k m

-- ---- a part of a run that passes places

pub record IsPass (h : Head) (l l' : Left) (k lines : ℕ) : Type 0 where
  pub head : IsHead h l
  pub passes : begins_with_insert l.ops ≡ false
  pub is : l' ≡ advanced k lines l
  pub within : k ≤ h.units

pub no_insert : (h : Head) (l : Left) → IsHead h l → begins_with_insert l.ops ≡ false → is_insert h.kind ≡ false
no_insert h l head e = sym (ap begins_with_insert head.first) ∙ e

pass_taken : (h : Head) (l l' : Left) (k lines : ℕ) → IsPass h l l' k lines → IsTaken l l' (op_of h) k lines
pass_taken h l l' k lines p = record { first = p.head.first; is = p.is; within = p.within }

run_passes : (kd : Kind) (k : ℕ) (m : AttrMap) (us : Text) → is_insert kd ≡ false → run_steps kd k m us ≡ times k (fate_of kd m)
run_passes kind.Keep k m us e = refl
run_passes kind.Drop k m us e = refl
run_passes kind.Insert k m us e = absurd (subst T e tt)

none_inserted : (kd : Kind) (k : ℕ) → is_insert kd ≡ false → inserted kd k ≡ 0
none_inserted kind.Keep k e = refl
none_inserted kind.Drop k e = refl
none_inserted kind.Insert k e = absurd (subst T e tt)

all_passed : (kd : Kind) (k : ℕ) → is_insert kd ≡ false → run_passed kd k ≡ k
all_passed kind.Keep k e = refl
all_passed kind.Drop k e = refl
all_passed kind.Insert k e = absurd (subst T e tt)

from_text : (kd : Kind) (bank us : Text) → is_insert kd ≡ false → source kd bank us ≡ us
from_text kind.Keep bank us e = refl
from_text kind.Drop bank us e = refl
from_text kind.Insert bank us e = absurd (subst T e tt)

pub pass_steps : (h : Head) (l l' : Left) (k lines : ℕ) → IsPass h l l' k lines → steps_left l ≡ times k (fate_of h.kind h.attrs.now) ++ steps_left l'
pass_steps h l l' k lines p =
    taken_steps l l' (op_of h) k lines (pass_taken h l l' k lines p)
    ∙ ap (λ s. s ++ steps_left l') (run_passes h.kind k h.attrs.now (take (inserted h.kind k) l.bank) (no_insert h l p.head p.passes))

pass_bank : (h : Head) (l l' : Left) (k lines : ℕ) → IsPass h l l' k lines → l'.bank ≡ l.bank
pass_bank h l l' k lines p = taken_bank l l' (op_of h) k lines (pass_taken h l l' k lines p) ∙ ap (λ (n : ℕ). drop n l.bank) (none_inserted h.kind k (no_insert h l p.head p.passes))

-- what a head that passes places says of the text
pub pass_says : (h : Head) (l : Left) (us : Text) → IsHead h l → begins_with_insert l.ops ≡ false → AreSaid l.ops l.bank us → IsSaid h.units h.lines us
pass_says h l us head e said =
    let all : AreSaid (op_of h ∷ drop 1 l.ops) l.bank us = subst (λ ops. AreSaid ops l.bank us) head.first said in
    subst (IsSaid h.units h.lines) (from_text h.kind l.bank us (no_insert h l head e)) all.0

pass_said : (h : Head) (l l' : Left) (k lines : ℕ) (us : Text) → IsPass h l l' k lines → (k < h.units → IsLined (h.lines - lines) (drop k (newlines (take h.units us)))) → AreSaid l.ops l.bank us → AreSaid l'.ops l'.bank (drop k us)
pass_said h l l' k lines us p rest said =
    let e = no_insert h l p.head p.passes in
    subst (λ (n : ℕ). AreSaid l'.ops l'.bank (drop n us)) (all_passed h.kind k e)
    (taken_said l l' (op_of h) k lines us (pass_taken h l l' k lines p)
    (λ g. subst (λ vs. IsLined (h.lines - lines) (drop k (newlines (take h.units vs)))) (sym (from_text h.kind l.bank us e)) (rest g)) said)

-- ---- the shorter of two

pub part_piece : (us : Text) (k l n lo m lp : ℕ) → IsShorter k l n lo m lp → IsSaid n lo us → IsSaid m lp us → IsPiece k n m l lo lp (newlines (take n us)) (newlines (take m us))
part_piece us k l n lo m lp h a b = piece k l n lo m lp us us h a b refl

pub shorter_within : (k l n lo m lp : ℕ) → IsShorter k l n lo m lp → (k ≤ n) × (k ≤ m)
shorter_within k l n lo m lp h = (inside_first k l n lo m lp h, inside_second k l n lo m lp h)

some_of : (k l : ℕ) (us : Text) → IsLined l (newlines (take k us)) → 1 ≤ k
some_of zero l us h = absurd h
some_of (suc k) l us h = omega arith

-- ---- what follows

pub run_same : (side : Bool) (k l : ℕ) (f g : Fate) (out out' : Draft) (sa sa' sb sb' : List Step) → out' ≡ followed_run out k l f g → sa ≡ times k f ++ sa' → sb ≡ times k g ++ sb'
    → out'.steps ++ followed side sa' sb' ≡ out.steps ++ followed side sa sb
run_same side k l f g out out' sa sa' sb sb' o ea eb =
    ap (λ (d : Draft). d.steps ++ followed side sa' sb') o
    ∙ written f g
    ∙ ap (λ s. out.steps ++ s) (sym (followed_runs side k f g sa' sb'))
    ∙ (λ i. out.steps ++ followed side (sym ea i) (sym eb i))
  where
    written : (f g : Fate) → (followed_run out k l f g).steps ++ followed side sa' sb' ≡ out.steps ++ (run_of k f g ++ followed side sa' sb')
    written Drop g = refl
    written (Keep a) Drop = append_assoc out.steps (times k Drop) (followed side sa' sb')
    written (Keep a) (Keep b) = append_assoc out.steps (times k (Keep (rest a b))) (followed side sa' sb')

-- the places that are taken, of the text that is left
record IsStretch (made : Text) (out : Draft) (k l : ℕ) (us later : Text) : Type 0 where
  pub room : k ≤ length us
  pub lined : IsLined l (newlines (take k us))
  pub is : drop (passed out.steps) made ≡ take k us ++ later

kept_goes : (made : Text) (out : Draft) (k l : ℕ) (us later : Text) → IsStretch made out k l us later → GoesOn out made (take k us) later k l
kept_goes made out k l us later s = record { is = s.is; long = length-take-le k us s.room; some = some_of k l us s.lined; lined = s.lined }

run_true : (made : Text) (out : Draft) (k l : ℕ) (f g : Fate) (us later : Text) → ((m : AttrMap) → f ≡ Keep m → IsStretch made out k l us later) → IsTrueDraft out made → IsTrueDraft (followed_run out k l f g) made
run_true made out k l Drop g us later s t = t
run_true made out k l (Keep a) Drop us later s t = true_drop out made (take k us) later k l t (kept_goes made out k l us later (s a refl))
run_true made out k l (Keep a) (Keep b) us later s t = true_keep out made (take k us) later k l (rest a b) t (kept_goes made out k l us later (s a refl))

run_passed_is : (out : Draft) (k l : ℕ) (f g : Fate) → passed (followed_run out k l f g).steps ≡ passed out.steps + kept_of k f
run_passed_is out k l Drop g = omega arith
run_passed_is out k l (Keep a) Drop = passed-append out.steps (times k Drop) ∙ ap (λ (n : ℕ). passed out.steps + n) (passed_times k Drop)
run_passed_is out k l (Keep a) (Keep b) = passed-append out.steps (times k (Keep (rest a b))) ∙ ap (λ (n : ℕ). passed out.steps + n) (passed_times k (Keep (rest a b)))

run_inserted : (out : Draft) (k l : ℕ) (f g : Fate) → inserted_by (followed_run out k l f g).steps ≡ inserted_by out.steps
run_inserted out k l Drop g = refl
run_inserted out k l (Keep a) Drop = omega (arith, inserted-append out.steps (times k Drop), inserted_times k)
run_inserted out k l (Keep a) (Keep b) = omega (arith, inserted-append out.steps (times k (Keep (rest a b))), (kept_times k (rest a b)).1)

run_old : (out : Draft) (k l : ℕ) (f g : Fate) → (followed_run out k l f g).old ≡ out.old
run_old out k l Drop g = refl
run_old out k l (Keep a) Drop = refl
run_old out k l (Keep a) (Keep b) = refl

stretch_of : (made : Text) (out : Draft) (a b a' : Left) (k l : ℕ) (f : Fate) (u : UnderWay made out a b) → steps_left a ≡ times k f ++ steps_left a' → k ≤ length u.text → IsLined l (newlines (take k u.text))
    → (m : AttrMap) → f ≡ Keep m → IsStretch made out k l u.text (text_made (steps_left a') (drop (passed (times k f)) u.text))
stretch_of made out a b a' k l f u ea room lined m e =
    let p : passed (times k f) ≡ k = passed_times k f in
    let kept : text_made (times k f) (take (passed (times k f)) u.text) ≡ take k u.text =
    (λ i. text_made (times k (e i)) (take (p i) u.text)) ∙ text_kept k m (take k u.text) (length-take-le k u.text room) in
    record { room = room; lined = lined; is = made_on made out a b a' (times k f) u ea ∙ ap (λ us. us ++ text_made (steps_left a') (drop (passed (times k f)) u.text)) kept }

-- the follower goes on at so many places of one fate in both
pub run_goes : (made : Text) (out out' : Draft) (a b a' b' : Left) (k l : ℕ) (f g : Fate) (u : UnderWay made out a b)
    → out' ≡ followed_run out k l f g → steps_left a ≡ times k f ++ steps_left a' → steps_left b ≡ times k g ++ steps_left b'
    → b'.bank ≡ b.bank → k ≤ length u.text → IsLined l (newlines (take k u.text))
    → AreSaid a'.ops a'.bank (drop k u.text) → AreSaid b'.ops b'.bank (drop k u.text)
    → UnderWay made out' a' b'
run_goes made out out' a b a' b' k l f g u o ea eb bank room lined first second =
    let p : passed (times k f) ≡ k = passed_times k f in
    let later : Text = text_made (steps_left a') (drop (passed (times k f)) u.text) in
    go_on made out out' a b a' b' (times k f) (times k g) u ea eb (p ∙ sym (passed_times k g))
    (ap (λ (d : Draft). d.old) o ∙ run_old out k l f g)
    (ap (λ (d : Draft). passed d.steps) o ∙ run_passed_is out k l f g ∙ ap (λ (n : ℕ). passed out.steps + n) (sym (given_run k f)))
    (omega (arith, ap (λ (d : Draft). inserted_by d.steps) o, run_inserted out k l f g, ap length bank))
    (subst (λ d. IsTrueDraft d made) (sym o) (run_true made out k l f g u.text later (stretch_of made out a b a' k l f u ea room lined) u.written))
    (subst (λ (n : ℕ). AreSaid a'.ops a'.bank (drop n u.text)) (sym p) first)
    (subst (λ (n : ℕ). AreSaid b'.ops b'.bank (drop n u.text)) (sym p) second)

pub run_room : (made : Text) (out : Draft) (a b a' : Left) (k : ℕ) (f : Fate) → UnderWay made out a b → steps_left a ≡ times k f ++ steps_left a' → passed out.steps + kept_of k f ≤ out.old
run_room made out a b a' k f u ea = omega (arith, u.places, ap given ea, given-append (times k f) (steps_left a'), given_run k f)

pub run_less : (k : ℕ) (f : Fate) (s s' : List Step) → 1 ≤ k → s ≡ times k f ++ s' → length s' < length s
run_less k f s s' h e = omega (arith, h, ap length e, length-append (times k f) s', length-replicate k (Pass f))

-- ---- both changes have a run

-- the part that both take
pub record IsBoth (made : Text) (out : Draft) (a b a' b' : Left) (h q : Head) (k l : ℕ) : Type 0 where
  pub going : UnderWay made out a b
  pub first : IsPass h a a' k l
  pub second : IsPass q b b' k l
  pub shorter : IsShorter k l h.units h.lines q.units q.lines

pub both_piece : (us : Text) (a b : Left) (h q : Head) (k l : ℕ) → IsShorter k l h.units h.lines q.units q.lines → IsHead h a → IsHead q b → begins_with_insert a.ops ≡ false → begins_with_insert b.ops ≡ false
    → AreSaid a.ops a.bank us → AreSaid b.ops b.bank us → IsPiece k h.units q.units l h.lines q.lines (newlines (take h.units us)) (newlines (take q.units us))
both_piece us a b h q k l s ha hb na nb sa sb = part_piece us k l h.units h.lines q.units q.lines s (pass_says h a us ha na sa) (pass_says q b us hb nb sb)

pub both_lined : (us : Text) (a : Left) (h : Head) (k l lo lp m : ℕ) (ls : List ℕ) → IsHead h a → begins_with_insert a.ops ≡ false → AreSaid a.ops a.bank us → k ≤ h.units
    → IsPiece k h.units m l lo lp (newlines (take h.units us)) ls → (k ≤ length us) × IsLined l (newlines (take k us))
both_lined us a h k l lo lp m ls ha na sa within p =
    let said = pass_says h a us ha na sa in
    (omega (arith, said.0, within), subst (IsLined l) (lines_front k h.units us within) p.lined)

pub both_goes : (made : Text) (out out' : Draft) (a b a' b' : Left) (h q : Head) (k l : ℕ) → IsBoth made out a b a' b' h q k l
    → out' ≡ followed_run out k l (fate_of h.kind h.attrs.now) (fate_of q.kind q.attrs.now) → UnderWay made out' a' b'
both_goes made out out' a b a' b' h q k l i o =
    let u = i.going in
    let p = both_piece u.text a b h q k l i.shorter i.first.head i.second.head i.first.passes i.second.passes u.first u.second in
    let part = both_lined u.text a h k l h.lines q.lines q.units (newlines (take q.units u.text)) i.first.head i.first.passes u.first i.first.within p in
    run_goes made out out' a b a' b' k l (fate_of h.kind h.attrs.now) (fate_of q.kind q.attrs.now) u o
    (pass_steps h a a' k l i.first) (pass_steps q b b' k l i.second) (pass_bank q b b' k l i.second) part.0 part.1
    (pass_said h a a' k l u.text i.first p.first_rest u.first)
    (pass_said q b b' k l u.text i.second p.second_rest u.second)

pub both_goes_said : (made : Text) (w w' : Writer) (a b a' b' : Left) (h q : Head) (k l : ℕ) → IsTrueWriter w made → IsBoth made (said w) a b a' b' h q k l
    → IsFollowedRun w k l (fate_of h.kind h.attrs.now) (fate_of q.kind q.attrs.now) w' → IsGoing made w' a' b'
both_goes_said made w w' a b a' b' h q k l t i e =
    let u = i.going in
    let f : Fate = fate_of h.kind h.attrs.now in
    let g : Fate = fate_of q.kind q.attrs.now in
    let p = both_piece u.text a b h q k l i.shorter i.first.head i.second.head i.first.passes i.second.passes u.first u.second in
    let part = both_lined u.text a h k l h.lines q.lines q.units (newlines (take q.units u.text)) i.first.head i.first.passes u.first i.first.within p in
    let later : Text = text_made (steps_left a') (drop (passed (times k f)) u.text) in
    run_goes_said made w w' a' b' (take k u.text) later k l f g e t
    (λ m is. kept_goes made (said w) k l u.text later (stretch_of made (said w) a b a' k l f u (pass_steps h a a' k l i.first) part.0 part.1 m is))
    (both_goes made (said w) (followed_run (said w) k l f g) a b a' b' h q k l i refl)

-- what is known of the part before it is taken
pub record IsPart (a b : Left) (h q : Head) (k l : ℕ) : Type 0 where
  pub some : 1 ≤ k
  pub lines : l ≤ k
  pub first_lines : l ≤ h.lines
  pub second_lines : l ≤ q.lines

pub part_is : (us : Text) (a b : Left) (h q : Head) (k l : ℕ) → IsShorter k l h.units h.lines q.units q.lines → IsHead h a → IsHead q b → begins_with_insert a.ops ≡ false → begins_with_insert b.ops ≡ false
    → AreSaid a.ops a.bank us → AreSaid b.ops b.bank us → IsPart a b h q k l
part_is us a b h q k l s ha hb na nb sa sb =
    let p = both_piece us a b h q k l s ha hb na nb sa sb in
    let within = (shorter_within k l h.units h.lines q.units q.lines s).0 in
    let part = both_lined us a h k l h.lines q.lines q.units (newlines (take q.units us)) ha na sa within p in
    record {
      some = some_of k l us part.1;
      lines = omega (arith, lined_within l (take k us) part.1, length-take-le k us part.0);
      first_lines = p.first_within;
      second_lines = p.second_within;
    }

-- ---- the first change keeps all that is left

pub rest_steps : (a a' : Left) (n : ℕ) → a.ops ≡ [] → a' ≡ skipped n a → n ≤ a.rest → steps_left a ≡ times n (Keep none) ++ steps_left a'
rest_steps a a' n e is h =
    let parts : n + (a.rest - n) ≡ a.rest = omega (arith, h) in
    ap (λ ops. steps_of ops a.bank ++ rest_kept a.rest) e
    ∙ ap rest_kept (sym parts) ∙ sym (replicate-append-replicate n (a.rest - n) (Pass (Keep none)))
    ∙ ap (λ ops. times n (Keep none) ++ (steps_of ops a.bank ++ rest_kept (a.rest - n))) (sym e)
    ∙ ap (λ l. times n (Keep none) ++ steps_left l) (sym is)

rest_passed : (r : ℕ) → passed (rest_kept r) ≡ r
rest_passed r = passed_times r (Keep none)

pub rest_room : (made : Text) (out : Draft) (a b : Left) (q : Head) → UnderWay made out a b → a.ops ≡ [] → IsHead q b → begins_with_insert b.ops ≡ false → q.units ≤ a.rest
rest_room made out a b q u e head none_first =
    let b' : Left = advanced q.units q.lines b in
    let p : IsPass q b b' q.units q.lines = record { head = head; passes = none_first; is = refl; within = omega arith } in
    let all : passed (steps_left a) ≡ a.rest = ap (λ ops. passed (steps_of ops a.bank ++ rest_kept a.rest)) e ∙ rest_passed a.rest in
    omega (arith, u.level, all, ap passed (pass_steps q b b' q.units q.lines p), passed-append (times q.units (fate_of q.kind q.attrs.now)) (steps_left b'), passed_times q.units (fate_of q.kind q.attrs.now))

pub rest_says : (made : Text) (out : Draft) (a b : Left) (q : Head) → UnderWay made out a b → IsHead q b → begins_with_insert b.ops ≡ false → (1 ≤ q.units) × (q.lines ≤ q.units)
rest_says made out a b q u head none_first =
    let said = pass_says q b u.text head none_first u.second in
    (some_of q.units q.lines u.text said.1, omega (arith, lined_within q.lines (take q.units u.text) said.1, length-take-le q.units u.text said.0))

pub rest_goes : (made : Text) (out out' : Draft) (a b a' b' : Left) (q : Head) → UnderWay made out a b → a.ops ≡ [] → a' ≡ skipped q.units a → IsPass q b b' q.units q.lines
    → out' ≡ followed_run out q.units q.lines (Keep none) (fate_of q.kind q.attrs.now) → UnderWay made out' a' b'
rest_goes made out out' a b a' b' q u e is p o =
    let said = pass_says q b u.text p.head p.passes u.second in
    let ops : a'.ops ≡ [] = ap (λ (l : Left). l.ops) is ∙ e in
    run_goes made out out' a b a' b' q.units q.lines (Keep none) (fate_of q.kind q.attrs.now) u o
    (rest_steps a a' q.units e is (rest_room made out a b q u e p.head p.passes)) (pass_steps q b b' q.units q.lines p) (pass_bank q b b' q.units q.lines p) said.0 said.1
    (subst (λ ops. AreSaid ops a'.bank (drop q.units u.text)) (sym ops) tt)
    (pass_said q b b' q.units q.lines u.text p (λ g. absurd (omega (arith, g))) u.second)

pub rest_goes_said : (made : Text) (w w' : Writer) (a b a' b' : Left) (q : Head) → IsTrueWriter w made → UnderWay made (said w) a b → a.ops ≡ [] → a' ≡ skipped q.units a → IsPass q b b' q.units q.lines
    → IsFollowedRun w q.units q.lines (Keep none) (fate_of q.kind q.attrs.now) w' → IsGoing made w' a' b'
rest_goes_said made w w' a b a' b' q t u e is p o =
    let g : Fate = fate_of q.kind q.attrs.now in
    let said_here = pass_says q b u.text p.head p.passes u.second in
    let later : Text = text_made (steps_left a') (drop (passed (times q.units (Keep none))) u.text) in
    run_goes_said made w w' a' b' (take q.units u.text) later q.units q.lines (Keep none) g o t
    (λ m is_kept. kept_goes made (said w) q.units q.lines u.text later
    (stretch_of made (said w) a b a' q.units q.lines (Keep none) u (rest_steps a a' q.units e is (rest_room made (said w) a b q u e p.head p.passes)) said_here.0 said_here.1 m is_kept))
    (rest_goes made (said w) (followed_run (said w) q.units q.lines (Keep none) g) a b a' b' q u e is p refl)

-- ---- what is written

-- what a run of the second change is where the first keeps
pub kept_as_is : (k : Kind) (w w' : Writer) (n l : ℕ) (m : AttrMap) → (k ≡ kind.Drop → ⊥) → IsKept w n l m w' → IsFollowedRun w n l (Keep none) (fate_of k m) w'
kept_as_is kind.Keep w w' n l m other h = subst (λ m. IsKept w n l m w') (sym (none-rest m)) h
kept_as_is kind.Drop w w' n l m other h = absurd (other refl)
kept_as_is kind.Insert w w' n l m other h = subst (λ m. IsKept w n l m w') (sym (none-rest m)) h

-- what both keep
pub both_keep : (j k : Kind) (w w' : Writer) (n l : ℕ) (a m : AttrMap) → (j ≡ kind.Drop → ⊥) → (k ≡ kind.Drop → ⊥) → IsKept w n l (rest a m) w' → IsFollowedRun w n l (fate_of j a) (fate_of k m) w'
both_keep kind.Drop k w w' n l a m first second h = absurd (first refl)
both_keep kind.Keep kind.Drop w w' n l a m first second h = absurd (second refl)
both_keep kind.Keep kind.Keep w w' n l a m first second h = h
both_keep kind.Keep kind.Insert w w' n l a m first second h = h
both_keep kind.Insert kind.Drop w w' n l a m first second h = absurd (second refl)
both_keep kind.Insert kind.Keep w w' n l a m first second h = h
both_keep kind.Insert kind.Insert w w' n l a m first second h = h

-- where the second has no attributes
pub kept_bare : (w w' : Writer) (n l : ℕ) (a m : AttrMap) → m ≡ none → w' ≡ waiting w n l → IsKept w n l (rest a m) w'
kept_bare w w' n l a m e is = inl (ap (rest a) e ∙ rest-none a, is)
