-- Pieces in which both changes have a run that passes or makes units.
use Rattle.std.proofs.Common.{◌≡◌, ℕ, ◌+◌, ◌≤◌, List, [], ◌∷◌, ◌++◌, map, length, take, drop, refl, sym, ap, ◌∙◌, subst, arith, append-nil}
use Rattle.std.proofs.lemmas.List.{length-take-le, length-map}
use Rattle.ep_units.specs.Text.{Text}
use Rattle.ep_attr.specs.AttrMap.{AttrMap, none, after, join}
use Rattle.ep_attr.proofs.Maps.{after-after}
use Rattle.ep_cs.specs.Doc.{Cell, painted}
use Rattle.ep_cs.specs.Edit.{inserts}
use Rattle.ep_cs.specs.Edit.Fate.{Drop, Keep}
use Rattle.ep_cs.specs.Edit.Step.{Insert}
use Rattle.ep_cs.specs.Change.{newlines}
use Rattle.ep_cs.specs.Steps.{passed}
use Rattle.ep_cs.specs.Draft.{Draft, keeping, dropping, inserting}
use Rattle.ep_cs.specs.Runs.{cells}
use Rattle.ep_cs.specs.NormalRuns.{IsLined}
use Rattle.ep_cs.specs.declared.op.Op.{Op}
use Rattle.ep_cs.proofs.Drafts.{once}
use Rattle.ep_cursor.specs.Left.{Left, advanced}
use Rattle.ep_cursor.specs.Said.{IsSaid, AreSaid}
use Rattle.ep_cursor.proofs.Lined.{IsPiece}
use Rattle.ep_cursor.proofs.Parts.{inside_first, inside_second, lines_front, piece}
use Rattle.ep_cursor.proofs.Lefts.{left_cut, left_said, first_said}
use Rattle.ep_cursor.proofs.Made.{passed-append, passed_times, passed_new, text_new}
use Rattle.ep_cursor.proofs.TrueDrafts.{true_insert}
use Rattle.ep_compose.specs.Composing.{CanGo, Advances}
use Rattle.ep_cursor.specs.Part.{IsShorter}
use Rattle.ep_compose.proofs.Arms.{times, IsArm, arm_keep_keep, arm_keep_drop, arm_insert_keep, arm_insert_drop}
use Rattle.ep_compose.proofs.Claims.{true_arm, drop_front, take_front, kept_draft, dropped_draft}
use Rattle.ep_compose.proofs.Goes.{goes}
use Rattle.ep_compose.proofs.Moves.{keeps, drops, inserting_run, made_keep, said_times, said_new, some_steps}

-- the front of the piece, as the first run has it
pub front_lined : (k j n lo m lp : ℕ) (us vs : Text) → k ≤ n → IsPiece k n m j lo lp (newlines (take n us)) (newlines (take m vs)) → IsLined j (newlines (take k us))
front_lined k j n lo m lp us vs h p = subst (IsLined j) (lines_front k n us h) p.lined

-- what the second change says, after the front of the first
both : (k j n lo m lp : ℕ) (us v : Text) → IsShorter k j n lo m lp → IsSaid n lo us → IsSaid m lp (take k us ++ v)
    → IsPiece k n m j lo lp (newlines (take n us)) (newlines (take m (take k us ++ v)))
both k j n lo m lp us v h a b =
    let within : k ≤ length us = omega (arith, a.0, inside_first k j n lo m lp h) in
    piece k j n lo m lp us (take k us ++ v) h a b (sym (take_front (take k us) v k (sym (length-take-le k us within))))

-- the rest of the second run
second_keeps : (b : Left) (k j m lp n lo : ℕ) (c : AttrMap) (ps : List Op) (us v : Text) → b.ops ≡ keeps m lp c ∷ ps → IsShorter k j n lo m lp → IsSaid n lo us → AreSaid b.ops b.bank (take k us ++ v)
    → AreSaid (advanced k j b).ops (advanced k j b).bank v
second_keeps b k j m lp n lo c ps us v e h a said =
    let within : k ≤ length us = omega (arith, a.0, inside_first k j n lo m lp h) in
    let p = both k j n lo m lp us v h a (first_said b (keeps m lp c) ps _ e said) in
    subst (AreSaid (advanced k j b).ops (advanced k j b).bank) (drop_front (take k us) v k (sym (length-take-le k us within)))
    (left_said b (keeps m lp c) ps (take k us ++ v) k j e (inside_second k j n lo m lp h) said p.second_rest)

second_drops : (b : Left) (k j m lp n lo : ℕ) (c : AttrMap) (ps : List Op) (us v : Text) → b.ops ≡ drops m lp c ∷ ps → IsShorter k j n lo m lp → IsSaid n lo us → AreSaid b.ops b.bank (take k us ++ v)
    → AreSaid (advanced k j b).ops (advanced k j b).bank v
second_drops b k j m lp n lo c ps us v e h a said =
    let within : k ≤ length us = omega (arith, a.0, inside_first k j n lo m lp h) in
    let p = both k j n lo m lp us v h a (first_said b (drops m lp c) ps _ e said) in
    subst (AreSaid (advanced k j b).ops (advanced k j b).bank) (drop_front (take k us) v k (sym (length-take-le k us within)))
    (left_said b (drops m lp c) ps (take k us ++ v) k j e (inside_second k j n lo m lp h) said p.second_rest)

-- ---- the first change keeps

pub kept_then_kept : (out : Draft) (a b : Left) (k j n lo m lp : ℕ) (d c : AttrMap) (os ps : List Op)
    → a.ops ≡ keeps n lo d ∷ os → b.ops ≡ keeps m lp c ∷ ps → IsShorter k j n lo m lp → 1 ≤ k → CanGo out a b
    → Advances out a b (keeping out k j (join d c)) (advanced k j a) (advanced k j b)
kept_then_kept out a b k j n lo m lp d c os ps ea eb h some go =
    let kn = inside_first k j n lo m lp h in
    let cut = left_cut a (keeps n lo d) os k j ea kn in
    goes out (keeping out k j (join d c)) a b (advanced k j a) (advanced k j b) (times k (Keep d)) (times k (Keep c)) (times k (Keep (join d c))) (arm_keep_keep k d c)
    cut (left_cut b (keeps m lp c) ps k j eb (inside_second k j n lo m lp h)) refl refl go (some_steps k (Keep d) (times k (Keep c)) some)
    (λ us far t.
    let w = drop (passed out.steps) us in
    let said = first_said a (keeps n lo d) os w ea t.first in
    let within : k ≤ length w = omega (arith, said.0, kn) in
    true_arm out (keeping out k j (join d c)) a b (advanced k j a) (advanced k j b) us (times k (Keep d)) (take k w) cut (made_keep k d w within)
    (passed-append out.steps (times k (Keep (join d c))) ∙ ap (λ (i : ℕ). passed out.steps + i) (passed_times k (Keep (join d c)) ∙ sym (passed_times k (Keep d)))) t
    (λ v second.
    let p = both k j n lo m lp w v h said (first_said b (keeps m lp c) ps _ eb second) in (
      kept_draft out us k j (join d c) t.written some within (front_lined k j n lo m lp w (take k w ++ v) kn p),
      (
        said_times (advanced k j a) k (Keep d) w (left_said a (keeps n lo d) os w k j ea kn t.first p.first_rest),
        second_keeps b k j m lp n lo c ps w v eb h said second,
      ),
    )))

pub kept_then_dropped : (out : Draft) (a b : Left) (k j n lo m lp : ℕ) (d c : AttrMap) (os ps : List Op)
    → a.ops ≡ keeps n lo d ∷ os → b.ops ≡ drops m lp c ∷ ps → IsShorter k j n lo m lp → 1 ≤ k → CanGo out a b
    → Advances out a b (dropping out k j) (advanced k j a) (advanced k j b)
kept_then_dropped out a b k j n lo m lp d c os ps ea eb h some go =
    let kn = inside_first k j n lo m lp h in
    let cut = left_cut a (keeps n lo d) os k j ea kn in
    goes out (dropping out k j) a b (advanced k j a) (advanced k j b) (times k (Keep d)) (times k Drop) (times k Drop) (arm_keep_drop k d)
    cut (left_cut b (drops m lp c) ps k j eb (inside_second k j n lo m lp h)) refl refl go (some_steps k (Keep d) (times k Drop) some)
    (λ us far t.
    let w = drop (passed out.steps) us in
    let said = first_said a (keeps n lo d) os w ea t.first in
    let within : k ≤ length w = omega (arith, said.0, kn) in
    true_arm out (dropping out k j) a b (advanced k j a) (advanced k j b) us (times k (Keep d)) (take k w) cut (made_keep k d w within)
    (passed-append out.steps (times k Drop) ∙ ap (λ (i : ℕ). passed out.steps + i) (passed_times k Drop ∙ sym (passed_times k (Keep d)))) t
    (λ v second.
    let p = both k j n lo m lp w v h said (first_said b (drops m lp c) ps _ eb second) in (
      dropped_draft out us k j t.written some within (front_lined k j n lo m lp w (take k w ++ v) kn p),
      (
        said_times (advanced k j a) k (Keep d) w (left_said a (keeps n lo d) os w k j ea kn t.first p.first_rest),
        second_drops b k j m lp n lo c ps w v eb h said second,
      ),
    )))

-- ---- the first change inserts

-- an inserted map has no empty value after one more
bare_after : (d c : AttrMap) → d ≡ after none d → after none (after d c) ≡ after d c
bare_after d c e =
    let one : after d c ≡ after none (join d c) = ap (λ x. after x c) e ∙ after-after none d c in
    ap (after none) one ∙ sym (once (join d c)) ∙ sym one

painted_after : (d c : AttrMap) (text : Text) → d ≡ after none d → map (λ x. painted x c) (cells d text) ≡ cells (after none (after d c)) text
painted_after d c [] e = refl
painted_after d c (u ∷ us) e = λ i. record { unit = u; attrs = sym (bare_after d c e) i } ∷ painted_after d c us e i

pub inserted_then_kept : (out : Draft) (a b : Left) (k j n lo m lp : ℕ) (d c : AttrMap) (os ps : List Op)
    → a.ops ≡ inserting_run n lo d ∷ os → b.ops ≡ keeps m lp c ∷ ps → IsShorter k j n lo m lp → 1 ≤ k → d ≡ after none d → n ≤ length a.bank → CanGo out a b
    → Advances out a b (inserting out (take k a.bank) (after d c)) (advanced k j a) (advanced k j b)
inserted_then_kept out a b k j n lo m lp d c os ps ea eb h some bare full go =
    let kn = inside_first k j n lo m lp h in
    let text = take k a.bank in
    let cs = cells d text in
    let ds = cells (after none (after d c)) text in
    let wide : length cs ≡ k = length-map text _ ∙ length-take-le k a.bank (omega (arith, kn, full)) in
    let cut = left_cut a (inserting_run n lo d) os k j ea kn in
    goes out (inserting out text (after d c)) a b (advanced k j a) (advanced k j b) (inserts cs) (times k (Keep c)) (inserts ds)
    (subst (λ (x : List Cell). IsArm (inserts cs) (times k (Keep c)) (inserts x)) (painted_after d c text bare) (arm_insert_keep cs k c wide))
    cut (left_cut b (keeps m lp c) ps k j eb (inside_second k j n lo m lp h)) refl refl go
    (omega (arith, some, wide, length-map cs Insert))
    (λ us far t.
    let w = drop (passed out.steps) us in
    let said = first_said a (inserting_run n lo d) os w ea t.first in
    true_arm out (inserting out text (after d c)) a b (advanced k j a) (advanced k j b) us (inserts cs) text cut (text_new d text _)
    (passed-append out.steps (inserts ds) ∙ ap (λ (i : ℕ). passed out.steps + i) (passed_new ds ∙ sym (passed_new cs))) t
    (λ v second.
    let p = both k j n lo m lp a.bank v h said (first_said b (keeps m lp c) ps _ eb second) in (
      true_insert out us text (after d c) t.written,
      (
        said_new (advanced k j a) cs w (left_said a (inserting_run n lo d) os w k j ea kn t.first p.first_rest),
        second_keeps b k j m lp n lo c ps a.bank v eb h said second,
      ),
    )))

pub inserted_then_dropped : (out : Draft) (a b : Left) (k j n lo m lp : ℕ) (d c : AttrMap) (os ps : List Op)
    → a.ops ≡ inserting_run n lo d ∷ os → b.ops ≡ drops m lp c ∷ ps → IsShorter k j n lo m lp → 1 ≤ k → n ≤ length a.bank → CanGo out a b
    → Advances out a b out (advanced k j a) (advanced k j b)
inserted_then_dropped out a b k j n lo m lp d c os ps ea eb h some full go =
    let kn = inside_first k j n lo m lp h in
    let text = take k a.bank in
    let cs = cells d text in
    let wide : length cs ≡ k = length-map text _ ∙ length-take-le k a.bank (omega (arith, kn, full)) in
    let cut = left_cut a (inserting_run n lo d) os k j ea kn in
    goes out out a b (advanced k j a) (advanced k j b) (inserts cs) (times k Drop) [] (arm_insert_drop cs k wide)
    cut (left_cut b (drops m lp c) ps k j eb (inside_second k j n lo m lp h)) refl (sym (append-nil out.steps)) go
    (omega (arith, some, wide, length-map cs Insert))
    (λ us far t.
    let w = drop (passed out.steps) us in
    let said = first_said a (inserting_run n lo d) os w ea t.first in
    true_arm out out a b (advanced k j a) (advanced k j b) us (inserts cs) text cut (text_new d text _)
    (omega (arith, passed_new cs)) t
    (λ v second.
    let p = both k j n lo m lp a.bank v h said (first_said b (drops m lp c) ps _ eb second) in (
      t.written,
      (
        said_new (advanced k j a) cs w (left_said a (inserting_run n lo d) os w k j ea kn t.first p.first_rest),
        second_drops b k j m lp n lo c ps a.bank v eb h said second,
      ),
    )))
