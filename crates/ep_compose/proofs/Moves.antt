-- Pieces in which only one of the changes has a run.
use Rattle.std.proofs.Common.{◌≡◌, ℕ, ◌+◌, ◌≤◌, List, [], ◌∷◌, ◌++◌, map, length, take, drop, refl, sym, ap, ap₂, ◌∙◌, subst, arith, length-drop}
use Rattle.std.proofs.lemmas.List.{length-take-le, length-map, length-replicate}
use Rattle.ep_units.specs.Text.{Text}
use Rattle.ep_attr.specs.AttrMap.{AttrMap, none, after}
use Rattle.ep_attr.proofs.Maps.{after-none, join-none, none-join}
use Rattle.ep_cs.specs.Doc.{Cell, painted}
use Rattle.ep_cs.specs.Edit.{Fate, Step, inserts}
use Rattle.ep_cs.specs.Edit.Fate.{Drop, Keep}
use Rattle.ep_cs.specs.Edit.Step.{Insert, Pass}
use Rattle.ep_cs.specs.Steps.{passed}
use Rattle.ep_cs.specs.Draft.{Draft, keeping, dropping, inserting}
use Rattle.ep_cs.specs.Runs.{cells}
use Rattle.ep_cs.specs.declared.op.Kind.TheVariants as kind
use Rattle.ep_cs.specs.declared.op.Op.{Op}
use Rattle.ep_cursor.specs.Left.{Left, steps_left, advanced, skipped}
use Rattle.ep_cursor.specs.Said.{AreSaid}
use Rattle.ep_cursor.specs.Made.{text_made, given}
use Rattle.ep_cursor.proofs.Lefts.{left_cut, left_said, first_said, rest_left, rest_cut, rest_said}
use Rattle.ep_cursor.proofs.Made.{passed-append, passed_times, passed_new, text_kept, text_dropped, text_new, given_kept, given-append}
use Rattle.ep_cursor.proofs.TrueDrafts.{true_insert}
use Rattle.ep_compose.specs.Composing.{CanGo, Advances}
use Rattle.ep_compose.proofs.Arms.{times, IsArm, arm_keep_keep, arm_keep_drop, arm_drop, arm_insert_keep, arm_insert}
use Rattle.ep_compose.proofs.Claims.{true_arm, drop_front, kept_draft, dropped_draft}
use Rattle.ep_compose.proofs.Goes.{goes}

abbrev pub keeps : ℕ → ℕ → AttrMap → Op
keeps n l m = record { kind = kind.Keep; units = n; lines = l; attrs = m }

abbrev pub drops : ℕ → ℕ → AttrMap → Op
drops n l m = record { kind = kind.Drop; units = n; lines = l; attrs = m }

abbrev pub inserting_run : ℕ → ℕ → AttrMap → Op
inserting_run n l m = record { kind = kind.Insert; units = n; lines = l; attrs = m }

pub made_keep : (k : ℕ) (m : AttrMap) (w : Text) → k ≤ length w → text_made (times k (Keep m)) (take (passed (times k (Keep m))) w) ≡ take k w
made_keep k m w h = ap (λ (j : ℕ). text_made (times k (Keep m)) (take j w)) (passed_times k (Keep m)) ∙ text_kept k m (take k w) (length-take-le k w h)

-- behind as many places as steps of one kind pass
pub said_times : (l : Left) (k : ℕ) (f : Fate) (w : Text) → AreSaid l.ops l.bank (drop k w) → AreSaid l.ops l.bank (drop (passed (times k f)) w)
said_times l k f w h = subst (λ (j : ℕ). AreSaid l.ops l.bank (drop j w)) (sym (passed_times k f)) h

pub said_new : (l : Left) (cs : List Cell) (w : Text) → AreSaid l.ops l.bank w → AreSaid l.ops l.bank (drop (passed (inserts cs)) w)
said_new l cs w h = subst (λ (j : ℕ). AreSaid l.ops l.bank (drop j w)) (sym (passed_new cs)) h

pub some_steps : (k : ℕ) (f : Fate) (t : List Step) → 1 ≤ k → 1 ≤ length (times k f) + length t
some_steps k f t h = omega (arith, h, length-replicate k (Pass f))

-- the places that a text has from here on
pub places_left : (out : Draft) (a b : Left) (us : Text) → CanGo out a b → length us ≡ out.old → length (drop (passed out.steps) us) ≡ passed (steps_left a)
places_left out a b us go e = omega (arith, length-drop (passed out.steps) us, go.places, e)

-- ---- the first change drops

pub first_drops : (out : Draft) (a b : Left) (n l : ℕ) (m : AttrMap) (os : List Op) → a.ops ≡ drops n l m ∷ os → 1 ≤ n → CanGo out a b
    → Advances out a b (dropping out n l) (advanced n l a) b
first_drops out a b n l m os e some go =
    let cut = left_cut a (drops n l m) os n l e (omega arith) in
    goes out (dropping out n l) a b (advanced n l a) b (times n Drop) [] (times n Drop) (arm_drop n) cut refl refl refl go (some_steps n Drop [] some)
    (λ us long t.
    let w = drop (passed out.steps) us in
    let said = first_said a (drops n l m) os w e t.first in
    true_arm out (dropping out n l) a b (advanced n l a) b us (times n Drop) [] cut (text_dropped n _) (passed-append out.steps (times n Drop)) t
    (λ v second. (
      dropped_draft out us n l t.written some said.0 said.1,
      (said_times (advanced n l a) n Drop w (left_said a (drops n l m) os w n l e (omega arith) t.first (λ h. absurd (omega (arith, h)))), second),
    )))

-- ---- the second change inserts

inserted_once : (m : AttrMap) (text : Text) → m ≡ after none m → inserts (cells m text) ≡ inserts (cells (after none m) text)
inserted_once m text e = ap (λ m. inserts (cells m text)) e

pub second_inserts : (out : Draft) (a b : Left) (n l : ℕ) (m : AttrMap) (ps : List Op) (text : Text) → b.ops ≡ inserting_run n l m ∷ ps → text ≡ take n b.bank
    → length text ≡ n → 1 ≤ n → m ≡ after none m → CanGo out a b
    → Advances out a b (inserting out text m) a (advanced n l b)
second_inserts out a b n l m ps text e is long some bare go =
    let cs = cells (after none m) text in
    let wide : length cs ≡ length text = length-map text _ in
    let cut : steps_left b ≡ inserts cs ++ steps_left (advanced n l b) =
    left_cut b (inserting_run n l m) ps n l e (omega arith) ∙ ap (λ us. inserts (cells m us) ++ steps_left (advanced n l b)) (sym is) ∙ ap (λ s. s ++ steps_left (advanced n l b)) (inserted_once m text bare) in
    goes out (inserting out text m) a b a (advanced n l b) [] (inserts cs) (inserts cs) (arm_insert cs) refl cut refl refl go (omega (arith, some, long, wide, length-map cs Insert))
    (λ us far t.
    true_arm out (inserting out text m) a b a (advanced n l b) us [] [] refl refl (passed-append out.steps (inserts cs) ∙ ap (λ (j : ℕ). passed out.steps + j) (passed_new cs)) t
    (λ v second.
    (true_insert out us text m t.written, (t.first, left_said b (inserting_run n l m) ps v n l e (omega arith) second (λ h. absurd (omega (arith, h)))))))

-- ---- nothing is left of the first change but places that are kept

pub places_of_rest : (a : Left) → a.ops ≡ [] → (passed (steps_left a) ≡ a.rest) × (given (steps_left a) ≡ a.rest)
places_of_rest a e = (ap passed (rest_left a e) ∙ passed_times a.rest (Keep none), ap given (rest_left a e) ∙ given_kept a.rest none)

-- so many of them are left
pub within_first_rest : (out : Draft) (a b : Left) (n l : ℕ) (m : AttrMap) (f : Fate) (t : List Step) → a.ops ≡ [] → steps_left b ≡ times n f ++ t → CanGo out a b
    → (n ≤ a.rest) × (passed out.steps + n ≤ out.old)
within_first_rest out a b n l m f t e cut go =
    let r = places_of_rest a e in
    let p : passed (steps_left b) ≡ n + passed t = ap passed cut ∙ passed-append (times n f) t ∙ ap (λ (j : ℕ). j + passed t) (passed_times n f) in
    (omega (arith, r.1, go.fits, p), omega (arith, r.0, r.1, go.fits, go.places, p))

made_by_rest : (a : Left) (w : Text) → a.ops ≡ [] → length w ≡ passed (steps_left a) → text_made (steps_left a) w ≡ w
made_by_rest a w e long = ap (λ s. text_made s w) (rest_left a e) ∙ text_kept a.rest none w (long ∙ (places_of_rest a e).0)

pub rest_then_kept : (out : Draft) (a b : Left) (n l : ℕ) (c : AttrMap) (ps : List Op) → a.ops ≡ [] → b.ops ≡ keeps n l c ∷ ps → 1 ≤ n → CanGo out a b
    → Advances out a b (keeping out n l c) (skipped n a) (advanced n l b)
rest_then_kept out a b n l c ps ea eb some go =
    let cut = left_cut b (keeps n l c) ps n l eb (omega arith) in
    let room = within_first_rest out a b n l c (Keep c) (steps_left (advanced n l b)) ea cut go in
    let rest = rest_cut a n ea room.0 in
    let arm = subst (λ d. IsArm (times n (Keep none)) (times n (Keep c)) (times n (Keep d))) (none-join c) (arm_keep_keep n none c) in
    goes out (keeping out n l c) a b (skipped n a) (advanced n l b) (times n (Keep none)) (times n (Keep c)) (times n (Keep c)) arm rest cut refl refl go (some_steps n (Keep none) (times n (Keep c)) some)
    (λ us far t.
    let w = drop (passed out.steps) us in
    let long = places_left out a b us go far in
    let within : n ≤ length w = omega (arith, long, (places_of_rest a ea).0, room.0) in
    let said = first_said b (keeps n l c) ps w eb (subst (AreSaid b.ops b.bank) (made_by_rest a w ea long) t.second) in
    true_arm out (keeping out n l c) a b (skipped n a) (advanced n l b) us (times n (Keep none)) (take n w) rest (made_keep n none w within)
    (passed-append out.steps (times n (Keep c)) ∙ ap (λ (j : ℕ). passed out.steps + j) (passed_times n (Keep c) ∙ sym (passed_times n (Keep none)))) t
    (λ v second. (
      kept_draft out us n l c t.written some within said.1,
      (
        rest_said (skipped n a) _ ea,
        subst (AreSaid (advanced n l b).ops (advanced n l b).bank) (drop_front (take n w) v n (sym (length-take-le n w within)))
            (left_said b (keeps n l c) ps (take n w ++ v) n l eb (omega arith) second (λ h. absurd (omega (arith, h)))),
      ),
    )))

pub rest_then_dropped : (out : Draft) (a b : Left) (n l : ℕ) (c : AttrMap) (ps : List Op) → a.ops ≡ [] → b.ops ≡ drops n l c ∷ ps → 1 ≤ n → CanGo out a b
    → Advances out a b (dropping out n l) (skipped n a) (advanced n l b)
rest_then_dropped out a b n l c ps ea eb some go =
    let cut = left_cut b (drops n l c) ps n l eb (omega arith) in
    let room = within_first_rest out a b n l c Drop (steps_left (advanced n l b)) ea cut go in
    let rest = rest_cut a n ea room.0 in
    goes out (dropping out n l) a b (skipped n a) (advanced n l b) (times n (Keep none)) (times n Drop) (times n Drop) (arm_keep_drop n none) rest cut refl refl go (some_steps n (Keep none) (times n Drop) some)
    (λ us far t.
    let w = drop (passed out.steps) us in
    let long = places_left out a b us go far in
    let within : n ≤ length w = omega (arith, long, (places_of_rest a ea).0, room.0) in
    let said = first_said b (drops n l c) ps w eb (subst (AreSaid b.ops b.bank) (made_by_rest a w ea long) t.second) in
    true_arm out (dropping out n l) a b (skipped n a) (advanced n l b) us (times n (Keep none)) (take n w) rest (made_keep n none w within)
    (passed-append out.steps (times n Drop) ∙ ap (λ (j : ℕ). passed out.steps + j) (passed_times n Drop ∙ sym (passed_times n (Keep none)))) t
    (λ v second. (
      dropped_draft out us n l t.written some within said.1,
      (
        rest_said (skipped n a) _ ea,
        subst (AreSaid (advanced n l b).ops (advanced n l b).bank) (drop_front (take n w) v n (sym (length-take-le n w within)))
            (left_said b (drops n l c) ps (take n w ++ v) n l eb (omega arith) second (λ h. absurd (omega (arith, h)))),
      ),
    )))

-- ---- nothing is left of the second change but places that are kept

pub within_second_rest : (out : Draft) (a b : Left) (s t : List Step) → b.ops ≡ [] → steps_left a ≡ s ++ t → CanGo out a b → given s ≤ b.rest
within_second_rest out a b s t e cut go =
    let g : given (steps_left a) ≡ given s + given t = ap given cut ∙ given-append s t in
    omega (arith, g, go.fits, (places_of_rest b e).0)

pub kept_then_rest : (out : Draft) (a b : Left) (n l : ℕ) (m : AttrMap) (os : List Op) → a.ops ≡ keeps n l m ∷ os → b.ops ≡ [] → 1 ≤ n → CanGo out a b
    → Advances out a b (keeping out n l m) (advanced n l a) (skipped n b)
kept_then_rest out a b n l m os ea eb some go =
    let cut = left_cut a (keeps n l m) os n l ea (omega arith) in
    let room : n ≤ b.rest = omega (arith, within_second_rest out a b (times n (Keep m)) (steps_left (advanced n l a)) eb cut go, given_kept n m) in
    let rest = rest_cut b n eb room in
    let arm = subst (λ d. IsArm (times n (Keep m)) (times n (Keep none)) (times n (Keep d))) (join-none m) (arm_keep_keep n m none) in
    goes out (keeping out n l m) a b (advanced n l a) (skipped n b) (times n (Keep m)) (times n (Keep none)) (times n (Keep m)) arm cut rest refl refl go (some_steps n (Keep m) (times n (Keep none)) some)
    (λ us far t.
    let w = drop (passed out.steps) us in
    let said = first_said a (keeps n l m) os w ea t.first in
    true_arm out (keeping out n l m) a b (advanced n l a) (skipped n b) us (times n (Keep m)) (take n w) cut (made_keep n m w said.0) (passed-append out.steps (times n (Keep m))) t
    (λ v second. (
      kept_draft out us n l m t.written some said.0 said.1,
      (said_times (advanced n l a) n (Keep m) w (left_said a (keeps n l m) os w n l ea (omega arith) t.first (λ h. absurd (omega (arith, h)))), rest_said (skipped n b) v eb),
    )))

painted_bare : (m : AttrMap) (text : Text) → m ≡ after none m → map (λ d. painted d none) (cells m text) ≡ cells (after none m) text
painted_bare m [] e = refl
painted_bare m (u ∷ us) e = ap₂ (λ (x : AttrMap) (cs : List Cell). record { unit = u; attrs = x } ∷ cs) (after-none m ∙ e) (painted_bare m us e)

pub inserted_then_rest : (out : Draft) (a b : Left) (n l : ℕ) (m : AttrMap) (os : List Op) (text : Text) → a.ops ≡ inserting_run n l m ∷ os → b.ops ≡ [] → text ≡ take n a.bank
    → length text ≡ n → 1 ≤ n → m ≡ after none m → CanGo out a b
    → Advances out a b (inserting out text m) (advanced n l a) (skipped n b)
inserted_then_rest out a b n l m os text ea eb is long some bare go =
    let cs = cells m text in
    let wide : length cs ≡ n = length-map text (λ (u : ℕ). record { unit = u; attrs = m }) ∙ long in
    let cut : steps_left a ≡ inserts cs ++ steps_left (advanced n l a) = left_cut a (inserting_run n l m) os n l ea (omega arith) ∙ ap (λ us. inserts (cells m us) ++ steps_left (advanced n l a)) (sym is) in
    let arm = arm_insert_keep cs n none wide in
    let room : n ≤ b.rest = omega (arith, within_second_rest out a b (inserts cs) (steps_left (advanced n l a)) eb cut go, arm.fits, passed_times n (Keep none)) in
    let rest = rest_cut b n eb room in
    goes out (inserting out text m) a b (advanced n l a) (skipped n b) (inserts cs) (times n (Keep none)) (inserts (cells (after none m) text)) (subst (λ ds. IsArm (inserts cs) (times n (Keep none)) (inserts ds)) (painted_bare m text bare) arm) cut rest refl refl go
    (omega (arith, some, wide, length-map cs Insert))
    (λ us far t.
    let w = drop (passed out.steps) us in
    true_arm out (inserting out text m) a b (advanced n l a) (skipped n b) us (inserts cs) text cut (text_new m text _)
    (passed-append out.steps (inserts (cells (after none m) text)) ∙ ap (λ (j : ℕ). passed out.steps + j) (passed_new (cells (after none m) text) ∙ sym (passed_new cs))) t
    (λ v second. (
      true_insert out us text m t.written,
      (said_new (advanced n l a) cs w (left_said a (inserting_run n l m) os w n l ea (omega arith) t.first (λ h. absurd (omega (arith, h)))), rest_said (skipped n b) v eb),
    )))
