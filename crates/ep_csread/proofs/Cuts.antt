-- In a bank that is well-formed a pair can be cut only between two insertions.
use Rattle.std.proofs.Common.{◌≡◌, ℕ, zero, suc, ◌+◌, ◌-◌, ◌≤◌, Bool, true, false, cond, not, ◌&&◌, List, [], ◌∷◌, ◌++◌, length, take, drop, replicate, Option, Some, None, nat_lt, nat_le, refl, sym, ap, ◌∙◌, arith, length-take-le, length-drop, take-append-drop}
use Rattle.std.proofs.lemmas.Bool.Decides.{nat_tests}
use Rattle.ep_units.specs.Text.{Text, is_high, is_low, is_paired}
use Rattle.ep_attr.specs.AttrMap.{AttrMap, same_map}
use Rattle.ep_attr.proofs.SameMap.{same_map_itself}
use Rattle.ep_cs.specs.Edit.{Step, inserts}
use Rattle.ep_cs.specs.Edit.Step.{Pass}
use Rattle.ep_cs.specs.Edit.Fate.{Drop, Keep}
use Rattle.ep_cs.specs.declared.op.Kind.{Kind}
use Rattle.ep_cs.specs.declared.op.Kind.TheVariants as kinds
use Rattle.ep_cs.specs.declared.op.Op.{Op}
use Rattle.ep_cs.specs.Runs.{cells, inserted, all_inserted, run_steps, steps_of}
use Rattle.ep_csread.specs.Reading.{first_half}
use Rattle.ep_csread.specs.Before.{first_cut, cut_at, is_before}
use Rattle.ep_units.specs.Halves.{begins_low}

abbrev opt : Bool → AttrMap → Option AttrMap
opt true m = Some m
opt false m = None

abbrev ends_high : Bool → Text → Bool
ends_high half [] = half
ends_high half (u ∷ us) = ends_high (is_high u) us

both : (a b : Bool) → (a && b) ≡ true → (a ≡ true) × (b ≡ true)
both true b e = (refl, e)
both false b e = absurd cc

not_true : (b : Bool) → not b ≡ true → b ≡ false
not_true true e = absurd cc
not_true false e = refl

pub low_not_high : (u : ℕ) → is_low u ≡ true → is_high u ≡ false
low_not_high u e =
    let l : 56320 ≤ u = below u (both (nat_le 56320 u) (nat_lt u 57344) e).0 in
    let t : nat_lt u 56320 ≡ false = grind (arith, nat_tests) in
    ap (λ b. nat_le 55296 u && b) t ∙ none_of (nat_le 55296 u)
  where
    below : (u : ℕ) → nat_le 56320 u ≡ true → 56320 ≤ u
    below u e = grind (arith, nat_tests)

    none_of : (b : Bool) → (b && false) ≡ false
    none_of true = refl
    none_of false = refl

record Inside (at : ℕ) (half : Bool) (m : AttrMap) (us later : Text) (t : List Step) : Type 0 where
  same : first_half at (opt half m) (inserts (cells m us) ++ t) ≡ first_half (at + length us) (opt (ends_high half us) m) t
  paired : is_paired (ends_high half us) later ≡ true

inside : (at : ℕ) (half : Bool) (m : AttrMap) (us later : Text) (t : List Step) → is_paired half (us ++ later) ≡ true → Inside at half m us later t
inside at half m [] later t e = record { same = ap (λ (n : ℕ). first_half n (opt half m) t) (let z : at ≡ at + 0 = omega arith in z); paired = e }
inside at true m (u ∷ us) later t e =
    let p = both (is_low u) _ e in
    let h : is_high u ≡ false = low_not_high u p.0 in
    let again = inside (at + 1) (is_high u) m us later t p.1 in
    let s : at + 1 + length us ≡ at + suc (length us) = omega arith in
    record {
      same =
          (λ i. cond (p.0 i && same_map_itself m i) (first_half (at + 1) None (inserts (cells m us) ++ t)) (Some (at - 1)))
          ∙ ap (λ b. first_half (at + 1) (opt b m) (inserts (cells m us) ++ t)) (sym h)
          ∙ again.same ∙ ap (λ (n : ℕ). first_half n (opt (ends_high (is_high u) us) m) t) s;
      paired = again.paired;
    }
inside at false m (u ∷ us) later t e =
    let p = both (not (is_low u)) _ e in
    let l : is_low u ≡ false = not_true (is_low u) p.0 in
    let again = inside (at + 1) (is_high u) m us later t p.1 in
    let s : at + 1 + length us ≡ at + suc (length us) = omega arith in
    record {
      same =
          go (is_high u) l
          ∙ again.same ∙ ap (λ (n : ℕ). first_half n (opt (ends_high (is_high u) us) m) t) s;
      paired = again.paired;
    }
  where
    go : (b : Bool) → is_low u ≡ false → cond b (first_half (at + 1) (Some m) (inserts (cells m us) ++ t)) (cond (is_low u) (Some at) (first_half (at + 1) None (inserts (cells m us) ++ t))) ≡ first_half (at + 1) (opt b m) (inserts (cells m us) ++ t)
    go true l = refl
    go false l = ap (λ c. cond c (Some at) (first_half (at + 1) None (inserts (cells m us) ++ t))) l

-- kept and dropped places
passed_drops : (n : ℕ) (at : ℕ) (half : Option AttrMap) (t : List Step) → first_half at half (replicate n (Pass Drop) ++ t) ≡ first_half at half t
passed_drops zero at half t = refl
passed_drops (suc n) at None t = passed_drops n at None t
passed_drops (suc n) at (Some h) t = passed_drops n at (Some h) t

passed_keeps : (n : ℕ) (m : AttrMap) (at : ℕ) (t : List Step) → first_half at None (replicate n (Pass (Keep m)) ++ t) ≡ first_half at None t
passed_keeps zero m at t = refl
passed_keeps (suc n) m at t = passed_keeps n m at t

-- where a second half comes next and nothing stands before it in its gap, that is the first cut
waiting : (ops : List Op) (bank : Text) (at : ℕ) → is_paired true bank ≡ true → all_inserted ops ≡ length bank → first_cut at None ops bank ≡ Some (at - 1)
waiting ops [] at e n = absurd cc
waiting [] (u ∷ us) at e n = absurd (omega arith)
waiting (o ∷ os) (u ∷ us) at e n = go o.kind o.units n (λ h. waiting os (u ∷ us) at e h)
  where
    low : is_low u ≡ true
    low = (both (is_low u) _ e).0

    go : (k : Kind) (w : ℕ) → inserted k w + all_inserted os ≡ suc (length us) → (all_inserted os ≡ suc (length us) → first_cut at None os (u ∷ us) ≡ Some (at - 1))
        → cut_at at None k w o.attrs (u ∷ us) (first_cut (at + w) (Some o.attrs) os (drop w (u ∷ us))) (first_cut at None os (u ∷ us)) (first_cut at None os (u ∷ us)) ≡ Some (at - 1)
    go kinds.Insert zero n again = again (omega arith)
    go kinds.Insert (suc w) n again = ap (λ b. cond (b && true) (Some (at - 1)) (first_cut (at + suc w) (Some o.attrs) os (drop (suc w) (u ∷ us)))) low
    go kinds.Keep zero n again = again (omega arith)
    go kinds.Keep (suc w) n again = again (omega arith)
    go kinds.Drop w n again = again (omega arith)

-- an insertion of one unit and more
insertion : (os : List Op) (w : ℕ) (m h : AttrMap) (before : Option AttrMap)
    → ((bank : Text) (at : ℕ) (half : Bool) (h : AttrMap) (before : Option AttrMap) → is_paired half bank ≡ true → all_inserted os ≡ length bank → (half ≡ true → before ≡ Some h) → first_half at (opt half h) (steps_of os bank) ≡ first_cut at before os bank)
    → (bank : Text) (at : ℕ) (half : Bool) → is_paired half bank ≡ true → suc w + all_inserted os ≡ length bank → (half ≡ true → before ≡ Some h)
    → first_half at (opt half h) (inserts (cells m (take (suc w) bank)) ++ steps_of os (drop (suc w) bank))
    ≡ cond (begins_low bank && not (is_before before m)) (Some (at - 1)) (first_cut (at + suc w) (Some m) os (drop (suc w) bank))
insertion os w m h before again [] at half e n b = absurd (omega arith)
insertion os w m h before again (u ∷ us) at false e n b =
    let text = u ∷ take w us in
    let later = drop w us in
    let t = steps_of os later in
    let whole : text ++ later ≡ u ∷ us = ap (λ (x : Text). u ∷ x) (take-append-drop w us) in
    let i = inside at false m text later t (ap (is_paired false) whole ∙ e) in
    let l : is_low u ≡ false = not_true (is_low u) (both (not (is_low u)) _ e).0 in
    let k : suc (length (take w us)) ≡ suc w = omega (arith, length-take-le w us (omega arith)) in
    i.same ∙ ap (λ (n : ℕ). first_half (at + n) (opt (ends_high false text) m) t) k
    ∙ again later (at + suc w) (ends_high false text) m (Some m) i.paired (omega (arith, length-drop w us)) (λ _. refl)
    ∙ sym (ap (λ c. cond (c && not (is_before before m)) (Some (at - 1)) (first_cut (at + suc w) (Some m) os later)) l)
insertion os w m h before again (u ∷ us) at true e n b = go (same_map h m) refl
  where
    low : is_low u ≡ true
    low = (both (is_low u) _ e).0

    there : is_before before m ≡ same_map h m
    there = ap (λ o. is_before o m) (b refl)

    k : suc (length (take w us)) ≡ suc w
    k = omega (arith, length-take-le w us (omega (arith, n)))

    i : Inside (at + 1) (is_high u) m (take w us) (drop w us) (steps_of os (drop w us))
    i = inside (at + 1) (is_high u) m (take w us) (drop w us) (steps_of os (drop w us)) (ap (is_paired (is_high u)) (take-append-drop w us) ∙ (both (is_low u) _ e).1)

    go : (c : Bool) → same_map h m ≡ c
        → cond (is_low u && same_map h m) (first_half (at + 1) None (inserts (cells m (take w us)) ++ steps_of os (drop w us))) (Some (at - 1))
        ≡ cond (is_low u && not (is_before before m)) (Some (at - 1)) (first_cut (at + suc w) (Some m) os (drop w us))
    go false c =
        (λ j. cond (low j && c j) (first_half (at + 1) None (inserts (cells m (take w us)) ++ steps_of os (drop w us))) (Some (at - 1)))
        ∙ sym (λ j. cond (low j && not ((there ∙ c) j)) (Some (at - 1)) (first_cut (at + suc w) (Some m) os (drop w us)))
    go true c =
        let none_high : None ≡ opt (is_high u) m = ap (λ x. opt x m) (sym (low_not_high u low)) in
        let s : at + 1 + length (take w us) ≡ at + suc w = omega (arith, k) in
        (λ j. cond (low j && c j) (first_half (at + 1) None (inserts (cells m (take w us)) ++ steps_of os (drop w us))) (Some (at - 1)))
        ∙ ap (λ (x : Option AttrMap). first_half (at + 1) x (inserts (cells m (take w us)) ++ steps_of os (drop w us))) none_high
        ∙ i.same ∙ ap (λ (n : ℕ). first_half n (opt (ends_high (is_high u) (take w us)) m) (steps_of os (drop w us))) s
        ∙ again (drop w us) (at + suc w) (ends_high (is_high u) (take w us)) m (Some m) i.paired (omega (arith, length-drop w us, n)) (λ _. refl)
        ∙ sym (λ j. cond (low j && not ((there ∙ c) j)) (Some (at - 1)) (first_cut (at + suc w) (Some m) os (drop w us)))

pub same_cut : (ops : List Op) (bank : Text) (at : ℕ) (half : Bool) (h : AttrMap) (before : Option AttrMap) → is_paired half bank ≡ true → all_inserted ops ≡ length bank → (half ≡ true → before ≡ Some h)
    → first_half at (opt half h) (steps_of ops bank) ≡ first_cut at before ops bank
same_cut [] bank at true h before e n b = absurd (no_half bank e (ap (λ (k : ℕ). k) (sym n)))
  where
    no_half : (bank : Text) → is_paired true bank ≡ true → length bank ≡ 0 → ⊥
    no_half [] e n = cc
    no_half (u ∷ us) e n = omega arith
same_cut [] bank at false h before e n b = refl
same_cut (o ∷ os) bank at half h before e n b = go o.kind o.units n (λ bank at half h before e n b. same_cut os bank at half h before e n b)
  where
    go : (k : Kind) (w : ℕ) → inserted k w + all_inserted os ≡ length bank
        → ((bank : Text) (at : ℕ) (half : Bool) (h : AttrMap) (before : Option AttrMap) → is_paired half bank ≡ true → all_inserted os ≡ length bank → (half ≡ true → before ≡ Some h) → first_half at (opt half h) (steps_of os bank) ≡ first_cut at before os bank)
        → first_half at (opt half h) (run_steps k w o.attrs (take (inserted k w) bank) ++ steps_of os (drop (inserted k w) bank))
        ≡ cut_at at before k w o.attrs bank (first_cut (at + w) (Some o.attrs) os (drop w bank)) (first_cut at None os bank) (first_cut at before os bank)
    go kinds.Drop w n again = passed_drops w at (opt half h) (steps_of os bank) ∙ again bank at half h before e (omega arith) b
    go kinds.Keep zero n again = again bank at half h before e (omega arith) b
    go kinds.Keep (suc w) n again = kept half e b
      where
        kept : (half : Bool) → is_paired half bank ≡ true → (half ≡ true → before ≡ Some h) → first_half at (opt half h) (Pass (Keep o.attrs) ∷ (replicate w (Pass (Keep o.attrs)) ++ steps_of os bank)) ≡ first_cut at None os bank
        kept true e b = sym (waiting os bank at e (omega arith))
        kept false e b = passed_keeps w o.attrs at (steps_of os bank) ∙ again bank at false h None e (omega arith) (λ x. absurd cc)
    go kinds.Insert zero n again = again bank at half h before e (omega arith) b
    go kinds.Insert (suc w) n again = insertion os w o.attrs h before again bank at half e n b
