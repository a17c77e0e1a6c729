-- Inserted texts as stretches, each of which is one run.
use Rattle.std.proofs.Common.{◌≡◌, ℕ, zero, suc, ◌+◌, ◌≤◌, Bool, true, false, cond, inl, inr, List, [], ◌∷◌, length, take, drop, get_or, refl, sym, ap, ◌∙◌, subst, arith, take-append-drop}
use Rattle.std.proofs.lemmas.List.{map-append}
use Rattle.ep_units.specs.Text.{Text, is_newline}
use Rattle.ep_attr.specs.AttrMap.{AttrMap}
use Rattle.ep_cs.specs.declared.op.Kind.TheVariants as kind
use Rattle.ep_cs.specs.declared.op.Op.{Op}
use Rattle.ep_cs.specs.Runs.{cells, inserted, all_inserted}
use Rattle.ep_cs.specs.Normal.{joins, joined, put, one, put_cells}
use Rattle.ep_cs.specs.NormalRuns.{IsLined}
use Rattle.ep_cs.specs.Change.{newlines}
use Rattle.ep_cs.specs.Lines.{count_lines, is_whole_lines, IsStretch}
use Rattle.ep_cs.proofs.Put.{run}
use Rattle.ep_cs.proofs.Canonical.{insert_is, put_cells-append}
use Rattle.ep_cs.proofs.Fronts.{insert_kind}

has_newline : (u : ℕ) (us : Text) → is_whole_lines (u ∷ us) ≡ true → 1 ≤ count_lines (u ∷ us)
has_newline u [] e = subst (λ b. 1 ≤ cond b 1 0 + 0) (sym e) (omega arith)
has_newline u (v ∷ us) e = omega (arith, has_newline v us e)

pub lined_stretch : (us : Text) → 1 ≤ length us → IsStretch us → IsLined (count_lines us) (newlines us)
lined_stretch [] h s = absurd (omega (arith, h))
lined_stretch (u ∷ []) h s = omega arith
lined_stretch (u ∷ (v ∷ us)) h (inl e) =
    (count_lines (v ∷ us), refl, inl (omega (arith, e)), lined_stretch (v ∷ us) (omega arith) (inl (omega (arith, e))))
lined_stretch (u ∷ (v ∷ us)) h (inr e) =
    (count_lines (v ∷ us), refl, inr (has_newline v us e), lined_stretch (v ∷ us) (omega arith) (inr e))

pub one_stretch : (m : AttrMap) (us : Text) (os : List Op) → 1 ≤ length us → IsStretch us → put_cells (cells m us) os ≡ put (run kind.Insert (length us) (count_lines us) m) os
one_stretch m us os h s = insert_is (length us) (count_lines us) m us os refl (lined_stretch us h s)

pub cut_stretches : (m : AttrMap) (k : ℕ) (us : Text) (os : List Op) → put_cells (cells m us) os ≡ put_cells (cells m (take k us)) (put_cells (cells m (drop k us)) os)
cut_stretches m k us os =
    ap (λ us. put_cells (cells m us) os) (sym (take-append-drop k us))
    ∙ ap (λ cs. put_cells cs os) (map-append (λ u. record { unit = u; attrs = m }) (take k us) (drop k us))
    ∙ put_cells-append (cells m (take k us)) (cells m (drop k us)) os

inserted_one : (m : AttrMap) (l : ℕ) (os : List Op) → all_inserted (put (one kind.Insert m l) os) ≡ 1 + all_inserted os
inserted_one m l [] = refl
inserted_one m l (p ∷ ps) = go (joins (one kind.Insert m l) p) refl
  where
    go : (b : Bool) → joins (one kind.Insert m l) p ≡ b → all_inserted (cond b (joined (one kind.Insert m l) p ∷ ps) (one kind.Insert m l ∷ (p ∷ ps))) ≡ 1 + all_inserted (p ∷ ps)
    go true e = let k = (insert_kind m l p e).0 in
        ap (λ k. inserted k (1 + p.units) + all_inserted ps) k ∙ omega (arith, ap (λ k. inserted k p.units) k)
    go false e = refl

pub inserted_cells : (m : AttrMap) (us : Text) (os : List Op) → all_inserted (put_cells (cells m us) os) ≡ length us + all_inserted os
inserted_cells m [] os = omega arith
inserted_cells m (u ∷ us) os = inserted_one m (cond (is_newline u) 1 0) (put_cells (cells m us) os) ∙ omega (arith, inserted_cells m us os)

-- ---- the last newline

pub no_newline_there : (us : Text) (at : ℕ) → suc at ≤ length us → is_newline (get_or us at 0) ≡ false → count_lines (drop (suc at) us) ≡ 0 → count_lines (drop at us) ≡ 0
no_newline_there [] at h e z = absurd (omega (arith, h))
no_newline_there (u ∷ us) zero h e z = ap (λ b. cond b 1 0 + count_lines us) e ∙ omega (arith, z)
no_newline_there (u ∷ us) (suc at) h e z = no_newline_there us at (omega arith) e z

pub newline_there : (us : Text) (at : ℕ) → suc at ≤ length us → is_newline (get_or us at 0) ≡ true → is_whole_lines (take (suc at) us) ≡ true
newline_there [] at h e = absurd (omega (arith, h))
newline_there (u ∷ us) zero h e = e
newline_there (u ∷ []) (suc at) h e = absurd (omega (arith, h))
newline_there (u ∷ (v ∷ us)) (suc at) h e = newline_there (v ∷ us) at (omega arith) e
