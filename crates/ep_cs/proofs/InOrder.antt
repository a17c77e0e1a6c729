-- Runs that stand in normal form as they were written are finished.
use Rattle.std.proofs.Common.{◌≡◌, ℕ, ◌≤◌, inl, List, [], ◌∷◌, take, drop, refl, subst, arith, zero, suc}
use Rattle.ep_units.specs.Text.{Text}
use Rattle.ep_attr.specs.AttrMap.{AttrMap}
use Rattle.ep_cs.specs.declared.op.Kind.{Kind}
use Rattle.ep_cs.specs.declared.op.Kind.TheVariants as kind
use Rattle.ep_cs.specs.declared.op.Op.{Op}
use Rattle.ep_cs.specs.Runs.{inserted, all_passed}
use Rattle.ep_cs.specs.Change.{newlines}
use Rattle.ep_cs.specs.Lines.{count_lines}
use Rattle.ep_cs.specs.NormalRuns.{IsLined, IsRun, AreNormal}
use Rattle.ep_cs.specs.InOrder.{AreInOrder, SaysNoLines}
use Rattle.ep_cs.specs.Written.{IsWritten, AreWritten, IsFinished}
use Rattle.ep_cs.proofs.Stretches.{lined_stretch}

no_lines : (k : ℕ) (us : Text) → count_lines us ≡ 0 → (count_lines (take k us) ≡ 0) × (count_lines (drop k us) ≡ 0)
no_lines zero us h = (refl, h)
no_lines (suc k) [] h = (refl, refl)
no_lines (suc k) (u ∷ us) h = let rest = no_lines k us (omega (arith, h)) in (omega (arith, h, rest.0), rest.1)

run_stands : (k : Kind) (n lines : ℕ) (m : AttrMap) (text : Text) → IsWritten k n m text → count_lines text ≡ 0 → SaysNoLines k n lines → IsRun k n lines m text
run_stands kind.Keep n lines m text w c s = w
run_stands kind.Drop n lines m text w c s = w
run_stands kind.Insert n lines m text w c s = (w.0, subst (λ l. IsLined l (newlines text)) (omega (arith, c, s.1)) (lined_stretch text (omega (arith, s.0, w.0)) (inl c)), w.1)

in_order_normal : (ops : List Op) (bank : Text) → AreWritten ops bank → count_lines bank ≡ 0 → AreInOrder ops → AreNormal ops bank
in_order_normal [] bank w c h = w
in_order_normal (o ∷ os) bank w c h =
    let k = inserted o.kind o.units in
    (run_stands o.kind o.units o.lines o.attrs (take k bank) w.0 (no_lines k bank c).0 h.1, h.0, in_order_normal os (drop k bank) w.1 (no_lines k bank c).1 h.2)

pub in_order_finished : (n : ℕ) (ops : List Op) (bank : Text) → AreWritten ops bank → all_passed ops ≤ n → count_lines bank ≡ 0 → AreInOrder ops → IsFinished n ops bank ops
in_order_finished n ops bank w inside c h = record { inside = inside; normal = in_order_normal ops bank w c h; same = refl }
