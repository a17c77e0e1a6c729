-- All of a change as what is left of it.
use Rattle.std.proofs.Common.{◌≡◌, ℕ, List, [], ◌∷◌, take, drop, refl, sym, ◌∙◌, subst}
use Rattle.ep_units.specs.Text.{Text}
use Rattle.ep_cs.specs.declared.op.Kind.{Kind}
use Rattle.ep_cs.specs.declared.op.Kind.TheVariants as kind
use Rattle.ep_cs.specs.declared.op.Op.{Op}
use Rattle.ep_cs.specs.Runs.{inserted}
use Rattle.ep_cs.specs.NormalRuns.{IsRun, AreNormal}
use Rattle.ep_cs.specs.Written.{IsWritten, AreWritten}
use Rattle.ep_cursor.specs.Left.{first_units, first_lines}
use Rattle.ep_cursor.specs.Heads.{with_first}

pub whole_first : (ops : List Op) → with_first (first_units ops) (first_lines ops) ops ≡ ops
whole_first [] = refl
whole_first (o ∷ os) = refl

pub normal_written : (ops : List Op) (bank : Text) → AreNormal ops bank → AreWritten ops bank
normal_written [] bank h = h
normal_written (o ∷ os) bank h = (go o.kind h.0, normal_written os (drop (inserted o.kind o.units) bank) h.2)
  where
    go : (k : Kind) → IsRun k o.units o.lines o.attrs (take (inserted k o.units) bank) → IsWritten k o.units o.attrs (take (inserted k o.units) bank)
    go kind.Keep is = is
    go kind.Drop is = is
    go kind.Insert is = (is.0, is.2)

-- runs of a change whose first is whole
pub first_runs : (ops : List Op) (units lines : ℕ) (runs : List Op) → ops ≡ runs → units ≡ first_units ops → lines ≡ first_lines ops → with_first units lines ops ≡ runs
first_runs ops units lines runs o u l = (λ i. with_first (u i) (l i) ops) ∙ whole_first ops ∙ o

pub first_written : (ops : List Op) (bank text runs_bank : Text) (runs : List Op) → AreNormal runs runs_bank → ops ≡ runs → bank ≡ text → text ≡ runs_bank → AreWritten ops bank
first_written ops bank text runs_bank runs n e b t = subst (λ (x : List Op × Text). AreWritten x.0 x.1) (λ i. (sym e i, sym (b ∙ t) i)) (normal_written runs runs_bank n)
