-- What is written where the sink failed, or memory ran out behind it.
use Rattle.std.proofs.Common.{ℕ, List, Option, inr}
use Rattle.ep_outside.specs.Disk.{Contents}
use Rattle.ep_verdicts.specs.Refusals.{IsCause, Leaves}
use Rattle.ep_verdicts.specs.Written.{WritesPart}
use Rattle.ep_verdicts.specs.declared.verdicts_bad.VerdictsBad.{VerdictsBad}
use Rattle.ep_verdicts.specs.declared.verdicts_bad.VerdictsBad.TheVariants.{Shelf, Disk, Sink, NoMemory}

-- neither the shelf nor a disk failed
pub leaves-part : {K D : Type 0} (held : K → Option (List ℕ)) (names : Option (List (List ℕ))) (told : List ℕ → Option Contents) (old new : K) (e : VerdictsBad D) (P : Type 0) → IsCause (λ n. ⊥) (λ d. ⊥) P e
    → WritesPart names told (held old) (held new) → Leaves held names told old new e
leaves-part held names told old new (Shelf n) P h part = absurd h
leaves-part held names told old new (Disk d) P h part = absurd h
leaves-part held names told old new Sink P h part = part
leaves-part held names told old new NoMemory P h part = inr part
