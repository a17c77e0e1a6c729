-- The statuses of a shelf that was judged, or wasn't.
use Rattle.std.proofs.Common.{[], ◌∷◌, refl, arith}
use Rattle.std.specs.Prelude.{Result, Ok, Err, Contains}
use Rattle.ep_verdicts.specs.declared.found.Found.{Found}
use Rattle.ep_verdicts.specs.declared.found.Found.TheVariants.{Sound, Broken}
use Rattle.ep_verdicts.specs.declared.verdicts_bad.VerdictsBad.{VerdictsBad}
use Rattle.ep_verdicts.specs.declared.verdicts_bad.VerdictsBad.TheVariants.{Shelf, Disk, Sink, NoMemory}
use Rattle.ep_run.specs.Judged.{code_of}

pub known_code : {D : Type 0} (r : Result Found (VerdictsBad D)) → Contains (0 ∷ 1 ∷ 5 ∷ 6 ∷ 7 ∷ []) (code_of r)
known_code (Ok Sound) = (0, omega arith, refl)
known_code (Ok Broken) = (1, omega arith, refl)
known_code (Err Sink) = (2, omega arith, refl)
known_code (Err (Shelf n)) = (3, omega arith, refl)
known_code (Err (Disk d)) = (3, omega arith, refl)
known_code (Err NoMemory) = (4, omega arith, refl)
