-- The statuses of a schedule.
use Rattle.std.proofs.Common.{[], ◌∷◌, refl, arith}
use Rattle.std.specs.Prelude.{Contains, Result, Ok, Err}
use Rattle.ep_make.specs.declared.bad.MakeBad.{MakeBad}
use Rattle.ep_make.specs.declared.bad.MakeBad.TheVariants.{SinkFault, Failed}
use Rattle.ep_run.specs.Making.{code_of}

pub known_code : (r : Result (Unit {0}) MakeBad) → Contains (0 ∷ 5 ∷ 7 ∷ []) (code_of r)
known_code (Ok u) = (0, omega arith, refl)
known_code (Err SinkFault) = (1, omega arith, refl)
known_code (Err Failed) = (2, omega arith, refl)
