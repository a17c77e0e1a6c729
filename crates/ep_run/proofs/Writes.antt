-- The statuses of a writer.
use Rattle.std.proofs.Common.{[], ◌∷◌, refl, arith}
use Rattle.std.specs.Prelude.{Contains}
use Rattle.ep_written.specs.declared.wrote.Wrote.{Wrote}
use Rattle.ep_written.specs.declared.wrote.Wrote.TheVariants.{All, BadLine, SourceFault, SinkFault, NoMemory, LinkFault, Refused, LinkClosed}
use Rattle.ep_run.specs.Writing.{code_of}

pub known_code : (wrote : Wrote) → Contains (0 ∷ 3 ∷ 4 ∷ 5 ∷ 7 ∷ 8 ∷ 10 ∷ 11 ∷ []) (code_of wrote)
known_code All = (0, omega arith, refl)
known_code BadLine = (1, omega arith, refl)
known_code SourceFault = (2, omega arith, refl)
known_code SinkFault = (3, omega arith, refl)
known_code NoMemory = (4, omega arith, refl)
known_code LinkFault = (5, omega arith, refl)
known_code Refused = (6, omega arith, refl)
known_code LinkClosed = (7, omega arith, refl)
