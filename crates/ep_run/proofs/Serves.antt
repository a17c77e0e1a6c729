-- The statuses of a server, and one that never began.
use Rattle.std.proofs.Common.{ℕ, List, [], ◌∷◌, Option, refl, arith, inl}
use Rattle.std.specs.Prelude.{Contains}
use Rattle.ep_outside.proofs.Pieces.{started, stopped}
use Rattle.ep_doors.specs.declared.serving.Served.{Served}
use Rattle.ep_doors.specs.declared.serving.Served.TheVariants.{Ended, DoorsFailed, NotStarted, NoMemory}
use Rattle.ep_run.specs.Serving.{Serves, code_of, ready}

pub known_code : (served : Served) → Contains (0 ∷ 5 ∷ 7 ∷ 8 ∷ 9 ∷ []) (code_of served)
known_code Ended = (0, omega arith, refl)
known_code NoMemory = (2, omega arith, refl)
known_code (DoorsFailed n) = (3, omega arith, refl)
known_code (NotStarted n) = (4, omega arith, refl)

-- nothing was written and nobody was asked for, since memory ran out
pub unbegun : (held : Option (List ℕ)) (given jobs : ℕ) (over : Type 0) (doors spawner : ℕ) → Serves 7 held held given given jobs jobs over doors doors spawner spawner
unbegun held given jobs over doors spawner = record {
  written = λ a b. absurd (b refl);
  part = stopped held held ready ready (started held ready);
  jobs = inl (λ g s. omega arith);
  ended = λ e. absurd (omega (arith, e));
  doors_fault = λ e. absurd (omega (arith, e));
  spawner_fault = λ e. absurd (omega (arith, e));
}
