-- What a server promises.
use Rattle.std.specs.Prelude.{ℕ, ◌≡◌, ◌≢◌, ◌⊎◌, List, codes, Option}
use Rattle.ep_outside.specs.Outside.{HasRisen, Takes, TakesPart}
use Rattle.ep_doors.specs.Serving.{Keeps}
use Rattle.ep_doors.specs.declared.serving.Served.{Served}
use Rattle.ep_doors.specs.declared.serving.Served.TheVariants.{Ended, DoorsFailed, NotStarted, NoMemory}

-- what is written once callers may come
abbrev pub ready : List ℕ
ready = codes "ready\n"

-- the status of a server that ended
abbrev pub code_of : Served → ℕ
code_of Ended = 0
code_of (DoorsFailed n) = 8
code_of (NotStarted n) = 9
code_of NoMemory = 7

-- each caller that came got a job, but for one: that of status 9 could not be started, or there was no memory for that of status 7
abbrev pub GotJobs : ℕ → ℕ → ℕ → ℕ → ℕ → Type 0
GotJobs code given0 given started0 started =
    Keeps 0 given0 given started0 started ⊎ (((code ≡ 7) ⊎ (code ≡ 9)) × Keeps 1 given0 given started0 started)

-- A server ended so: by its status, what the sink held and holds, the counts of callers and of jobs, whether nobody comes any more, and the counts of faults of doors and spawner
pub record Serves (code : ℕ) (held now : Option (List ℕ)) (given0 given started0 started : ℕ) (over : Type 0) (doors0 doors spawner0 spawner : ℕ) : Type 0 where
  pub written : code ≢ 5 → code ≢ 7 → Takes held now ready
  pub part : TakesPart held now ready
  pub jobs : GotJobs code given0 given started0 started
  pub ended : code ≡ 0 → over
  pub doors_fault : code ≡ 8 → HasRisen doors0 doors
  pub spawner_fault : code ≡ 9 → HasRisen spawner0 spawner
