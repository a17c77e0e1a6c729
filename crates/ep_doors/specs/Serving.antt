-- How many jobs the callers got.
use Rattle.std.specs.Prelude.{ℕ, ◌≡◌, ◌⊎◌, ◌+◌, ◌-◌, ◌^◌, ◌<◌}
use Rattle.ep_outside.specs.Outside.{HasRisen}
use Rattle.ep_doors.specs.declared.serving.Served.{Served}
use Rattle.ep_doors.specs.declared.serving.Served.TheVariants.{Ended, DoorsFailed, NotStarted, NoMemory}

-- as long as neither count stands at its greatest number: so many callers more were given, and so many jobs more started, but for some
abbrev pub Keeps : ℕ → ℕ → ℕ → ℕ → ℕ → Type 0
Keeps lost given0 given started0 started = given < 2 ^ 64 - 1 → started < 2 ^ 64 - 1 → started + given0 + lost ≡ given + started0

-- each caller got a job, but for the one whose job could not be started, or for which there was no memory
abbrev pub KeepsPace : Served → ℕ → ℕ → ℕ → ℕ → Type 0
KeepsPace Ended g0 g s0 s = Keeps 0 g0 g s0 s
KeepsPace (DoorsFailed n) g0 g s0 s = Keeps 0 g0 g s0 s
KeepsPace (NotStarted n) g0 g s0 s = Keeps 1 g0 g s0 s
KeepsPace NoMemory g0 g s0 s = Keeps 0 g0 g s0 s ⊎ Keeps 1 g0 g s0 s

-- why it ended: nobody comes any more; or a count of faults rose, and is told
abbrev pub HasEnded : Served → Type 0 → ℕ → ℕ → ℕ → ℕ → Type 0
HasEnded Ended over d0 d w0 w = over
HasEnded (DoorsFailed n) over d0 d w0 w = (n ≡ d) × HasRisen d0 d
HasEnded (NotStarted n) over d0 d w0 w = (n ≡ w) × HasRisen w0 w
HasEnded NoMemory over d0 d w0 w = Unit {0}

-- a job wasn't started, and the count of faults that rose is told; or there was no memory for it
abbrev pub IsNotStarted : ℕ → ℕ → Served → Type 0
IsNotStarted w0 w Ended = ⊥
IsNotStarted w0 w (DoorsFailed n) = ⊥
IsNotStarted w0 w (NotStarted n) = (n ≡ w) × HasRisen w0 w
IsNotStarted w0 w NoMemory = Unit {0}
