-- A loop that goes on keeps pace.
use Rattle.std.proofs.Common.{ℕ, ◌≤◌, inl, inr, arith}
use Rattle.ep_outside.specs.Outside.{HasRisen}
use Rattle.ep_doors.specs.Serving.{HasEnded, Keeps, KeepsPace}
use Rattle.ep_doors.specs.declared.serving.Served.{Served}
use Rattle.ep_doors.specs.declared.serving.Served.TheVariants.{Ended, DoorsFailed, NotStarted, NoMemory}

-- what is kept over a first part and over a second one is kept over both
pub keeps_on : (lost g0 g1 g s0 s1 s : ℕ) → Keeps 0 g0 g1 s0 s1 → g1 ≤ g → s1 ≤ s → Keeps lost g1 g s1 s → Keeps lost g0 g s0 s
keeps_on lost g0 g1 g s0 s1 s first given started then below under =
    omega (arith, first (omega (arith, below, given)) (omega (arith, under, started)), then below under)

pub pace_on : (r : Served) (g0 g1 g s0 s1 s : ℕ) → Keeps 0 g0 g1 s0 s1 → g1 ≤ g → s1 ≤ s → KeepsPace r g1 g s1 s → KeepsPace r g0 g s0 s
pace_on Ended g0 g1 g s0 s1 s first given started p = keeps_on 0 g0 g1 g s0 s1 s first given started p
pace_on (DoorsFailed n) g0 g1 g s0 s1 s first given started p = keeps_on 0 g0 g1 g s0 s1 s first given started p
pace_on (NotStarted n) g0 g1 g s0 s1 s first given started p = keeps_on 1 g0 g1 g s0 s1 s first given started p
pace_on NoMemory g0 g1 g s0 s1 s first given started (inl p) = inl (keeps_on 0 g0 g1 g s0 s1 s first given started p)
pace_on NoMemory g0 g1 g s0 s1 s first given started (inr p) = inr (keeps_on 1 g0 g1 g s0 s1 s first given started p)

-- a count that rose from a later one rose from an earlier one
pub risen_on : (n0 n1 n : ℕ) → n0 ≤ n1 → HasRisen n1 n → HasRisen n0 n
risen_on n0 n1 n first then = omega (arith, first, then)

pub ended_on : (r : Served) (over : Type 0) (d0 d1 d w0 w1 w : ℕ) → d0 ≤ d1 → w0 ≤ w1 → HasEnded r over d1 d w1 w → HasEnded r over d0 d w0 w
ended_on Ended over d0 d1 d w0 w1 w doors jobs e = e
ended_on (DoorsFailed n) over d0 d1 d w0 w1 w doors jobs e = (e.0, risen_on d0 d1 d doors e.1)
ended_on (NotStarted n) over d0 d1 d w0 w1 w doors jobs e = (e.0, risen_on w0 w1 w jobs e.1)
ended_on NoMemory over d0 d1 d w0 w1 w doors jobs e = e
