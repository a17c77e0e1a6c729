-- What a crash at each moment of a run leaves.
use Rattle.std.specs.Prelude.{ℕ, ◌≤◌, ◌⊎◌, List}

-- A crash at any moment from the old state to the new one leaves a file that has P.
pub record LeavesOnly {D : Type 0} (moment : D → ℕ) (since : D → ℕ → List ℕ → Type 0) (old new : D) (P : List ℕ → Type 0) : Type 0 where
  pub later : moment old ≤ moment new
  pub each : (c : List ℕ) → since new (moment old) c → P c
  -- for a run that began earlier: nothing but what has P is added, and nothing is lost
  pub before : (t : ℕ) (c : List ℕ) → t ≤ moment old → since new t c → since old t c ⊎ P c
  pub keeps : (t : ℕ) (c : List ℕ) → t ≤ moment old → since old t c → since new t c

-- Until some moment a crash leaves what has P, and from then on what has Q.
abbrev pub LeavesFirst : {D : Type 0} → (D → ℕ) → (D → ℕ → List ℕ → Type 0) → D → D → (List ℕ → Type 0) → (List ℕ → Type 0) → Type 0
LeavesFirst {D} moment since old new P Q = (mid : D) × LeavesOnly moment since old mid P × LeavesOnly moment since mid new Q

-- the same, or that moment never came and a crash leaves what has P all along
abbrev pub MayLeaveFirst : {D : Type 0} → (D → ℕ) → (D → ℕ → List ℕ → Type 0) → D → D → (List ℕ → Type 0) → (List ℕ → Type 0) → Type 0
MayLeaveFirst {D} moment since old new P Q = LeavesOnly moment since old new P ⊎ LeavesFirst moment since old new P Q
