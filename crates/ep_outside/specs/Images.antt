-- Working words of private contracts in the crates above: what a crash may leave around one call on a disk that was in sync.
use Rattle.std.specs.Prelude.{ℕ, ◌≡◌, ◌+◌, ◌≤◌, max, List, length, take, drop}

-- the old bytes, with any in the range and past the old end
pub record Torn (at n : ℕ) (old new : List ℕ) : Type 0 where
  pub before : take at new ≡ take at old
  pub after : drop (at + n) new ≡ drop (at + n) old
  pub no_shorter : length old ≤ length new
  pub no_longer : length new ≤ max (length old) (at + n)

-- a front of the old bytes, of at least so many
pub record Front (to : ℕ) (old new : List ℕ) : Type 0 where
  pub no_shorter : to ≤ length new
  pub no_longer : length new ≤ length old
  pub front : new ≡ take (length new) old
