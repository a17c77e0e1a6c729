-- The numbers that a schedule is drawn from.
use Rattle.std.specs.Prelude.{ℕ, ◌+◌, ◌*◌, ◌/◌, ◌%◌, ◌^◌}

-- the number behind another
abbrev pub following : ℕ → ℕ
following x = (x * 6364136223846793005 + 1442695040888963407) % 2 ^ 64

-- its upper bits are what is drawn
abbrev pub upper : ℕ → ℕ
upper x = x / 2 ^ 33

-- what is drawn below n where x is the last number
abbrev pub pick : ℕ → ℕ → ℕ
pick n x = upper (following x) % n
