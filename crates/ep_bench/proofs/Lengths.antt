-- A disk reaches as far as it is long.
use Rattle.std.proofs.Common.{ℕ, ◌≤◌, Option, Some, None, arith}
use Rattle.ep_outside.specs.Disk.{Contents, HasLength, Reaches}

pub reaches : (told : Option Contents) (n : ℕ) → HasLength told n → Reaches told n
reaches None n long = tt
reaches (Some c) n long = omega arith

pub reaches_less : (told : Option Contents) (m n : ℕ) → m ≤ n → Reaches told n → Reaches told m
reaches_less None m n le far = tt
reaches_less (Some c) m n le far = omega arith
