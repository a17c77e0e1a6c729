-- The edits of a birth that became nothing, as they are kept: their heads, under each session.
use Rattle.std.specs.Prelude.{◌≡◌, ℕ, ◌-◌, ◌<◌, List, [], Option, Vec, map, vec_len, vec_capacity}
use Rattle.std.specs.BTreeMap.{is_at}
use Rattle.std.specs.Map.{lookup}
use Rattle.std.specs.Option.{option_map_or, IsSomeAnd}
use Rattle.std.specs.Ordering.{nat_cmp, ordering_then}
use Rattle.std.specs.declared.alloc.Global.{Global}
use Rattle.std.specs.declared.cmp.Ordering.{Ordering}
use Rattle.ep_units.specs.declared.session.Session.{Session}
use Rattle.ep_history.specs.declared.nop.Nop.{Nop}
use Rattle.ep_history.specs.History.{nops_of}

-- a session as a key
abbrev pub key_of : Session → ℕ × ℕ
key_of s = (s.epoch, s.count)

-- keys by epoch, and then by count
abbrev pub key_cmp : ℕ × ℕ → ℕ × ℕ → Ordering
key_cmp x y = ordering_then (nat_cmp x.0 y.0) (nat_cmp x.1 y.1)

-- heads, and for how many more there is room
pub record Heads : Type 0 where
  pub heads : List ℕ
  pub room : ℕ

-- what a vector of heads shows
abbrev pub seen : Vec ℕ Global → Heads
seen v = record { heads = v.items; room = vec_capacity v - vec_len v }

-- heads under keys
abbrev pub KeptNops : Type 0
KeptNops = List ((ℕ × ℕ) × Heads)

-- those of a session
abbrev pub found : Session → KeptNops → Option Heads
found s k = lookup (is_at (key_cmp (key_of s))) k

-- the heads at which the session's edits became nothing, in order
abbrev pub heads_of : Session → KeptNops → List ℕ
heads_of s k = option_map_or (λ h. h.heads) (found s k) []

-- there is room for one edit more of the session
abbrev pub HasRoom : Session → KeptNops → Type 0
HasRoom s k = IsSomeAnd (found s k) (λ h. 0 < h.room)

-- each session has the heads that it had
abbrev pub SameHeads : KeptNops → KeptNops → Type 0
SameHeads old new = (s : Session) → heads_of s new ≡ heads_of s old

-- the heads of a session's edits among these
abbrev pub heads_in : Session → List Nop → List ℕ
heads_in s xs = map (λ x. x.rev) (nops_of s xs)

-- what is kept stands for these edits: under each session are the heads of its own
abbrev pub StandFor : KeptNops → List Nop → Type 0
StandFor k xs = (s : Session) → heads_of s k ≡ heads_in s xs
