-- What writing adds.
use Rattle.std.specs.Prelude.{◌≡◌, Bool, List, ◌++◌, ℕ, ◌+◌, ◌-◌, length, take, drop, nat_lt, Result, Ok, Err}
use Rattle.std.specs.List.{list_all}
use Rattle.ep_units.specs.Text.{Text}
use Rattle.ep_fields.specs.declared.fault.Fault.{Fault}
use Rattle.ep_fields.specs.declared.fault.Fault.TheVariants.{Memory, NoRecord}

-- of what may have bytes, these bytes were added, unless memory ran out or it has none
abbrev pub Adds : {X : Type 0} → Result X Fault → List ℕ → List ℕ → List ℕ → Type 0 → Type 0
Adds (Ok x) old new bytes Is = (new ≡ old ++ bytes) × Is
Adds (Err Memory) old new bytes Is = Unit {0}
Adds (Err NoRecord) old new bytes Is = Is → ⊥

-- each unit is a character of one byte
abbrev pub is_ascii : Text → Bool
is_ascii us = list_all (λ u. nat_lt u 128) us

-- the front of a text that was begun: what stands behind four bytes and before room for the rest
abbrev pub begun : List ℕ → ℕ → List ℕ
begun bytes room = take (length bytes - (4 + room)) (drop 4 bytes)
