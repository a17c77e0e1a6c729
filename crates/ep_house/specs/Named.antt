-- Names with their cells, and what waits for a name.
use Rattle.std.specs.Prelude.{ℕ, ◌≡◌, List, [], ◌∷◌, Option, Some, None, IfSome}
use Rattle.std.specs.declared.sync.Arc.{Arc}
use Rattle.std.specs.declared.alloc.Global.{Global}
use Rattle.std.specs.Arc.{arc_value}
use Rattle.atomic_table.specs.Seated.{TableId}
use Rattle.ep_cell.specs.declared.cell.Cell.{Cell}
use Rattle.ep_cell.specs.Passes.{first_of, id_of}
use Rattle.ep_outside.specs.declared.limits.Limits.{Limits}
use Rattle.ep_house.specs.declared.named.Named.{Named}
use Rattle.ep_house.specs.declared.named.Kept.{Kept}
use Rattle.ep_house.specs.declared.named.Waiting.{Waiting}
use Rattle.ep_house.specs.declared.named.Waiting.TheVariants as waiting
use Rattle.ep_house.specs.Register.{Waits, on_disk, in_cell}

-- which cell is shared
abbrev pub shared_id : {M E R : Type 0} → Arc (Cell M E R) Global → TableId
shared_id a = id_of (arc_value a)

abbrev pub cells_of : {M E R : Type 0} → List (Named M E R) → List (List ℕ × TableId)
cells_of [] = []
cells_of (n ∷ ns) = (n.name, shared_id n.cell) ∷ cells_of ns

abbrev pub wait_of : {D M E R : Type 0} → Waiting D M E R → Waits D
wait_of (waiting.Disk d) = on_disk d
wait_of (waiting.Cell c) = in_cell (id_of c)
wait_of (waiting.Shared a) = in_cell (shared_id a)

abbrev pub waits_of : {W A : Type 0} → (W → A) → List (Kept W) → List (List ℕ × A)
waits_of f [] = []
waits_of f (k ∷ ks) = (k.name, f k.what) ∷ waits_of f ks

module _ {M E R : Type 0} (limits_of : M → Limits) where
  -- to what the machine of a cell was held as it was put in
  abbrev pub limits_in : Arc (Cell M E R) Global → Limits
  limits_in a = limits_of (first_of (arc_value a))

  -- and that of what waits, if a machine does
  abbrev pub limits_waiting : {D : Type 0} → Waiting D M E R → Option Limits
  limits_waiting (waiting.Disk d) = None
  limits_waiting (waiting.Cell c) = Some (limits_of (first_of c))
  limits_waiting (waiting.Shared a) = Some (limits_in a)

  module _ (limits : Limits) where
    -- the machine of a cell was held to these limits
    abbrev pub IsWithin : Arc (Cell M E R) Global → Type 0
    IsWithin a = limits_in a ≡ limits

    -- so was that of what waits, if a machine does
    abbrev pub MayWait : {D : Type 0} → Waiting D M E R → Type 0
    MayWait w = IfSome (limits_waiting w) (λ l. l ≡ limits)
