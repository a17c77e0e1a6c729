-- What contracts see of the pads of a house, of halls and of passes of pads.
use Rattle.std.specs.Prelude.{ℕ, ◌≡◌, List}
use Rattle.atomic_table.specs.Seated.{TableId}
use Rattle.ep_outside.specs.declared.limits.Limits.{Limits}
use Rattle.ep_cell.specs.Passes.{Known, id_of, home_of, number, seen, floor}
use Rattle.ep_cell.specs.Passes as cell
use Rattle.ep_cell.specs.Passes.{IsFrom}
use Rattle.ep_house.specs.declared.pads.Pads.{Pads}
use Rattle.ep_house.specs.declared.pads.Hall.{Hall}
use Rattle.ep_house.specs.declared.pads.PadPass.{PadPass}
use Rattle.ep_pad.specs.declared.wanted.Wanted.{Wanted}
use Rattle.ep_pad.specs.Halls.{Answer}
use Rattle.ep_house.specs.Told.{told_log}
use Rattle.ep_house.specs.Named.{shared_id}

module _ {H P D E R : Type 0} {s : _} {t : _} {d : _} {e : _} {p : _} where
  abbrev pub limits_of : Pads H P D E R s t d e p → Limits
  limits_of pads = pads.limits

  abbrev pub IsHallOf : Pads H P D E R s t d e p → Hall H P D E R s t d e p → Type 0
  IsHallOf pads hall = IsFrom pads.registry hall.pass

  abbrev pub IsPassOf : Pads H P D E R s t d e p → PadPass H P D E R s t d e p → Type 0
  IsPassOf pads pass = IsFrom pads.registry pass.second

  -- what a hall knows: its number, the names that were asked for with their answers, and how many there are at least
  abbrev pub hall_known : Hall H P D E R s t d e p → Known Wanted Answer
  hall_known hall = record { number = number hall.pass; seen = told_log shared_id (seen hall.pass); floor = floor hall.pass }

  abbrev pub name_of : PadPass H P D E R s t d e p → List ℕ
  name_of pass = pass.name

  -- the cell that a pass is of
  abbrev pub cell_of : PadPass H P D E R s t d e p → TableId
  cell_of pass = shared_id pass.cell

  -- the machine of a pass's pad as it began
  abbrev pub begun_of : PadPass H P D E R s t d e p → P
  begun_of pass = cell.first pass.pass

  -- what a pass knows of its pad
  abbrev pub known : PadPass H P D E R s t d e p → Known E R
  known pass = cell.known pass.pass

  -- a pass of the same pad, in the same house
  abbrev pub IsSamePad : PadPass H P D E R s t d e p → PadPass H P D E R s t d e p → Type 0
  IsSamePad v w = (name_of w ≡ name_of v) × (cell_of w ≡ cell_of v) × (begun_of w ≡ begun_of v) × (home_of w.second ≡ home_of v.second) × (cell.first w.second ≡ cell.first v.second)
