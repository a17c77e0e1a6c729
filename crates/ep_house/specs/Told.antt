-- A history of the registry, told by the ids of cells.
use Rattle.std.specs.Prelude.{ℕ, List, map, Result}
use Rattle.atomic_table.specs.Seated.{TableId}
use Rattle.ep_cell.specs.declared.view.Call.{Call}
use Rattle.ep_pad.specs.declared.pass_bad.PassBad.{PassBad}
use Rattle.ep_pad.specs.declared.wanted.Wanted.{Wanted}
use Rattle.ep_pad.specs.Halls.{Answer, told_of}

module _ {C : Type 0} (id : C → TableId) where
  abbrev pub told_call : Call Wanted (Result C PassBad) → Call Wanted (Answer)
  told_call c = record { by = c.by; entry = c.entry; reply = told_of id c.reply }

  abbrev pub told_log : List (Call Wanted (Result C PassBad)) → List (Call Wanted (Answer))
  told_log log = map told_call log
