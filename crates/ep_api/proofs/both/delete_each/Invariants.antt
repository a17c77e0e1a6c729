use Rattle.std.specs.Prelude.{ℕ, List, All, Option, Result, drop, map}
use Rattle.ep_groups.specs.declared.entries.DirEntry.{DirEntry}
use Rattle.ep_groups.specs.declared.entries.DirReply.{DirReply}
use Rattle.ep_ask.specs.declared.bad.ApiBad.{ApiBad}
use Rattle.ep_api.specs.Functions.{delete_all}
use Rattle.ep_api.specs.Legal.{Stands, Waits}
use Rattle.ep_api.specs.Passes.{Does, Seen, own, seen, stay_of}
use Rattle.ep_api.proofs.both.delete_each.Given as goal

abbrev pub invariant-loop-id : goal.invariant-loop-id
invariant-loop-id g l = record {
  waits : Waits (g.P.PadPort.is_hall l.pads) (g.P.PadPort.is_register (g.P.PadPort.limits_of l.pads)) g.P.PadPort.hall_known l.hall;
  stand : All (Stands (g.P.PadPort.is_of l.pads) (g.P.PadPort.limits_of l.pads) g.P.Store.Disk.told g.P.Store.Device.failures g.P.PadPort.begun g.P.PadPort.known) l.taken.items;
  does : (desk : List (DirEntry × DirReply)) (t : Option (List ℕ)) (r : Result (Unit {0}) ApiBad) (end : Seen)
      → Does (seen desk (own (g.P.PadPort.hall_known l.hall)) (map (stay_of g.P.PadPort.known g.P.PadPort.name_of g.P.PadPort.cell_of) l.taken.items) t) (delete_all l.now (drop l.id-index l.ids)) r end
      → Does (seen desk (own (g.P.PadPort.hall_known l.fn.hall)) (map (stay_of g.P.PadPort.known g.P.PadPort.name_of g.P.PadPort.cell_of) l.fn.taken.items) t) (delete_all l.now l.ids) r end;
}
