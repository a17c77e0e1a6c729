use Rattle.std.proofs.Common.{◌∙◌, ap, sym}
use Rattle.ep_cell.specs.History.{pairs}
use Rattle.ep_cell.specs.Passes.{id_of, seen}
use Rattle.ep_house.specs.Register.{all_told}
use Rattle.ep_pad.specs.Halls.{cell_in}
use Rattle.ep_house.specs.Named.{shared_id}
use Rattle.ep_house.proofs.Halls.{one_table, found_on}
use Rattle.ep_house.proofs.pads.Pads.meet.Goals as goal

pub meet-requires-2-clause-other : goal.meet-requires-2-clause-other
meet-requires-2-clause-other g c =
    let one = c.args.one.now in
    let other = c.args.other.now in
    let m = c.meet.ensures.meets in
    let same = one_table shared_id (seen c.meet.new.one) (seen one.second) (seen other.second) one.name other.name (shared_id one.cell) (shared_id other.cell) c.requires.pad m.begins_one m.begins_other one.found other.found in
    other.same.0 ∙ (sym same ∙ ap id_of (sym c.deref.ensures))

pub invariant_of-one : goal.invariant_of-one
invariant_of-one g c =
    let one = c.args.one.now in
    record { same = (c.meet-2.ensures.one ∙ ap id_of c.deref.ensures, c.meet-2.ensures.first.0 ∙ one.same.1); found = found_on shared_id (seen c.meet.new.one) (seen one.second) one.name (shared_id one.cell) c.meet.ensures.meets.begins_one one.found }

pub invariant_of-other : goal.invariant_of-other
invariant_of-other g c =
    let one = c.args.one.now in
    let other = c.args.other.now in
    let m = c.meet.ensures.meets in
    let same = one_table shared_id (seen c.meet.new.one) (seen one.second) (seen other.second) one.name other.name (shared_id one.cell) (shared_id other.cell) c.requires.pad m.begins_one m.begins_other one.found other.found in
    record {
      same = (c.meet-2.ensures.other ∙ (ap id_of c.deref.ensures ∙ same), c.meet-2.ensures.first.1 ∙ other.same.1);
      found = ap (λ l. cell_in (all_told shared_id (pairs l)) other.name) m.same ∙ found_on shared_id (seen c.meet.new.one) (seen other.second) other.name (shared_id other.cell) m.begins_other other.found;
    }
