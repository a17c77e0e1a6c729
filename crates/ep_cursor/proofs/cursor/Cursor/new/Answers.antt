use Rattle.std.proofs.Common.{ap, arith}
use Rattle.ep_cs.specs.Change.{bank_of}
use Rattle.ep_cs.specs.Runs.{all_passed}
use Rattle.ep_cursor.specs.Heads.{with_first}
use Rattle.ep_cursor.proofs.Begin.{first_runs, first_written}
use Rattle.ep_cursor.proofs.cursor.Cursor.new.Goals as goal

pub invariant_of-result : goal.invariant_of-result
invariant_of-result c =
    let change = c.args.change.now in
    let normal = c.ops-ops.ensures.normal in
    let runs = first_runs c.ops-ops.result.now c.units_of.result c.lines_of.result change.runs c.ops-ops.ensures.runs c.units_of.ensures c.lines_of.ensures in
    record {
      written =
          first_written (with_first c.units_of.result c.lines_of.result c.ops-ops.result.now) c.as_slice.result.now c.bank.result.now (bank_of change.edit) change.runs
          normal.normal runs c.as_slice.ensures c.bank.ensures;
      inside = omega (arith, ap all_passed runs, normal.inside, c.old_len.ensures);
    }
