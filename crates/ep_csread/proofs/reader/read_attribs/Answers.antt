use Rattle.std.proofs.Common.{List, sym, subst}
use Rattle.ep_csread.specs.declared.written.WrittenOp.{WrittenOp}
use Rattle.ep_csread.specs.Syntax.{attribs_at}
use Rattle.ep_csread.specs.Built.{AreInserts}
use Rattle.ep_csread.proofs.Checked.{attribs_ok, attribs_insert}
use Rattle.ep_csread.specs.Views.{op_views}
use Rattle.ep_csread.proofs.reader.read_attribs.Goals as goal

pub counted_attribs-requires-clause-inserts : goal.counted_attribs-requires-clause-inserts
counted_attribs-requires-clause-inserts c =
    let text = c.as_slice-units.result.now in
    let r = attribs_ok text (attribs_at text) (op_views c.in_ok-ops.ops.items) c.in_ok-ops.ensures in
    subst (λ (os : List WrittenOp). AreInserts (op_views os)) (sym c.deref.ensures.value) (attribs_insert text (op_views c.in_ok-ops.ops.items, r.0) r.1)
