use Rattle.std.proofs.Common.{sym}
use Rattle.ep_pool.specs.Pool.{pair_of}
use Rattle.ep_fields.proofs.Adding.{pairs_more, not_past}
use Rattle.ep_fields.proofs.writing.put_pairs.Goals as goal
use Rattle.ep_fields.proofs.writing.put_pairs.Goals.{in-Some+in_ok-put_pair, in_default}

pub loop-n-preserved : goal.loop-n-preserved
loop-n-preserved c =
    elim c.match-get.branch [
      | in-Some+in_ok-put_pair w ↦
          rw w.out-is (pairs_more c.args.pairs.now.pairs c.loop-n.n (pair_of w.in-Some.attr.now) c.args.out.now.items c.loop-n.out.items w.put_pair.new.out.items (sym w.in-Some.ensures) c.loop-n.invariant w.in_ok-put_pair.ensures)
      | in_default w ↦ absurd (not_past c.args.pairs.now.pairs c.loop-n.n c.len-n-end.result w.in_default.ensures c.len-n-end.ensures c.loop-n-test.true)
    ]
