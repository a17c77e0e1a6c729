use Rattle.std.proofs.Common.{arith}
use Rattle.ep_block_parts.proofs.Texts.{seen_on, seen_anew}
use Rattle.ep_block_parts.proofs.seen.Seen.then.Goals.{then-next-gt0, else-next-gt0}
use Rattle.ep_block_parts.proofs.seen.Seen.then.Goals as goal

pub returns-clause-seen : goal.returns-clause-seen
returns-clause-seen c =
    λ us vs a b. elim c.if-next-gt0.branch [
      | then-next-gt0 w ↦ rw w.tail-is (seen_anew c.args.self c.args.next us vs a b w.if-next-gt0.true)
      | else-next-gt0 w ↦ rw w.tail-is (seen_on c.args.self c.args.next us vs a b (omega arith) (omega (arith, w.if-next-gt0.false)))
    ]
