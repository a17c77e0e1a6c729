use Rattle.ep_replay.proofs.Standing.{stands_answer}
use Rattle.ep_replay.proofs.replay.Replay.may_stand.Goals as goal

pub returns-clause-stands : goal.returns-clause-stands
returns-clause-stands c =
    stands_answer c.args.self.now.revs.items c.args.rev.now c.args.self.now.time c.args.self.now.doc c.is_later.result (c.is_empty.ensures.some c.if-is_empty.false) c.args.self.now.time_is
    c.args.self.now.doc_is c.is_later.ensures
