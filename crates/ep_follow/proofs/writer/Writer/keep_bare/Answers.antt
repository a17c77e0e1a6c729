use Rattle.std.proofs.Common.{arith}
use Rattle.ep_follow.proofs.Writers.{said_passed}
use Rattle.ep_follow.proofs.writer.Writer.keep_bare.Goals as goal

pub overflow_add-self : goal.overflow_add-self
overflow_add-self c = omega (arith, said_passed c.args.self.now, c.requires.room.inside, c.requires.room.short)

pub overflow_add-self-else-lines-eq0 : goal.overflow_add-self-else-lines-eq0
overflow_add-self-else-lines-eq0 c = omega (arith, said_passed c.args.self.now, c.requires.room.inside, c.requires.room.short)

pub overflow_add-self-else-lines-eq0-2 : goal.overflow_add-self-else-lines-eq0-2
overflow_add-self-else-lines-eq0-2 c = omega (arith, said_passed c.args.self.now, c.requires.room.inside, c.requires.room.short)

pub overflow_add-self-else-lines-eq0-3 : goal.overflow_add-self-else-lines-eq0-3
overflow_add-self-else-lines-eq0-3 c = omega (arith, said_passed c.args.self.now, c.requires.room.inside, c.requires.room.short, c.requires.room.lined, c.requires.lined)
