use Rattle.std.proofs.Common.{[], ◌∷◌}
use Rattle.ep_pad_state.proofs.Keeping.{keeps-nops, present-of}
use Rattle.ep_pad_state.proofs.pad.Pad.note.Goals as goal

pub returns-in-There : goal.returns-in-There
returns-in-There c = λ p h.
    keeps-nops c.args.self.now p _ _ (c.args.nop ∷ []) h.keeps (h.sound.present (present-of c.args.self.now _ p h.keeps c.in-There.is)) c.in-There.is c.note.ensures.revs c.note.ensures.nops
