use Rattle.ep_step.specs.Revised.{revs_of}
use Rattle.ep_pad_state.proofs.Keeping.{keeps-revs, present-of}
use Rattle.ep_pad_state.proofs.pad.Pad.lengthen.Goals as goal

pub returns-in-There : goal.returns-in-There
returns-in-There c = λ p h.
    keeps-revs c.args.self.now p _ _ (revs_of c.args.revised) h.keeps (h.sound.present (present-of c.args.self.now _ p h.keeps c.in-There.is)) c.in-There.is c.lengthen.ensures.revs c.lengthen.ensures.nops
