use Rattle.std.proofs.Common.{sym}
use Rattle.ep_history.specs.Pad.{leave}
use Rattle.ep_pad_state.proofs.Outcomes.{leave-left}
use Rattle.ep_pad_state.proofs.Pads.{left-sound, live-there}
use Rattle.ep_pad_state.proofs.Keeping.{keeps-seats}
use Rattle.ep_pad_state.proofs.pad.Pad.leave.Goals as goal

pub returns : goal.returns
returns c = λ p h.
    let s = c.args.session in
    let d = sym (c.in_ok-leave.ensures.live p h.keeps.seats) in (
      leave p s,
      leave-left p s d,
      record {
        keeps = keeps-seats c.args.self.now p c.leave.new.self (leave p s).sessions h.keeps (c.in_ok-leave.ensures.left p h.keeps.seats);
        sound = left-sound p s h.sound (live-there p s h.sound d);
      },
    )
