use Rattle.std.proofs.Common.{refl, sym}
use Rattle.ep_pad_state.proofs.Outcomes.{live-seat}
use Rattle.ep_pad_state.proofs.Pads.{live-there}
use Rattle.ep_pad_state.proofs.Telling.{not-both}
use Rattle.ep_pad_state.proofs.pad.Pad.birth_for.Goals as goal

pub returns : goal.returns
returns c = λ p h.
    (live-seat p c.args.session _ (sym (c.in_ok-live.ensures.live p h.keeps.seats)) refl, (c.in_ok-birth.ensures p h.keeps).1)

pub returns-in_err-birth : goal.returns-in_err-birth
returns-in_err-birth c = λ p h.
    let d = live-seat p c.args.session _ (sym (c.in_ok-live.ensures.live p h.keeps.seats)) refl in
    not-both p.present (live-there p c.args.session h.sound d) (c.in_err-birth.ensures p h.keeps).1
