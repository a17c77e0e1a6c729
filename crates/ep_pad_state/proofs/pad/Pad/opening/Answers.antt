use Rattle.std.proofs.Common.{◌≡◌, suc, refl, sym, arith}
use Rattle.ep_history.specs.Pad.{PadState, reopened}
use Rattle.ep_pad_state.specs.Held.{IsPad}
use Rattle.ep_pad_state.proofs.Readying.{ready-opening}
use Rattle.ep_pad_state.proofs.pad.Pad.opening.Goals as goal

pub returns : goal.returns
returns c =
    let e : (p : PadState) → IsPad c.args.self.now p → c.args.epoch ≡ suc p.epoch = λ p h. let x = c.epoch.ensures p h in omega arith in
    (ready-opening c.args.self.now c.new.result (λ p h. c.new.ensures (reopened p) (sym (e p h)) refl), λ p h. (e p h, refl))
