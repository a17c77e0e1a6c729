use Rattle.std.proofs.Common.{rules, refl, ap, ◌∷◌, []}
use Rattle.ep_history.specs.Pad.{newest, with_nops}
use Rattle.ep_pad_state.proofs.Keeping.{present-of, birth-of}
use Rattle.ep_pad_state.proofs.Readying.{ready-nop}
use Rattle.ep_pad_state.proofs.pad.Pad.nop.Goals as goal

pub returns-clause-next : goal.returns-clause-next
returns-clause-next c = (
  ready-nop _ _ _ refl (search rules) (search rules),
  λ p h. (
    present-of _ _ p h.keeps refl,
    ap (λ n. with_nops p (record { session = c.args.session; time = c.args.time; rev = n } ∷ [])) (c.last-rev.ensures.number (newest p) (birth-of _ _ p h.keeps refl)),
  ),
)
