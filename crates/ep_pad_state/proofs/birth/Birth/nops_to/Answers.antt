use Rattle.std.proofs.Common.{◌∙◌, ap, drop}
use Rattle.std.specs.Prelude.{nat_le}
use Rattle.std.specs.List.{take_while}
use Rattle.ep_pad_state.proofs.birth.Birth.nops_to.Goals as goal

pub returns : goal.returns
returns c = λ b h. c.in_ok-heads_to.ensures ∙ ap (λ hs. take_while (λ n. nat_le n c.args.to) (drop c.args.told hs)) (h.nops c.args.session)
