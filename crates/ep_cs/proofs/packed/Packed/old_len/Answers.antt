use Rattle.std.proofs.Common.{◌∙◌, sym, ap}
use Rattle.ep_cs.specs.Change.{Change}
use Rattle.ep_cs.specs.Spelling.{old_len}
use Rattle.ep_cs.proofs.RunBank.{length_is}
use Rattle.ep_cs.proofs.packed.Packed.old_len.Goals as goal

pub returns : goal.returns
returns c = sym (length_is c.self.inside.old_len c.self.inside.ops.items c.self.inside.bank c.self.invariant.inside) ∙ ap (λ (x : Change). old_len x.edit) c.self.view_is
