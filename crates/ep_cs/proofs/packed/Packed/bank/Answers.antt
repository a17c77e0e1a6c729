use Rattle.std.proofs.Common.{◌∙◌, sym, ap}
use Rattle.ep_cs.specs.Change.{Change, bank_of}
use Rattle.ep_cs.proofs.RunBank.{bank_is}
use Rattle.ep_cs.proofs.packed.Packed.bank.Goals as goal

pub returns : goal.returns
returns c = sym (bank_is c.self.inside.old_len c.self.inside.ops.items c.self.inside.bank c.self.invariant.normal) ∙ ap (λ (x : Change). bank_of x.edit) c.self.view_is
