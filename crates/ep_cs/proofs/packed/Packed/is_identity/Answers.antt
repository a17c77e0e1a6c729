use Rattle.std.proofs.Common.{◌∙◌, length, ap, sym, arith}
use Rattle.ep_cs.specs.Change.{Change}
use Rattle.ep_cs.specs.Fits.{is_identity}
use Rattle.ep_cs.proofs.Packings.{no_runs, not_nothing, no_ops}
use Rattle.ep_cs.proofs.packed.Packed.is_identity.Goals as goal

pub returns-in-empty : goal.returns-in-empty
returns-in-empty c =
    let n = c.self.inside.old_len in
    let ops = c.self.inside.ops.items in
    sym (no_runs n ops c.self.inside.bank c.self.invariant.normal (no_ops ops (omega (arith, c.in-empty.len_below, ap length c.as_slice.ensures.value)))) ∙ ap (λ (x : Change). is_identity x.edit) c.self.view_is

pub returns-in-len1-up : goal.returns-in-len1-up
returns-in-len1-up c =
    let n = c.self.inside.old_len in
    let ops = c.self.inside.ops.items in
    sym (not_nothing n ops c.self.inside.bank c.self.invariant.normal (omega (arith, c.in-len1-up.len_at_least, ap length c.as_slice.ensures.value))) ∙ ap (λ (x : Change). is_identity x.edit) c.self.view_is
