use Rattle.std.proofs.Common.{◌≡◌, ◌∙◌, length, ap, refl, sym, subst, arith, IfOk}
use Rattle.ep_cs.specs.declared.packed.Packed.TheInside as packed_runs
use Rattle.ep_units.specs.Text.{Text}
use Rattle.ep_cs.specs.Change.{Change}
use Rattle.ep_cs.specs.Draft.{Draft, drafted, new_length}
use Rattle.ep_cs.specs.Fits.{AreDocuments}
use Rattle.ep_cs.specs.Written.{IsFinished}
use Rattle.ep_cs.proofs.Packings.{finished_is, finished_change}
use Rattle.ep_cs.proofs.builder.Builder.finish.Goals as goal

pub normal-requires-clause-small : goal.normal-requires-clause-small
normal-requires-clause-small c = omega (arith, ap length c.as_slice.ensures, c.self.invariant.few)

pub invariant_of-packed : goal.invariant_of-packed
invariant_of-packed c =
    let b = c.self.inside in
    finished_is b _ c.self.invariant (subst (λ (us : Text). IsFinished b.old_len b.ops.items us c.in_ok-ops.ops.items) c.as_slice.ensures c.in_ok-ops.ensures.finished) c.in_ok-ops.ensures.lines refl refl refl (omega (arith, ap new_length c.self.view_is, c.requires.short))
    (subst (λ (d : Draft). AreDocuments (drafted d).edit.places (drafted d).edit.last) (sym c.self.view_is) c.requires.pieces)

pub returns : goal.returns
returns c =
    let b = c.self.inside in
    let packed : packed_runs.Inside = record { old_len = b.old_len; new_len = b.new_len; ops = c.in_ok-ops.ops; bank = b.bank } in
    let is =
    finished_change b packed c.self.invariant (subst (λ (us : Text). IsFinished b.old_len b.ops.items us c.in_ok-ops.ops.items) c.as_slice.ensures c.in_ok-ops.ensures.finished) refl refl
    ∙ ap drafted c.self.view_is in
    subst (λ (x : Change). IfOk c.packed.result (λ made. made ≡ x)) is c.packed.ensures
