use Rattle.std.proofs.Common.{◌≡◌, ◌∙◌, length, refl, sym, ap, subst, arith}
use Rattle.ep_cs.specs.Runs.{cells, all_inserted}
use Rattle.ep_cs.specs.declared.op.Kind.TheVariants as kind
use Rattle.ep_apply.specs.Splices.{AreSplice}
use Rattle.ep_apply.proofs.Splices.{are_splice, last_none, last_one, rest_within, rest_inserts}
use Rattle.ep_apply.proofs.splice.splice_of.Goals.{in-empty, in-len1+in-Insert}
use Rattle.ep_apply.proofs.splice.splice_of.Goals as goal

pub first_runs-gone-requires : goal.first_runs-gone-requires
first_runs-gone-requires c = omega (arith, c.requires.short, rest_within kind.Keep c.args.ops.now c.first_runs-kept.result.rest.now c.first_runs-kept.result.units c.first_runs-kept.ensures)

pub returns-clause-is : goal.returns-clause-is
returns-clause-is c =
    let ops = c.args.ops.now in
    let bank = c.args.bank.now in
    let kept = c.first_runs-kept in
    let gone = c.first_runs-gone in
    let later = kept.result.rest.now in
    let rest = gone.result.rest.now in
    let used : all_inserted rest ≡ length bank =
    rest_inserts kind.Drop later rest gone.result.units refl gone.ensures ∙ rest_inserts kind.Keep ops later kept.result.units refl kept.ensures ∙ c.requires.bank in
    elim c.if-gone-lt1.branch [
      | in-empty w ↦
          are_splice ops later rest bank kept.result.units gone.result.units c.if-gone-lt1.attrs.now kept.ensures gone.ensures (last_none rest bank c.if-gone-lt1.attrs.now (omega (arith, w.in-empty)) used)
      | in-len1+in-Insert w ↦
          subst (λ m. AreSplice ops bank kept.result.units gone.result.units (cells m bank)) (sym (ap (λ b. b.now) w.attrs-is))
          (are_splice ops later rest bank kept.result.units gone.result.units w.op-item.result.attrs kept.ensures gone.ensures (last_one rest bank w.op-item.result (omega (arith, w.in-len1.len_at_least, w.in-len1.len_below)) w.op-item.is w.in-Insert.is used))
    ]
