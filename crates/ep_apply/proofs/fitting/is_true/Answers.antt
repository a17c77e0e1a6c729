use Rattle.std.proofs.Common.{◌≡◌, ◌∙◌, inl, inr, ap, sym}
use Rattle.ep_cs.specs.declared.op.Kind.{Kind}
use Rattle.ep_cs.specs.Fitting.{holds, is_true}
use Rattle.ep_block_parts.proofs.Texts.{seen_holds}
use Rattle.ep_apply.proofs.fitting.is_true.Goals as goal

pub returns-else-op-eq0 : goal.returns-else-op-eq0
returns-else-op-eq0 c =
    let o = c.args.op.now in
    λ us a. seen_holds o.lines c.args.seen us a c.if-seen-op.true c.if-op-eq0.false
    ∙ elim c.in-Keep.is as (λ _. holds o.lines us ≡ is_true o.kind o.lines us) [
      | inl e ↦ ap (λ (k : Kind). is_true k o.lines us) (sym e)
      | inr e ↦ ap (λ (k : Kind). is_true k o.lines us) (sym e)
    ]
