use Rattle.std.proofs.Common.{◌∙◌, ℕ, length, reverse, ap, sym, arith}
use Rattle.ep_cs.specs.declared.op.Kind.TheVariants as kind
use Rattle.ep_cs.specs.Normal.{put}
use Rattle.ep_cs.proofs.Put.{run}
use Rattle.ep_cs.proofs.Stretches.{one_stretch}
use Rattle.ep_cs.proofs.normal.put_stretch.Goals as goal

pub returns-in_ok-put-in-len1-up : goal.returns-in_ok-put-in-len1-up
returns-in_ok-put-in-len1-up c =
    c.in_ok-put-in-len1-up.ensures
    ∙ ap (λ (l : ℕ). put (run kind.Insert (length c.args.text.now) l c.args.attrs) (reverse c.args.ops.now.items)) c.count_lines.ensures.count
    ∙ sym (one_stretch c.args.attrs c.args.text.now (reverse c.args.ops.now.items) (omega (arith, c.in-len1-up.len_at_least)) c.requires.lined)
