use Rattle.std.proofs.Common.{◌∙◌, sym, refl}
use Rattle.ep_replay.proofs.Telling.{closing_answer, told_ended}
use Rattle.ep_replay.proofs.first.is_behind.Goals as goal

pub returns-then-lacks_newline : goal.returns-then-lacks_newline
returns-then-lacks_newline c =
    closing_answer c.args.time c.args.doc.now c.args.rev.now c.closes.result c.ops-normal.ensures.normal c.requires (sym c.lacks_newline.ensures ∙ c.if-lacks_newline.true) c.closes.ensures

pub returns : goal.returns
returns c = (λ t. told_ended c.args.time c.args.doc.now c.args.rev.now c.ops-normal.ensures.normal c.requires (sym c.lacks_newline.ensures ∙ c.if-lacks_newline.false), λ is. refl)
