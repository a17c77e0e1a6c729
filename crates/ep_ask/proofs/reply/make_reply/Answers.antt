use Rattle.std.proofs.Common.{ap, ◌∙◌}
use Rattle.serde_json.specs.Written.{compact_text, has_float}
use Rattle.ep_ask.proofs.Floats.{reply-no_float}
use Rattle.ep_ask.proofs.reply.make_reply.Goals as goal

pub returns-clause-body : goal.returns-clause-body
returns-clause-body c =
    let same = c.in_ok-json.ensures in
    c.in_ok-to_string.ensures.text (ap has_float same ∙ reply-no_float c.args.outcome.now) ∙ ap compact_text same
