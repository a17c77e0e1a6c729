use Rattle.std.proofs.Common.{◌∙◌, sym, ap}
use Rattle.std.specs.List.{list_any}
use Rattle.ep_sign.specs.Writing.{is_anothers}
use Rattle.ep_sign.proofs.Steps.{anothers_found}
use Rattle.ep_sign.proofs.another.inserts_another.Goals as goal

pub returns : goal.returns
returns c =
    c.any_anothers.ensures ∙ ap (list_any (is_anothers c.args.author.now)) c.ops.ensures.runs ∙ sym (anothers_found c.args.author.now c.args.change.now c.ops.ensures.normal)
