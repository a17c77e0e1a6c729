use Rattle.std.proofs.Common.{take, sym, ap, ◌∙◌, arith}
use Rattle.std.proofs.lemmas.List.{length-take-le, take_all}
use Rattle.ep_session.proofs.ready.Ready.looked_at.Goals as goal

pub slice_bounds-result-end : goal.slice_bounds-result-end
slice_bounds-result-end c = sym (length-take-le 100 c.as_slice-ids.result.now (omega arith))

pub returns-then-ids-le-MOST_IDS : goal.returns-then-ids-le-MOST_IDS
returns-then-ids-le-MOST_IDS c = sym (take_all 100 c.as_slice-ids.result.now (omega arith)) ∙ ap (take 100) c.as_slice-ids.ensures
