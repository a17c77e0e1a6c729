use Rattle.std.proofs.Common.{false, sym, ◌∙◌}
use Rattle.ep_cs.specs.Doc.{Doc}
use Rattle.ep_make.specs.Lines.{sees}
use Rattle.ep_make.specs.Same.{doc_eq}
use Rattle.ep_make.proofs.Seen.{map_none, map_some, seen, unseen}
use Rattle.ep_make.proofs.lines.sees.Goals as goal

pub returns-in_default : goal.returns-in_default
unfolding sees
returns-in_default g c = λ w at.
    let nobody = map_none _ c.view.result _ (c.view.ensures at.alone at.journal w at.kepts at.stands) c.in_default.is in
    sym (unseen w at.kepts c.args.name.now false (λ (d : Doc). doc_eq d c.args.doc.now) nobody)

pub returns : goal.returns
unfolding sees
returns g c = λ w at.
    let here = map_some _ c.view.result c.in-Some.client _ (c.view.ensures at.alone at.journal w at.kepts at.stands) c.in-Some.is in
    c.shows.ensures ∙ sym (seen w at.kepts c.args.name.now c.in-Some.client.now false (λ (d : Doc). doc_eq d c.args.doc.now) at.run here)
