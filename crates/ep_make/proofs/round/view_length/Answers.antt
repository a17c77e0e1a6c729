use Rattle.std.proofs.Common.{◌≡◌, length, sym, subst}
use Rattle.std.specs.Prelude.{IfOk}
use Rattle.ep_cs.specs.Doc.{Doc}
use Rattle.ep_make.specs.Round.{view_length}
use Rattle.ep_make.proofs.Seen.{map_some, seen}
use Rattle.ep_make.proofs.round.view_length.Goals as goal

pub returns-clause-length : goal.returns-clause-length
unfolding view_length
returns-clause-length g c = λ w at.
    let here = map_some _ c.view.result c.in-Some.client _ (c.view.ensures at.alone at.journal w at.kepts at.stands) c.in-Some.is in
    subst (λ k. IfOk c.units_of.result (λ u. u ≡ k)) (sym (seen w at.kepts c.args.name.now c.in-Some.client.now 0 (λ (d : Doc). length d) at.run here)) c.units_of.ensures.length
