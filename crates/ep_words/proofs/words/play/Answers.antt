use Rattle.std.proofs.Common.{◌≡◌, ◌∙◌, sym, ap, subst, true, is_some, Some, None}
use Rattle.ep_units.specs.PadId.{is_own_id}
use Rattle.ep_words.specs.Lines.{play, play_line}
use Rattle.ep_words.proofs.Pads.{not_played, played}
use Rattle.ep_words.proofs.words.play.Goals as goal

pub returns-then-is_grouped-clause-exact : goal.returns-then-is_grouped-clause-exact
returns-then-is_grouped-clause-exact c =
    let units = c.in_ok-units.units in
    let pad = c.in-Some.pad in
    let own : is_own_id units ≡ true = sym c.in_ok-pad.ensures.own ∙ ap is_some c.in-Some.is in
    let same : pad ≡ units = rw c.in-Some.is at c.in_ok-pad.ensures.same in
    λ _. subst (λ id. play_line id ≡ None) c.in_ok-units.ensures.units (not_played units pad own same (sym c.if-is_grouped.ensures))

pub returns-clause-exact : goal.returns-clause-exact
returns-clause-exact c =
    let units = c.in_ok-units.units in
    let pad = c.in-Some.pad in
    let own : is_own_id units ≡ true = sym c.in_ok-pad.ensures.own ∙ ap is_some c.in-Some.is in
    let same : pad ≡ units = rw c.in-Some.is at c.in_ok-pad.ensures.same in
    subst (λ id. play_line id ≡ Some (play pad)) c.in_ok-units.ensures.units (played units pad own same (sym c.if-is_grouped.ensures))
