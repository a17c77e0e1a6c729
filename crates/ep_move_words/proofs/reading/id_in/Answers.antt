use Rattle.std.proofs.Common.{◌≡◌, subst}
use Rattle.ep_move_words.specs.Moves.{id_in}
use Rattle.ep_move_words.proofs.Ids.{read_id}
use Rattle.ep_move_words.proofs.reading.id_in.Goals as goal

pub returns : goal.returns
returns c =
    let id = c.in_ok-id.id in
    subst (λ text. id ≡ id_in text) c.in_ok-units.ensures.units (read_id id c.in_ok-units.units c.in_ok-id.ensures.own c.in_ok-id.ensures.same)
