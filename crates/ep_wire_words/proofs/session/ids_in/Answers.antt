use Rattle.std.proofs.Common.{ap, sym, true≢false, ◌∙◌}
use Rattle.std.specs.List.{slice_split}
use Rattle.ep_wire_words.specs.Sessions.{is_comma}
use Rattle.ep_wire_words.proofs.Ids.{pieces_are}
use Rattle.ep_wire_words.proofs.session.ids_in.Goals as goal

pub returns-clause-ids : goal.returns-clause-ids
returns-clause-ids c =
    pieces_are c.in_ok-units.units _ c.in_ok-units.ensures.text (c.in_ok-pieces.ensures ∙ ap (slice_split is_comma) c.as_slice.ensures) (λ e. true≢false (sym (c.if-is_empty.ensures.1 e)))
