use Rattle.std.proofs.Common.{◌≡◌, ◌++◌, drop}
use Rattle.std.specs.List.{slice_split}
use Rattle.ep_wire_words.specs.Sessions.{is_comma}
use Rattle.ep_wire_words.proofs.Commas.{behind}
use Rattle.ep_wire_words.proofs.session.pieces.Given as goal

abbrev pub invariant-loop-unit : goal.invariant-loop-unit
invariant-loop-unit l = l.ids ++ behind l.id (slice_split is_comma (drop l.unit-index l.text)) ≡ slice_split is_comma l.text
