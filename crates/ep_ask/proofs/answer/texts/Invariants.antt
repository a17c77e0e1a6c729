use Rattle.std.proofs.Common.{◌≡◌, ◌++◌, drop, map}
use Rattle.serde_json.specs.View.{view}
use Rattle.ep_ask.specs.Replies.{text}
use Rattle.ep_ask.proofs.answer.texts.Given as goal

-- what is made, and what is still to be made
abbrev pub invariant-loop-units : goal.invariant-loop-units
invariant-loop-units l = map view l.values.items ++ map text (drop l.units-index l.all) ≡ map text l.all
