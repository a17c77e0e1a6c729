use Rattle.std.proofs.Common.{◌≡◌, ◌++◌, drop, map}
use Rattle.serde_json.specs.View.{view}
use Rattle.ep_ask.specs.Replies.{text}
use Rattle.ep_ask.proofs.answer.id_texts.Given as goal

-- what is made, and what is still to be made
abbrev pub invariant-loop-id : goal.invariant-loop-id
invariant-loop-id l = map view l.values.items ++ map text (drop l.id-index l.all) ≡ map text l.all
