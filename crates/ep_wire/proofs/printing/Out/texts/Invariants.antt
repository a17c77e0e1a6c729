use Rattle.std.proofs.Common.{◌≡◌, ◌++◌, List, drop, map}
use Rattle.json.specs.Token.{Token}
use Rattle.json.specs.Tree.{items_tokens}
use Rattle.serde_json.specs.View.{items_of}
use Rattle.serde_json.specs.Written.{items_outline}
use Rattle.ep_units.specs.Text.{Text}
use Rattle.ep_wire_words.specs.Json.{text}
use Rattle.ep_wire.proofs.printing.Out.texts.Given as goal

-- the tokens of these texts, up to the end of their array
abbrev rest : List Text → List Token
rest ts = items_tokens (items_outline (items_of (map text ts)))

abbrev pub invariant-loop-units : goal.invariant-loop-units
invariant-loop-units l = l.self ++ rest (drop l.units-index l.all) ≡ l.initial.self ++ rest l.all
