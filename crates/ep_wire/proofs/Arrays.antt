-- Changesets of an array, one after another.
use Rattle.std.proofs.Common.{List, ◌++◌, Result, Ok}
use Rattle.ep_cs.specs.Change.{Change}
use Rattle.ep_wire_words.specs.declared.bad.WireBad.{WireBad}
use Rattle.ep_wire_words.specs.Answer.{◌>>=◌}

-- changes, with others before them
abbrev pub with_front : List Change → Result (List Change) WireBad → Result (List Change) WireBad
with_front front r = r >>= λ cs. Ok (front ++ cs)
