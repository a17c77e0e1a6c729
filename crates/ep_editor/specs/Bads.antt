-- Refusals of the crates below, as those of a request.
use Rattle.std.specs.Prelude.{◌≡◌, ◌⊎◌, Option, Some, None}
use Rattle.ep_client.specs.declared.bad.ClientBad.{ClientBad}
use Rattle.ep_client.specs.declared.bad.ClientBad.TheVariants as client
use Rattle.ep_invert.specs.declared.bad.SpliceBad.{SpliceBad}
use Rattle.ep_invert.specs.declared.bad.SpliceBad.TheVariants as splice
use Rattle.ep_wire_words.specs.declared.bad.WireBad.{WireBad}
use Rattle.ep_wire_words.specs.declared.bad.WireBad.TheVariants as wire
use Rattle.ep_editor.specs.declared.bad.EditorBad.{EditorBad}
use Rattle.ep_editor.specs.declared.bad.EditorBad.TheVariants as bad

-- what came is no message
abbrev pub bad_of_wire : WireBad → EditorBad
bad_of_wire wire.NoMemory = bad.NoMemory
bad_of_wire b = bad.Wire b

-- the client can't hear it
abbrev pub bad_of_client : ClientBad → EditorBad
bad_of_client client.NoMemory = bad.NoMemory
bad_of_client b = bad.Heard b

-- the stretch is none of the view
abbrev pub bad_of_splice : SpliceBad → EditorBad
bad_of_splice splice.Place = bad.Place
bad_of_splice (splice.CutsPair at) = bad.CutsPair at
bad_of_splice splice.NoMemory = bad.NoMemory

-- a refusal is this one, or want of memory
abbrev pub IsBadOf : EditorBad → Option ClientBad → Type 0
IsBadOf why None = why ≡ bad.NoMemory
IsBadOf why (Some b) = (why ≡ bad.NoMemory) ⊎ (why ≡ bad_of_client b)
