-- Why a writer stops, by the refusals below.
use Rattle.std.specs.Prelude.{ℕ}
use Rattle.ep_client.specs.declared.bad.ClientBad.{ClientBad}
use Rattle.ep_client.specs.declared.bad.ClientBad.TheVariants as client
use Rattle.ep_invert.specs.declared.bad.SpliceBad.{SpliceBad}
use Rattle.ep_invert.specs.declared.bad.SpliceBad.TheVariants as splice
use Rattle.ep_wire_words.specs.declared.bad.WireBad.{WireBad}
use Rattle.ep_wire_words.specs.declared.bad.WireBad.TheVariants as wire
use Rattle.ep_script.specs.declared.line.LineBad.{LineBad}
use Rattle.ep_script.specs.declared.line.LineBad.TheVariants as line
use Rattle.ep_peer.specs.declared.bad.PeerBad.{PeerBad}
use Rattle.ep_peer.specs.declared.bad.PeerBad.TheVariants as bad
use Rattle.ep_peer.specs.declared.bad.Reason.TheVariants as reason

-- a message that isn't read
abbrev pub bad_of_wire : WireBad → PeerBad
bad_of_wire wire.NoMemory = bad.NoMemory
bad_of_wire b = bad.Wire b

-- a message that the client doesn't hear
abbrev pub bad_of_client : ClientBad → PeerBad
bad_of_client client.NoMemory = bad.NoMemory
bad_of_client b = bad.Heard b

-- a line that isn't one
abbrev pub bad_of_line : ℕ → LineBad → PeerBad
bad_of_line n line.Utf8 = bad.Script n reason.Utf8
bad_of_line n line.Syntax = bad.Script n reason.Syntax
bad_of_line n line.NoMemory = bad.NoMemory

-- a line whose edit doesn't fit the view
abbrev pub bad_of_splice : ℕ → SpliceBad → PeerBad
bad_of_splice n splice.Place = bad.Script n reason.Place
bad_of_splice n (splice.CutsPair at) = bad.Script n (reason.CutsPair at)
bad_of_splice n splice.NoMemory = bad.NoMemory
