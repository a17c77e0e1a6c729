-- What is written of how a writer ended.
use Rattle.std.specs.Prelude.{ℕ, ◌≡◌, List, [], ◌++◌, codes, Option, Result, Ok, Err}
use Rattle.std.specs.Fmt.{decimal}
use Rattle.ep_outside.specs.Outside.{Takes, TakesPart}
use Rattle.ep_print.specs.Texts.{quoted}
use Rattle.ep_peer.specs.declared.bad.PeerBad.{PeerBad}
use Rattle.ep_peer.specs.declared.bad.PeerBad.TheVariants as bad
use Rattle.ep_peer.specs.declared.bad.Reason.{Reason}
use Rattle.ep_peer.specs.declared.bad.Reason.TheVariants as reason
use Rattle.ep_peer.specs.declared.writer.Written.{Written}
use Rattle.ep_written.specs.declared.wrote.Wrote.{Wrote}
use Rattle.ep_written.specs.declared.wrote.Wrote.TheVariants as wrote

-- why a line isn't written, in a word
abbrev pub word_of : Reason → List ℕ
word_of reason.Utf8 = codes "utf8"
word_of reason.Syntax = codes "syntax"
word_of reason.Long = codes "long"
word_of reason.Place = codes "place"
word_of (reason.CutsPair at) = codes "place"

-- the pad at the end: its last revision, and its text in quotes
abbrev pub rev_line : Written → List ℕ
rev_line w = codes "rev " ++ (decimal w.rev ++ (codes " " ++ (quoted w.text ++ codes "\n")))

-- the first line that isn't written, counted from 1
abbrev pub error_line : ℕ → Reason → List ℕ
error_line k why = codes "error line " ++ (decimal k ++ (codes " " ++ (word_of why ++ codes "\n")))

abbrev pub refused_line : List ℕ → List ℕ
refused_line why = codes "refused " ++ (why ++ codes "\n")

-- the line of each end: a server's closing as it sent it; of a fault, of a link that was closed and of want of memory nothing
abbrev pub line_of : Result Written PeerBad → List ℕ
line_of (Ok w) = rev_line w
line_of (Err (bad.Script k why)) = error_line k why
line_of (Err (bad.Refused text)) = refused_line text
line_of (Err (bad.Wire why)) = refused_line (codes "message")
line_of (Err (bad.Heard why)) = refused_line (codes "message")
line_of (Err bad.Turn) = refused_line (codes "message")
line_of (Err (bad.SourceFault n)) = []
line_of (Err (bad.LinkFault n)) = []
line_of (Err bad.LinkClosed) = []
line_of (Err bad.NoMemory) = []

-- what each end is called
abbrev pub wrote_of : Result Written PeerBad → Wrote
wrote_of (Ok w) = wrote.All
wrote_of (Err (bad.Script k why)) = wrote.BadLine
wrote_of (Err (bad.Refused text)) = wrote.Refused
wrote_of (Err (bad.Wire why)) = wrote.Refused
wrote_of (Err (bad.Heard why)) = wrote.Refused
wrote_of (Err bad.Turn) = wrote.Refused
wrote_of (Err (bad.SourceFault n)) = wrote.SourceFault
wrote_of (Err (bad.LinkFault n)) = wrote.LinkFault
wrote_of (Err bad.LinkClosed) = wrote.LinkClosed
wrote_of (Err bad.NoMemory) = wrote.NoMemory

-- The line of this end was written; or the sink failed, and a beginning of it was; or memory ran out, and nothing was
pub data Tells (held now : Option (List ℕ)) (ended : Result Written PeerBad) (end : Wrote) : Type 0 where
  Whole : Takes held now (line_of ended) → end ≡ wrote_of ended → Tells held now ended end
  Part : TakesPart held now (line_of ended) → end ≡ wrote.SinkFault → Tells held now ended end
  Nothing : now ≡ held → end ≡ wrote.NoMemory → Tells held now ended end
