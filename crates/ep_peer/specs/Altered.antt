-- What the lines of a writer alter of what its client sees, line by line.
use Rattle.std.specs.Prelude.{ℕ, ◌≡◌, ◌⊎◌, ◌==◌, Bool, List, [], ◌∷◌, ◌++◌, length, if◌then◌else◌, Option, Some, None, Result, Ok}
use Rattle.ep_cs.specs.Change.{stamped}
use Rattle.ep_cs.specs.Doc.{text_of}
use Rattle.ep_cs.specs.Edit.{Edit, identity}
use Rattle.ep_cs.specs.Fits.{is_identity}
use Rattle.ep_history.specs.Kept.{KeptClient}
use Rattle.ep_event.specs.declared.event.Local.{Local}
use Rattle.ep_event.specs.declared.event.Local.TheVariants as local
use Rattle.ep_invert.specs.declared.bad.SpliceBad.{SpliceBad}
use Rattle.ep_local.specs.Local.{local_bad, local_edit}
use Rattle.ep_script.specs.WriteLine.{write_line_of}
use Rattle.ep_script.specs.declared.line.LineBad.{LineBad}
use Rattle.ep_script.specs.declared.write_line.WriteLine.{WriteLine}
use Rattle.ep_script.specs.declared.write_line.WriteLine.TheVariants as line
use Rattle.ep_wire_words.specs.declared.client.ClientMsg.{ClientMsg}
use Rattle.ep_wire_words.specs.declared.client.ClientMsg.TheVariants as msgs
use Rattle.ep_peer.specs.Cuts.{Cut, Line, Long}
use Rattle.ep_peer.specs.Output.{client_after, client_by}
use Rattle.ep_peer.specs.Writer.{Did, Said, Unsaid, Lined, Unlined, Over}

-- it inserts no unit, or deletes or formats none
abbrev pub says_nothing : Local → Bool
says_nothing (local.Insert at text) = length text == 0
says_nothing (local.Delete at units) = units == 0
says_nothing (local.Format at units key value) = units == 0

-- an edit of what the client sees, as a change of the client's revision, where it alters something
abbrev pub altering : KeptClient → Edit → List ClientMsg
altering k edit = if is_identity edit then [] else msgs.Edit k.rev (stamped edit (text_of k.view)) ∷ []

-- what a line says is to alter what the client sees, where it is an edit of that
abbrev pub altered_unless : KeptClient → Local → Option SpliceBad → List ClientMsg
altered_unless k e None = altering k (local_edit e k.view)
altered_unless k e (Some why) = []

abbrev pub altered_as : KeptClient → Result WriteLine LineBad → List ClientMsg
altered_as k (Ok (line.Edit e)) = altered_unless k e (local_bad e k.view)
altered_as k r = []

abbrev pub altered_line : KeptClient → Cut → List ClientMsg
altered_line k (Line bytes) = altered_as k (write_line_of bytes)
altered_line k Long = []

-- what one thing that was done is to alter, by the client before it
abbrev pub altered_by : Option KeptClient → Did → List ClientMsg
altered_by (Some k) (Lined c) = altered_line k c
altered_by c d = []

-- what all lines are to alter, in order
abbrev pub alterations : Option KeptClient → List Did → List ClientMsg
alterations c [] = []
alterations c (d ∷ log) = altered_by c d ++ alterations (client_by c d) log

-- the source was asked for the next line
abbrev pub IsAsked : Did → Type 0
IsAsked (Lined c) = Unit {0}
IsAsked (Unlined n) = Unit {0}
IsAsked Over = Unit {0}
IsAsked d = ⊥

-- where something is to be sent that is done: it is sent, or its send fails; where nothing is, the source is asked for the next line
abbrev pub IsNextOf : List ClientMsg → Did → Type 0
IsNextOf [] did = IsAsked did
IsNextOf (m ∷ ms) did = (did ≡ Said m) ⊎ ((faults : ℕ) × (did ≡ Unsaid faults))

-- it sees the document of its revision as that is: nothing that it submitted is on the way, and it has no other change of its own
abbrev pub HasNothingOfItsOwn : KeptClient → Type 0
HasNothingOfItsOwn k = (k.view ≡ k.doc) × (k.sent_in ≡ None) × (k.local ≡ identity (length k.doc))

-- a client is there that has nothing of its own
abbrev pub IsIdleAfter : List Did → Type 0
IsIdleAfter log = (k : KeptClient) × (client_after None log ≡ Some k) × HasNothingOfItsOwn k
