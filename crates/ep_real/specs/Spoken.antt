-- What of the outside a line of words speaks of.
use Rattle.std.specs.Prelude.{◌≡◌, true, false, [], List, Option, Some, None}
use Rattle.ep_words.specs.Lines.{Line}
use Rattle.ep_words.specs.Lines as line
use Rattle.ep_real.specs.declared.spoken.Spoken.{Spoken}

-- no server is asked for
abbrev pub ServesNothing : Spoken → Type 0
ServesNothing s = (s.serves ≡ false) × (s.pads.now ≡ []) × (s.api.now ≡ []) × (s.folder.now ≡ []) × (s.key.now ≡ [])

-- neither a server to call at nor a folder to judge
abbrev pub NeitherCallsNorJudges : Spoken → Type 0
NeitherCallsNorJudges s = (s.server.now ≡ []) × (s.judged.now ≡ [])

-- each command speaks of its own words, and of nothing else; a script and a schedule speak of nothing
abbrev pub SpeaksBy : Option Line → Spoken → Type 0
SpeaksBy (Some (line.serve pads api dir key)) s =
    (s.serves ≡ true) × (s.pads.now ≡ pads) × (s.api.now ≡ api) × (s.folder.now ≡ dir) × (s.key.now ≡ key) × NeitherCallsNorJudges s
SpeaksBy (Some (line.write addr pad token)) s = ServesNothing s × (s.server.now ≡ addr) × (s.judged.now ≡ [])
SpeaksBy (Some (line.verify dir workers)) s = ServesNothing s × (s.server.now ≡ []) × (s.judged.now ≡ dir)
SpeaksBy (Some (line.play id)) s = ServesNothing s × NeitherCallsNorJudges s
SpeaksBy (Some (line.make number clients edits)) s = ServesNothing s × NeitherCallsNorJudges s
SpeaksBy None s = ServesNothing s × NeitherCallsNorJudges s
