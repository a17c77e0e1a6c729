-- What a session was.
use Rattle.std.specs.Prelude.{ℕ, ◌≡◌, ◌&&◌, Bool, true, false, List, [], ◌∷◌, ◌++◌, Option, Some, None, Result, Ok, Err, if◌then◌else◌}
use Rattle.ep_units.specs.declared.session.Session.{Session}
use Rattle.ep_history.specs.declared.pad_bad.PadBad.{PadBad}
use Rattle.ep_dir_records.specs.declared.ids.Drawn.{Drawn}
use Rattle.ep_groups.specs.declared.entries.DirEntry.{DirEntry}
use Rattle.ep_groups.specs.declared.entries.DirReply.{DirReply}
use Rattle.ep_pad.specs.declared.wanted.Wanted.{Wanted}
use Rattle.ep_pad.specs.Halls.{Answer}
use Rattle.ep_pad.specs.declared.entries.PadEntry.{PadEntry}
use Rattle.ep_pad.specs.declared.entries.PadEntry.TheVariants as entry
use Rattle.ep_pad.specs.declared.entries.PadReply.{PadReply}
use Rattle.ep_pad.specs.declared.entries.PadReply.TheVariants as reply
use Rattle.ep_wire_words.specs.declared.server.ServerMsg.TheVariants as msg
use Rattle.ep_wire_words.specs.declared.server.Word.{Word}
use Rattle.ep_link.specs.Traffic.{Adds}
use Rattle.ep_link.specs.declared.passed.Passed.{Passed}
use Rattle.ep_session.specs.Ends.{closing_of, leaves}
use Rattle.ep_session.specs.Session.{Greet, nowhere}
use Rattle.ep_session.specs.Says.{SendsAs, Came}
use Rattle.ep_session.specs.declared.end.End.{End}
use Rattle.ep_session.specs.declared.place.Place.{Place}

-- the end at last: where the closing could not be sent, that is the end
abbrev pub last_of : End → Result (Unit {0}) End → End
last_of reason (Ok u) = reason
last_of reason (Err fault) = fault

abbrev pub ClosesBy : Option Word → Option (List Passed) → Option (List Passed) → Result (Unit {0}) End → Type 0
ClosesBy None sent0 sent1 r = Adds sent0 sent1 [] × (r ≡ Ok tt)
ClosesBy (Some word) sent0 sent1 r = SendsAs (msg.Closing word) sent0 sent1 r

-- the closing of what the session came to is sent, where it has one
abbrev pub Closes : End → Option (List Passed) → Option (List Passed) → Result (Unit {0}) End → Type 0
Closes reason sent0 sent1 r = ClosesBy (closing_of reason) sent0 sent1 r

abbrev pub LeavesBy : Bool → Place → List (PadEntry × PadReply) → List (PadEntry × PadReply) → Type 0
LeavesBy true at made all = (r : Result (Unit {0}) PadBad) × (all ≡ made ++ (entry.Leave at.me, reply.Done r) ∷ [])
LeavesBy false at made all = all ≡ made

-- a session that was answered, and is still there as far as it was told, is left
abbrev pub Leaves : Place → End → End → List (PadEntry × PadReply) → List (PadEntry × PadReply) → Type 0
Leaves at reason end made all = LeavesBy (at.inside && leaves reason end) at made all

-- the session that was answered, or none
abbrev pub session_of : Place → Option Session
session_of at = if at.inside then Some at.me else None

-- a whole session: how it came to what it came to, its closing, and its leaving
pub record Served (shows : ℕ → Type 0) (sent0 sent1 : Option (List Passed)) (drawn : Drawn) (desk : List (DirEntry × DirReply)) (hall : List (Wanted × Answer)) (made : List (PadEntry × PadReply)) (session : Option Session) (start cursor taken : ℕ) (end : End) : Type 0 where
  pub at : Place
  pub reason : End
  pub sent : Option (List Passed)
  pub before : List (PadEntry × PadReply)
  pub closed : Result (Unit {0}) End
  pub came : Came shows sent0 sent desk hall before nowhere at (Greet drawn ∷ []) reason
  pub closes : Closes reason sent sent1 closed
  pub end_is : end ≡ last_of reason closed
  pub leaves : Leaves at reason end before made
  pub session_is : session ≡ session_of at
  pub start_is : start ≡ at.start
  pub cursor_is : cursor ≡ at.rev
  pub taken_is : taken ≡ at.taken
