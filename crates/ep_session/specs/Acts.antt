-- What messages ask of the pad, and what was called for them; and what stands before a receive.
use Rattle.std.specs.Prelude.{ℕ, ◌≡◌, ◌⊎◌, ◌*◌, ◌≤◌, List, [], ◌∷◌, ◌++◌, length, if◌then◌else◌, true, Result, Ok}
use Rattle.ep_units.specs.declared.session.Session.{Session}
use Rattle.ep_cs.specs.Change.{Change}
use Rattle.ep_pad_state.specs.declared.answers.Fetched.{Fetched}
use Rattle.ep_pad.specs.declared.entries.PadEntry.{PadEntry}
use Rattle.ep_pad.specs.declared.entries.PadEntry.TheVariants as entry
use Rattle.ep_pad.specs.declared.entries.PadReply.{PadReply}
use Rattle.ep_pad.specs.declared.entries.PadReply.TheVariants as reply
use Rattle.ep_wire_words.specs.declared.bad.WireBad.{WireBad}
use Rattle.ep_wire_words.specs.declared.client.ClientMsg.{ClientMsg}
use Rattle.ep_wire_words.specs.declared.client.ClientMsg.TheVariants.{Edit, Slide}
use Rattle.ep_session.specs.Session.{Did, Understood, Then, Runs, Duty, calls_of, is_step, counted}
use Rattle.ep_session.specs.declared.place.Place.{Place}

-- an edit on a base, or a piece of history from a revision on
pub data Act : Type 0 where
  Edits : ℕ → Change → Act
  Reads : ℕ → ℕ → Act

abbrev pub act_of : Result ClientMsg WireBad → List Act
act_of (Ok (Edit base change)) = Edits base change ∷ []
act_of (Ok (Slide start granularity request)) = if is_step granularity then Reads start (100 * granularity) ∷ [] else []
act_of r = []

abbrev pub act_by : Did → List Act
act_by (Understood text r) = act_of r
act_by d = []

-- what the messages that were read asked for
abbrev pub acts_asked : List Did → List Act
acts_asked [] = []
acts_asked (d ∷ log) = act_by d ++ acts_asked log

abbrev pub act_in : PadEntry × PadReply → List Act
act_in (entry.Accept me base change now, r) = Edits base change ∷ []
act_in (entry.History me start count, r) = Reads start count ∷ []
act_in c = []

-- what was called of that
abbrev pub acts_called : List (PadEntry × PadReply) → List Act
acts_called [] = []
acts_called (c ∷ calls) = act_in c ++ acts_called calls

-- each was called in order, but for one at most, the last
abbrev pub AreCalled : List Did → Type 0
AreCalled log = (rest : List Act) × (acts_asked log ≡ acts_called (calls_of log) ++ rest) × (length rest ≤ 1)

-- the last call is a fetch that reached the head, which is this revision
abbrev pub EndsFull : List (PadEntry × PadReply) → ℕ → Type 0
EndsFull calls rev = (before : List (PadEntry × PadReply)) × (me : Session) × (from : ℕ) × (nops : ℕ) × ((f : Fetched) × (calls ≡ before ++ (entry.Fetch me from nops, reply.Fetched (Ok f)) ∷ []) × (f.head ≡ counted from (length f.revs.items)) × (f.head ≡ rev))

-- what was done before a receive: no call of the pad yet, or all that was new is told, up to the cursor
abbrev pub IsReady : Place → List Duty → List Did → Type 0
IsReady at due log = (calls_of log ≡ []) ⊎ ((mid : Place) × (left : List Duty) × Runs at due log (Then mid left) × EndsFull (calls_of log) mid.rev)
