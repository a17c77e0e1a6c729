-- What a part of a session promises.
use Rattle.std.specs.Prelude.{ℕ, ◌≡◌, ◌⊎◌, ◌≤◌, List, [], ◌∷◌, ◌++◌, Option, Some, None, Result, Ok, Err}
use Rattle.std.specs.List.{AllByRecursion}
use Rattle.ep_outside.specs.Outside.{HasRisen}
use Rattle.ep_cell.specs.Passes.{Known}
use Rattle.ep_history.specs.declared.pad_bad.PadBad.TheVariants as bad
use Rattle.ep_dir_records.specs.declared.ids.Drawn.{Drawn}
use Rattle.ep_groups.specs.declared.entries.DirEntry.{DirEntry}
use Rattle.ep_groups.specs.declared.entries.DirReply.{DirReply}
use Rattle.ep_pad.specs.declared.wanted.Wanted.{Wanted}
use Rattle.ep_pad.specs.Halls.{Answer}
use Rattle.ep_pad.specs.declared.entries.PadEntry.{PadEntry}
use Rattle.ep_pad.specs.declared.entries.PadReply.{PadReply}
use Rattle.ep_wire_words.specs.Client.{ReadsClient}
use Rattle.ep_wire_words.specs.declared.bad.WireBad.{WireBad}
use Rattle.ep_wire_words.specs.declared.client.ClientMsg.{ClientMsg}
use Rattle.ep_wire_words.specs.declared.server.ServerMsg.{ServerMsg}
use Rattle.ep_link.specs.Traffic.{Adds, came}
use Rattle.ep_link.specs.declared.passed.LinkGot.{LinkGot}
use Rattle.ep_link.specs.declared.passed.LinkGot.TheVariants as got
use Rattle.ep_link.specs.declared.passed.Passed.{Passed}
use Rattle.ep_link.specs.declared.passed.Passed.TheVariants.{Sent}
use Rattle.ep_session.specs.Passing.{Goes}
use Rattle.ep_session.specs.Session.{Did, Granted, Entered, Duty, Hear, Fetch, Take, Look, Outcome, Then, Ends, Runs, heard, asked, begun, greeted, Ask, Greet, text_of, most_bytes, traffic_of, calls_of, desk_of, hall_of, moments_of}
use Rattle.ep_session.specs.declared.end.End.{End}
use Rattle.ep_session.specs.declared.end.End.TheVariants as ends
use Rattle.ep_session.specs.declared.hear.Asked.{Asked}
use Rattle.ep_session.specs.declared.hear.Asked.TheVariants as asked_for
use Rattle.ep_session.specs.declared.place.Place.{Place}
use Rattle.ep_session.specs.declared.ready.Ready.{Ready}

-- memory may run out there: no end had come, or that of a piece of history whose changes don't fit, which no legal history has
abbrev pub MayLack : Outcome → Place → Type 0
MayLack (Then to due) at = to ≡ at
MayLack (Ends to (ends.Broken (bad.Fit why))) at = to ≡ at
MayLack (Ends to e) at = ⊥

-- it ended so, or memory ran out there
abbrev pub EndsAs : Outcome → Place → End → Type 0
EndsAs out at e = (out ≡ Ends at e) ⊎ (MayLack out at × (e ≡ ends.NoMemory))

-- these duties were done, and those are left; or the session ended among them. What else is due stays.
abbrev pub Performs : {X : Type 0} → Place → List Duty → List Did → Result X End → Place → (X → List Duty) → Type 0
Performs old due log (Ok x) new left = (others : List Duty) → Runs old (due ++ others) log (Then new (left x ++ others))
Performs old due log (Err e) new left = (others : List Duty) → (out : Outcome) × Runs old (due ++ others) log out × EndsAs out new e

-- the directory and the registry were not asked
abbrev pub IsInside : List Did → Type 0
IsInside [] = Unit {0}
IsInside (Granted now e r ∷ log) = ⊥
IsInside (Entered pad r ∷ log) = ⊥
IsInside (d ∷ log) = IsInside log

-- a part of a session on the link alone: what it did, which calls nothing
pub record OnLink {X : Type 0} (sent0 sent1 : Option (List Passed)) (old new : Place) (due : List Duty) (r : Result X End) (left : X → List Duty) : Type 0 where
  pub log : List Did
  pub traffic : Adds sent0 sent1 (traffic_of log)
  pub calls : calls_of log ≡ []
  pub moments : moments_of log ≡ []
  pub inside : IsInside log
  pub performs : Performs old due log r new left

-- a part of a session: what it did, by the link's traffic where it tells, by the calls of the pass, and by moments that were shown
pub record Done {X : Type 0} (shows : ℕ → Type 0) (sent0 sent1 : Option (List Passed)) (pass0 pass1 : Known PadEntry PadReply) (old new : Place) (due : List Duty) (r : Result X End) (left : X → List Duty) : Type 0 where
  pub log : List Did
  pub traffic : Adds sent0 sent1 (traffic_of log)
  pub calls : Goes pass0 pass1 (calls_of log)
  pub moments : AllByRecursion shows (moments_of log)
  pub inside : IsInside log
  pub performs : Performs old due log r new left

-- where no clock is asked
abbrev pub no_moment : ℕ → Type 0
no_moment n = ⊥

-- the message went out whole, or not at all
abbrev pub SendsAs : ServerMsg → Option (List Passed) → Option (List Passed) → Result (Unit {0}) End → Type 0
SendsAs m before now (Ok u) = Adds before now (Sent (text_of m) ∷ [])
SendsAs m before now (Err (ends.LinkFault n)) = Adds before now []
SendsAs m before now (Err ends.NoMemory) = Adds before now []
SendsAs m before now (Err e) = ⊥

-- what a message asks for
abbrev pub due_of : Asked → List Duty
due_of asked_for.Nothing = []
due_of (asked_for.Edit base change) = Take base change ∷ []
due_of (asked_for.Slide start granularity request) = Look start granularity request ∷ []

-- the steps of a timeslider are of 1 to 100 revisions
abbrev pub IsAllowed : Asked → Type 0
IsAllowed asked_for.Nothing = Unit {0}
IsAllowed (asked_for.Edit base change) = Unit {0}
IsAllowed (asked_for.Slide start granularity request) = (1 ≤ granularity) × (granularity ≤ 100)

-- what is due behind a receive
abbrev pub outcome_of : Result Asked End → Place → Outcome
outcome_of (Ok a) at = Then at (due_of a ++ Fetch ∷ Hear ∷ [])
outcome_of (Err e) at = Ends at e

-- a message says one thing, which asks for that, unless memory ran out
abbrev pub AskedBy : List ℕ → Result Asked End → Type 0
AskedBy text r = (r ≡ Err ends.NoMemory) ⊎ ((m : Result ClientMsg WireBad) × ReadsClient text most_bytes m × ((at : Place) → asked at m ≡ outcome_of r at))

abbrev pub GotAs : LinkGot → ℕ → Result Asked End → Type 0
GotAs (got.Message text) n r = AskedBy text r
GotAs g n r = (at : Place) → heard at g n ≡ outcome_of r at

-- this came, and asks for that
abbrev pub Hears : Option (List Passed) → Option (List Passed) → Result Asked End → Type 0
Hears before now r = (g : LinkGot) × (n : ℕ) × Adds before now (came g) × GotAs g n r

-- what is due behind a first message
abbrev pub first_of : Result Ready End → Place → Drawn → Outcome
first_of (Ok ready) at drawn = Then at (Ask drawn ready ∷ [])
first_of (Err e) at drawn = Ends at e

-- what a first message asks for, unless memory ran out
abbrev pub BegunAs : List ℕ → Result Ready End → Type 0
BegunAs text r = (r ≡ Err ends.NoMemory) ⊎ ((m : Result ClientMsg WireBad) × ReadsClient text most_bytes m × ((at : Place) (drawn : Drawn) → begun at drawn m ≡ first_of r at drawn))

abbrev pub greeting_due : Drawn → Option Ready → List Duty
greeting_due drawn None = Greet drawn ∷ []
greeting_due drawn (Some ready) = Ask drawn ready ∷ []

abbrev pub greeting_of : Result (Option Ready) End → Place → Drawn → Outcome
greeting_of (Ok o) at drawn = Then at (greeting_due drawn o)
greeting_of (Err e) at drawn = Ends at e

-- a first message, as far as one came
abbrev pub as_first : Result (Option Ready) End → Result Ready End → Type 0
as_first (Ok (Some ready)) r = r ≡ Ok ready
as_first (Ok None) r = ⊥
as_first (Err e) r = r ≡ Err e

abbrev pub GreetedAs : LinkGot → ℕ → Result (Option Ready) End → Type 0
GreetedAs (got.Message text) n r = (first : Result Ready End) × as_first r first × BegunAs text first
GreetedAs g n r = (at : Place) (drawn : Drawn) → greeted at drawn g n ≡ greeting_of r at drawn

-- this came first, or nothing yet
abbrev pub Greets : Option (List Passed) → Option (List Passed) → Result (Option Ready) End → Type 0
Greets before now r = (g : LinkGot) × (n : ℕ) × Adds before now (came g) × GreetedAs g n r

-- a fault of the link is told with its count, which rose
abbrev pub IsCaused : {X : Type 0} → Result X End → ℕ → ℕ → Type 0
IsCaused (Err (ends.LinkFault n)) before now = HasRisen before now × (n ≡ now)
IsCaused r before now = Unit {0}

-- the session ended so
abbrev pub Ended : (ℕ → Type 0) → Option (List Passed) → Option (List Passed) → Known PadEntry PadReply → Known PadEntry PadReply → Place → Place → List Duty → End → Type 0
Ended shows sent0 sent1 pass0 pass1 old new due e = Done {X = Unit {0}} shows sent0 sent1 pass0 pass1 old new due (Err e) (λ _. [])

abbrev pub IsFault : End → ℕ → ℕ → Type 0
IsFault e before now = IsCaused {X = Unit {0}} (Err e) before now

-- how a session came to its end: what it did from these duties on, by the link's traffic where it tells, by all calls of its passes, and by moments that were shown
pub record Came (shows : ℕ → Type 0) (sent0 sent1 : Option (List Passed)) (desk : List (DirEntry × DirReply)) (hall : List (Wanted × Answer)) (made : List (PadEntry × PadReply)) (old new : Place) (due : List Duty) (e : End) : Type 0 where
  pub log : List Did
  pub traffic : Adds sent0 sent1 (traffic_of log)
  pub desk_calls : desk ≡ desk_of log
  pub hall_calls : hall ≡ hall_of log
  pub calls : made ≡ calls_of log
  pub moments : AllByRecursion shows (moments_of log)
  pub out : Outcome
  pub runs : Runs old due log out
  pub ends : EndsAs out new e
