-- What a part of a writer promises.
use Rattle.std.specs.Prelude.{ℕ, ◌≡◌, ◌⊎◌, List, [], ◌∷◌, Option, Some, None, Result, Ok, Err}
use Rattle.ep_outside.specs.Outside.{HasRisen}
use Rattle.ep_link.specs.Traffic.{Adds, came}
use Rattle.ep_link.specs.declared.passed.LinkGot.{LinkGot}
use Rattle.ep_link.specs.declared.passed.LinkGot.TheVariants as got
use Rattle.ep_link.specs.declared.passed.Passed.{Passed}
use Rattle.ep_link.specs.declared.passed.Passed.TheVariants.{Sent}
use Rattle.ep_wire_words.specs.declared.client.ClientMsg.{ClientMsg}
use Rattle.ep_wire_words.specs.Server.{ReadsServer}
use Rattle.ep_wire_words.specs.declared.bad.WireBad.{WireBad}
use Rattle.ep_peer.specs.Bads.{bad_of_wire}
use Rattle.ep_peer.specs.Writer.{Did, Lined, Unlined, Over, Awaited, Listening, Outcome, Goes, Runs, stops, heard, understood, most_bytes, text_of_msg, traffic_of}
use Rattle.ep_peer.specs.declared.bad.PeerBad.{PeerBad}
use Rattle.ep_peer.specs.declared.bad.PeerBad.TheVariants as bad
use Rattle.ep_peer.specs.declared.hear.Received.{Received}
use Rattle.ep_peer.specs.declared.say.SayBad.{SayBad}
use Rattle.ep_peer.specs.declared.say.SayBad.TheVariants as unsaid

-- it ended so, or memory ran out there
abbrev pub EndsAs : Outcome → PeerBad → Type 0
EndsAs out e = (out ≡ stops e) ⊎ (e ≡ bad.NoMemory)

-- from there this was done, and it stands there; or it ended on the way
abbrev pub Performs : {X : Type 0} → Outcome → List Did → Result X PeerBad → (X → Outcome) → Type 0
Performs from log (Ok x) to = Runs from log (to x)
Performs from log (Err e) to = (out : Outcome) × Runs from log out × EndsAs out e

-- this comes of it, unless memory ran out
abbrev pub Comes : {X : Type 0} → Outcome → Result X PeerBad → (X → Outcome) → Type 0
Comes out (Ok x) to = out ≡ to x
Comes out (Err e) to = EndsAs out e

-- nothing was asked of the source
abbrev pub IsQuiet : List Did → Type 0
IsQuiet [] = Unit {0}
IsQuiet (Lined c ∷ log) = ⊥
IsQuiet (Unlined n ∷ log) = ⊥
IsQuiet (Over ∷ log) = ⊥
IsQuiet (d ∷ log) = IsQuiet log

-- a part on the link alone, by its traffic where it tells
pub record Done {X : Type 0} (sent0 sent1 : Option (List Passed)) (from : Outcome) (r : Result X PeerBad) (to : X → Outcome) : Type 0 where
  pub log : List Did
  pub traffic : Adds sent0 sent1 (traffic_of log)
  pub quiet : IsQuiet log
  pub performs : Performs from log r to

-- a message went out whole, or not at all
abbrev pub SendsAs : ClientMsg → Option (List Passed) → Option (List Passed) → Result (Unit {0}) SayBad → Type 0
SendsAs m before now (Ok u) = Adds before now (Sent (text_of_msg m) ∷ [])
SendsAs m before now (Err e) = Adds before now []

-- why a writer stops that can't say something
abbrev pub bad_of_say : SayBad → PeerBad
bad_of_say (unsaid.Fault n) = bad.LinkFault n
bad_of_say unsaid.NoMemory = bad.NoMemory

-- a send that failed is told with the link's count, which rose
abbrev pub IsUnsent : {X : Type 0} → Result X SayBad → ℕ → ℕ → Type 0
IsUnsent (Err (unsaid.Fault n)) before now = HasRisen before now × (n ≡ now)
IsUnsent r before now = Unit {0}

-- a fault of the link is told with its count, which rose; the source has none
abbrev pub IsLinkCaused : {X : Type 0} → Result X PeerBad → ℕ → ℕ → Type 0
IsLinkCaused (Err (bad.LinkFault n)) before now = HasRisen before now × (n ≡ now)
IsLinkCaused (Err (bad.SourceFault n)) before now = ⊥
IsLinkCaused r before now = Unit {0}

-- a fault of the source is told with its count, which rose; the link has none
abbrev pub IsSourceCaused : {X : Type 0} → Result X PeerBad → ℕ → ℕ → Type 0
IsSourceCaused (Err (bad.SourceFault n)) before now = HasRisen before now × (n ≡ now)
IsSourceCaused (Err (bad.LinkFault n)) before now = ⊥
IsSourceCaused r before now = Unit {0}

-- each fault is told with its count, which rose
abbrev pub IsCaused : {X : Type 0} → Result X PeerBad → ℕ → ℕ → ℕ → ℕ → Type 0
IsCaused (Err (bad.LinkFault n)) link0 link1 source0 source1 = HasRisen link0 link1 × (n ≡ link1)
IsCaused (Err (bad.SourceFault n)) link0 link1 source0 source1 = HasRisen source0 source1 × (n ≡ source1)
IsCaused r link0 link1 source0 source1 = Unit {0}

-- ---- receives

-- a text, read as a message, or refused
abbrev pub ReadAs : List ℕ → Result Received PeerBad → Type 0
ReadAs text (Ok r) = (r.text ≡ text) × ReadsServer text most_bytes (Ok r.msg)
ReadAs text (Err e) = (e ≡ bad.NoMemory) ⊎ ((why : WireBad) × ReadsServer text most_bytes (Err why) × (e ≡ bad_of_wire why))

-- a message, as far as one came
abbrev pub as_some : Result (Option Received) PeerBad → Result Received PeerBad → Type 0
as_some (Ok (Some r)) read = read ≡ Ok r
as_some (Ok None) read = ⊥
as_some (Err e) read = read ≡ Err e

-- what comes of a message that was read, or of none yet
abbrev pub read_to : Awaited → Received → Outcome
read_to w r = understood w r.text (Ok r.msg)

abbrev pub received_to : Awaited → Option Received → Outcome
received_to w None = Goes (Listening w)
received_to w (Some r) = read_to w r

abbrev pub outcome_of : Awaited → Result (Option Received) PeerBad → Outcome
outcome_of w (Ok o) = received_to w o
outcome_of w (Err e) = stops e

abbrev pub GotAs : LinkGot → ℕ → Result (Option Received) PeerBad → Type 0
GotAs (got.Message text) n r = (first : Result Received PeerBad) × as_some r first × ReadAs text first
GotAs g n r = (w : Awaited) → heard w g n ≡ outcome_of w r

-- this came
abbrev pub Receives : Option (List Passed) → Option (List Passed) → Result (Option Received) PeerBad → Type 0
Receives before now r = (g : LinkGot) × (n : ℕ) × Adds before now (came g) × GotAs g n r
