-- What a session sends, by the calls of its pass alone.
use Rattle.std.specs.Prelude.{ℕ, ◌≡◌, ◌⊎◌, List, [], ◌∷◌, ◌++◌, drop, length, zero, suc, Ok}
use Rattle.ep_history.specs.declared.rev.Rev.{Rev}
use Rattle.ep_pad.specs.declared.entries.PadEntry.{PadEntry}
use Rattle.ep_pad.specs.declared.entries.PadEntry.TheVariants as entry
use Rattle.ep_pad.specs.declared.entries.PadReply.{PadReply}
use Rattle.ep_pad.specs.declared.entries.PadReply.TheVariants as reply
use Rattle.ep_wire_words.specs.declared.server.ServerMsg.{ServerMsg}
use Rattle.ep_wire_words.specs.declared.server.ServerMsg.TheVariants as msg
use Rattle.ep_session.specs.Session.{Did, Said, Outcome, Then, Ends, nowhere, counted, due_at, vars, none_missed, welcome_place, rejoin_place, telling, told, nop_telling, nop_told}
use Rattle.ep_session.specs.declared.place.Place.{Place}

-- that so many edits have become nothing, and the place behind that
abbrev pub nop_tellings : Place → ℕ → List ServerMsg
nop_tellings at zero = []
nop_tellings at (suc n) = nop_telling at ∷ nop_tellings (nop_told at) n

abbrev pub nops_told : Place → ℕ → Place
nops_told at zero = at
nops_told at (suc n) = nops_told (nop_told at) n

-- revisions, told one after the other, each edit that has become nothing behind the revisions up to the head of then; and the place behind them
abbrev pub tellings : Place → List Rev → List ℕ → List ServerMsg
tellings at [] nops = nop_tellings at (length nops)
tellings at (r ∷ revs) nops =
    let n = due_at at.rev nops in
    let here = nops_told at n in
    nop_tellings at n ++ telling here r ∷ tellings (told here r) revs (drop n nops)

abbrev pub told_all : Place → List Rev → List ℕ → Place
told_all at [] nops = nops_told at (length nops)
told_all at (r ∷ revs) nops = let n = due_at at.rev nops in told_all (told (nops_told at n) r) revs (drop n nops)

-- what these calls send: a login the document, a resumption that missed nothing that it did, each fetch its revisions and Nops in order
abbrev pub output : Place → List (PadEntry × PadReply) → List ServerMsg
output at [] = []
output at ((entry.Login grant now, reply.Welcome (Ok w)) ∷ calls) = vars grant w ∷ output (welcome_place w) calls
output at ((entry.Resume grant rev birth author now, reply.CatchUp (Ok c)) ∷ calls) = none_missed rev c ++ output (rejoin_place rev c) calls
output at ((entry.Fetch me from nops, reply.Fetched (Ok f)) ∷ calls) = tellings at f.revs.items f.nops.items ++ output (told_all at f.revs.items f.nops.items) calls
output at ((entry.Accept me base change now, reply.Committed (Ok c)) ∷ calls) = output (record at { taken = counted at.taken 1 }) calls
output at (c ∷ calls) = output at calls

-- what was sent
abbrev pub said_by : Did → List ServerMsg
said_by (Said m) = m ∷ []
said_by d = []

abbrev pub said_of : List Did → List ServerMsg
said_of [] = []
said_of (d ∷ log) = said_by d ++ said_of log

-- without the steps of timesliders
abbrev pub plain : List ServerMsg → List ServerMsg
plain [] = []
plain (msg.Slid start reached granularity request forward backward ∷ ms) = plain ms
plain (m ∷ ms) = m ∷ plain ms

-- what was sent is a beginning of the output of the calls
abbrev pub IsOutput : List Did → List (PadEntry × PadReply) → Type 0
IsOutput log calls = (rest : List ServerMsg) × (output nowhere calls ≡ plain (said_of log) ++ rest)

abbrev pub place_at : Outcome → Place
place_at (Then at due) = at
place_at (Ends at e) = at

-- what was sent tells each revision behind a first one in order, up to a last one, and that an edit has become nothing with the number of the one that was told last
abbrev pub Counts : ℕ → List ServerMsg → ℕ → Type 0
Counts rev [] cursor = cursor ≡ rev
Counts rev (msg.Accepted number me ∷ ms) cursor = ((number ≡ rev) ⊎ (number ≡ counted rev 1)) × Counts number ms cursor
Counts rev (msg.News number change author session time delta ∷ ms) cursor = (number ≡ counted rev 1) × Counts number ms cursor
Counts rev (msg.Reconnect current birth head number change author session time ∷ ms) cursor = (number ≡ counted rev 1) × Counts number ms cursor
Counts rev (m ∷ ms) cursor = Counts rev ms cursor

-- the revisions behind the start are told in order, up to the cursor
abbrev pub IsCursor : List Did → Place → Type 0
IsCursor log at = Counts at.start (said_of log) at.rev
