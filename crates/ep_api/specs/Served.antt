-- A request that was served.
use Rattle.std.specs.Prelude.{ℕ, ◌≡◌, List, [], Option, None, Result, Ok, Err, map, string_bytes}
use Rattle.atomic_table.specs.Seated.{TableId}
use Rattle.ep_units.specs.Text.{Text}
use Rattle.ep_outside.specs.declared.keeper.Pair.{Pair}
use Rattle.ep_cell.specs.Passes.{Known}
use Rattle.ep_groups.specs.declared.entries.DirEntry.{DirEntry}
use Rattle.ep_groups.specs.declared.entries.DirReply.{DirReply}
use Rattle.ep_pad.specs.declared.entries.PadEntry.{PadEntry}
use Rattle.ep_pad.specs.declared.entries.PadReply.{PadReply}
use Rattle.ep_pad.specs.declared.wanted.Wanted.{Wanted}
use Rattle.ep_pad.specs.Halls.{Answer}
use Rattle.ep_ask.specs.Parameters.{Read}
use Rattle.ep_ask.specs.Requests.{call_in}
use Rattle.ep_ask.specs.Replies.{body, status}
use Rattle.ep_ask.specs.declared.bad.ApiBad.{ApiBad}
use Rattle.ep_ask.specs.declared.call.Call.{Call}
use Rattle.ep_ask.specs.declared.answer.Data.{Data}
use Rattle.ep_ask.specs.declared.reply.Reply.{Reply}
use Rattle.ep_api.specs.declared.answering.Answered.{Answered}
use Rattle.ep_api.specs.Tasks.{Task, refuse}
use Rattle.ep_api.specs.Functions.{task_of}
use Rattle.ep_api.specs.Passes.{Does, Seen, own_of, seen, stay_of}

-- what a request does: a refusal is told at once
abbrev pub request_task : ℕ → Read Call → Task Data
request_task now (Ok call) = task_of now call
request_task now (Err why) = refuse why

-- the reply tells this
pub record Tells (outcome : Result Data ApiBad) (r : Reply) : Type 0 where
  pub status : r.status ≡ status outcome
  pub body : string_bytes r.body ≡ body outcome

-- no pass was taken
pub record IsBare {Hall Desk Pass : Type 0} (a : Answered Hall Desk Pass) : Type 0 where
  pub hall : a.hall ≡ None
  pub desk : a.desk ≡ None
  pub pads : a.pads.items ≡ []

module _ {Hall Desk Pass : Type 0} (hall_known : Hall → Known Wanted Answer) (desk_known : Desk → Known DirEntry DirReply)
    (known : Pass → Known PadEntry PadReply) (name_of : Pass → Text) (cell_of : Pass → TableId) where
  -- what is seen of the passes that are handed back
  abbrev pub seen_of : Answered Hall Desk Pass → Option (List ℕ) → Seen
  seen_of a to_come = seen (own_of desk_known a.desk) (own_of hall_known a.hall) (map (stay_of known name_of cell_of) a.pads.items) to_come

  -- What the request asks for was done by the passes that are handed back, and the reply tells what came of it
  pub record Serves (path : List ℕ) (pairs : List Pair) (key : List ℕ) (now : ℕ) (old new : Option (List ℕ)) (a : Answered Hall Desk Pass) : Type 0 where
    pub outcome : Result Data ApiBad
    pub does : Does (seen [] [] [] old) (request_task now (call_in path pairs key)) outcome (seen_of a new)
    pub tells : Tells outcome a.reply
