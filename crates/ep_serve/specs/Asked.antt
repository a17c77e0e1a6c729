-- What comes of a caller of the API.
use Rattle.std.specs.Prelude.{ℕ, ◌≡◌, List, Option, Some, None, IfSome, All, Result, Ok, Err, string_bytes}
use Rattle.atomic_table.specs.Seated.{TableId}
use Rattle.ep_units.specs.Text.{Text}
use Rattle.ep_outside.specs.Outside.{HasRisen, Takes, TakesPart}
use Rattle.ep_cell.specs.Passes.{Known}
use Rattle.ep_groups.specs.declared.entries.DirEntry.{DirEntry}
use Rattle.ep_groups.specs.declared.entries.DirReply.{DirReply}
use Rattle.ep_pad.specs.declared.entries.PadEntry.{PadEntry}
use Rattle.ep_pad.specs.declared.entries.PadReply.{PadReply}
use Rattle.ep_pad.specs.declared.wanted.Wanted.{Wanted}
use Rattle.ep_pad.specs.Halls.{Answer}
use Rattle.ep_http.specs.Replies.{refusal, reply, status_of}
use Rattle.ep_http.specs.Requests.{Makes, Refuses}
use Rattle.ep_http.specs.declared.bad.HttpBad.{HttpBad}
use Rattle.ep_http.specs.declared.request.Request.{Request}
use Rattle.ep_ask.specs.declared.reply.Reply.{Reply}
use Rattle.ep_api.specs.Served.{Serves}
use Rattle.ep_api.specs.declared.answering.Answered.{Answered}
use Rattle.ep_serve.specs.declared.asked.Came.{Came}
use Rattle.ep_serve.specs.declared.asked.Due.{Due}
use Rattle.ep_serve.specs.declared.asked.Due.TheVariants as due
use Rattle.ep_serve.specs.declared.asked.Unanswered.{Unanswered}
use Rattle.ep_serve.specs.declared.asked.Unanswered.TheVariants as bad

-- the most bytes of a request's body
abbrev pub most_body : ℕ
most_body = 4194304

-- the reply refuses a request
abbrev pub IsRefusal : HttpBad → Reply → Type 0
IsRefusal why r = (status_of why ≡ Some r.status) × (string_bytes r.body ≡ refusal r.status)

-- nothing is due: the caller is gone, or memory ran out
abbrev pub IsUndue : Result Request HttpBad → Unanswered → Type 0
IsUndue read (bad.Request why) = (read ≡ Err why) × (status_of why ≡ None)
IsUndue read bad.Reply = ⊥
IsUndue read bad.NoMemory = Unit {0}

abbrev pub bytes_of : Reply → List ℕ
bytes_of r = reply r.status (string_bytes r.body)

-- what was read of a caller
abbrev pub Reads : {A : Type 0} → (A → Option (List ℕ)) → (A → ℕ) → A → A → Result Request HttpBad → Type 0
Reads left failures caller mid (Ok request) = Makes (left caller) (left mid) most_body request
Reads left failures caller mid (Err why) = Refuses (left caller) (left mid) (failures caller) (failures mid) most_body why

-- the reply that is due
abbrev pub reply_in : {Hall Desk Pass : Type 0} → Due Hall Desk Pass → Reply
reply_in (due.Done answered) = answered.reply
reply_in (due.Refused r) = r

-- a reply went out whole; or a beginning of it, and the count of faults rose; or memory ran out, and nothing went out
abbrev pub Writes : {A : Type 0} → (A → Option (List ℕ)) → (A → ℕ) → A → A → Reply → Result (Unit {0}) Unanswered → Type 0
Writes held failures mid end r (Ok u) = Takes (held mid) (held end) (bytes_of r)
Writes held failures mid end r (Err bad.Reply) = TakesPart (held mid) (held end) (bytes_of r) × HasRisen (failures mid) (failures end)
Writes held failures mid end r (Err bad.NoMemory) = end ≡ mid
Writes held failures mid end r (Err why) = ⊥

module _ {Hall Desk Pass : Type 0} (hall_known : Hall → Known Wanted Answer) (desk_known : Desk → Known DirEntry DirReply)
    (known : Pass → Known PadEntry PadReply) (name_of : Pass → Text) (cell_of : Pass → TableId)
    (is_hall : Hall → Type 0) (is_desk : Desk → Type 0) (is_pass : Pass → Type 0)
    (may_show : ℕ → Type 0) (key : List ℕ) (old new : Option (List ℕ)) where
  -- what came of a request, by the calls that its passes of these ports show, at a moment that the clock may show
  pub record Tells (request : Request) (answered : Answered Hall Desk Pass) : Type 0 where
    pub now : ℕ
    pub shown : may_show now
    pub serves : Serves hall_known desk_known known name_of cell_of request.path request.pairs key now old new answered
    pub hall : IfSome answered.hall is_hall
    pub desk : IfSome answered.desk is_desk
    pub pads : All is_pass answered.pads.items

  -- what is due to what was read: what came of the request, or the reply that refuses it
  abbrev pub IsDue : Result Request HttpBad → Due Hall Desk Pass → Type 0
  IsDue (Ok request) (due.Done answered) = Tells request answered
  IsDue (Err why) (due.Refused r) = IsRefusal why r
  IsDue read d = ⊥

  module _ {A : Type 0} (left held : A → Option (List ℕ)) (failures : A → ℕ) where
    -- what was due was written; or nothing is due, and nothing went out
    abbrev pub Replies : A → A → Result Request HttpBad → Result (Came Hall Desk Pass) Unanswered → Type 0
    Replies mid end read (Ok came) = IsDue read came.due × Writes held failures mid end (reply_in came.due) came.told
    Replies mid end read (Err why) = IsUndue read why × (end ≡ mid)

    -- a request was read of the caller, and then its reply was written
    pub record Answers (caller end : A) (result : Result (Came Hall Desk Pass) Unanswered) : Type 0 where
      pub mid : A
      pub read : Result Request HttpBad
      pub reads : Reads left failures caller mid read
      pub replies : Replies mid end read result
