-- What a pad answers, and why it refuses to.
use Rattle.std.specs.Prelude.{ℕ, suc, ◌+◌, Bool, true, false, nat_lt, nat_le, if◌then◌else◌, List, [], ◌∷◌, map, length, take, drop, Option, Some, None}
use Rattle.std.specs.List.{take_while}
use Rattle.ep_units.specs.Text.{Text}
use Rattle.ep_units.specs.declared.session.Session.{Session}
use Rattle.ep_units.specs.declared.grant.Grant.{Grant}
use Rattle.ep_cs.specs.Doc.{Doc, text_of}
use Rattle.ep_cs.specs.Edit.{Edit, apply}
use Rattle.ep_cs.specs.Change.{Change, stamped}
use Rattle.ep_cs.specs.Fits.{is_identity}
use Rattle.ep_history.specs.Lists.{or_else}
use Rattle.ep_history.specs.History.{Birth, nops_of, head, doc_at, head_doc, lacks_newline}
use Rattle.ep_history.specs.Pad.{PadState, newest, seat_of, next_session, live_count}
use Rattle.ep_history.specs.Refusals.{first_fault, fault_if}
use Rattle.ep_history.specs.Server.{gone_fault}
use Rattle.ep_history.specs.declared.rev.Rev.{Rev}
use Rattle.ep_history.specs.declared.seat.Seat.{Seat}
use Rattle.ep_history.specs.declared.seat.Why.{Why}
use Rattle.ep_history.specs.declared.seat.Why.TheVariants.{Reopened}
use Rattle.ep_history.specs.declared.pad_bad.PadBad.{PadBad}
use Rattle.ep_history.specs.declared.pad_bad.PadBad.TheVariants.{Dead, BadRev, NoRev}

-- ---- who may read as a session

-- why a session isn't live, if it isn't; one that this opening did not make is of an older one
abbrev pub end_of : ℕ → Option Seat → Option Why
end_of epoch None = Some (Reopened epoch)
end_of epoch (Some l) = l.end

-- a session that ended is refused by why it did
abbrev pub dead_if : Option Why → Option PadBad
dead_if None = None
dead_if (Some why) = Some (Dead why)

-- refused where the session isn't live
abbrev pub dead_fault : PadState → Session → Option PadBad
dead_fault pad s = dead_if (end_of pad.epoch (seat_of pad s))

-- ---- revisions behind one that is known

-- the first n revisions behind revision r
abbrev pub revs_behind : Birth → ℕ → ℕ → List Rev
revs_behind b r n = take n (drop r b.later)

-- the last of some revisions, where this one stands before them
abbrev pub last_rev : Rev → List Rev → Rev
last_rev v [] = v
last_rev v (w ∷ ws) = last_rev w ws

-- when the last revision was made
abbrev pub edited : Birth → ℕ
edited b = (last_rev b.first b.later).time

-- ---- fetching

-- the head, the next revisions, and the heads at which the session's next edits that became nothing did
pub record Fetched : Type 0 where
  pub head : ℕ
  pub revs : List Rev
  pub nops : List ℕ

-- how many revisions a fetch gives at most
abbrev pub fetch_size : ℕ
fetch_size = 64

-- the heads at which a session's edits became nothing, in order
abbrev pub nop_heads : Session → Birth → List ℕ
nop_heads s b = map (λ x. x.rev) (nops_of s b.nops)

-- what a session fetches that has heard revision `from`, and was told so many of its edits that became nothing: of the
-- later ones, those as far as the revisions go
abbrev pub fetch : PadState → Session → ℕ → ℕ → Fetched
fetch pad s from told =
    let b = newest pad in
    let revs = revs_behind b from fetch_size in
    let nops = take_while (λ h. nat_le h (from + length revs)) (drop told (nop_heads s b)) in
    record { head = head b; revs = revs; nops = nops }

-- why it does not: each reason that is there, in the order in which they count
abbrev pub fetch_faults : PadState → Session → ℕ → List (Option PadBad)
fetch_faults pad s from = let h = head (newest pad) in dead_fault pad s ∷ fault_if (nat_lt h from) (BadRev h) ∷ []

-- why it does not, if it does not
abbrev pub fetch_fault : PadState → Session → ℕ → Option PadBad
fetch_fault pad s from = first_fault (fetch_faults pad s from)

-- ---- one revision, and a piece of the history

-- the revision that is asked for; none is the head
abbrev pub asked_rev : PadState → Option ℕ → ℕ
asked_rev pad rev = or_else rev (head (newest pad))

-- the document of a revision
abbrev pub text : PadState → Option ℕ → Doc
text pad rev = doc_at (newest pad) (asked_rev pad rev)

-- why it is not told: each reason that is there, in order
abbrev pub text_faults : PadState → Option ℕ → List (Option PadBad)
text_faults pad rev = let h = head (newest pad) in gone_fault pad ∷ fault_if (nat_lt h (asked_rev pad rev)) (NoRev h) ∷ []

-- why it is not told, if it is not
abbrev pub text_fault : PadState → Option ℕ → Option PadBad
text_fault pad rev = first_fault (text_faults pad rev)

-- a document, and the revisions behind it
pub record Piece : Type 0 where
  pub doc : Doc
  pub revs : List Rev
  pub head : ℕ

-- the document of a revision, and so many revisions behind it, all where they are fewer
abbrev pub history : PadState → ℕ → ℕ → Piece
history pad start count =
    let b = newest pad in record { doc = doc_at b start; revs = revs_behind b start count; head = head b }

-- why a session is not told it: each reason that is there, in order
abbrev pub history_faults : PadState → Session → ℕ → List (Option PadBad)
history_faults pad s start = let h = head (newest pad) in dead_fault pad s ∷ fault_if (nat_lt h start) (NoRev h) ∷ []

-- why a session is not told it, if it is not
abbrev pub history_fault : PadState → Session → ℕ → Option PadBad
history_fault pad s start = first_fault (history_faults pad s start)

-- ---- the pad as a whole

pub record PadStatus : Type 0 where
  pub birth : ℕ
  pub head : ℕ
  pub edited : ℕ
  pub public : Bool
  pub live : ℕ

-- the last birth and its head, when that was made, whether anybody may enter, and how many sessions are live.
-- It is refused by `gone_fault`.
abbrev pub status : PadState → PadStatus
status pad = record {
  birth = length pad.births;
  head = head (newest pad);
  edited = edited (newest pad);
  public = pad.public;
  live = live_count pad.sessions;
}

-- ---- who enters

pub record Welcome : Type 0 where
  pub session : Session
  pub birth : ℕ
  pub rev : ℕ
  pub doc : Doc
  pub author : Text
  pub read_only : Bool
  pub time : ℕ

-- what is told to who logs in to a pad that is there: the new session, and the head with its time
abbrev pub welcome : PadState → Grant → Welcome
welcome pad g = record {
  session = next_session pad;
  birth = length pad.births;
  rev = head (newest pad);
  doc = head_doc (newest pad);
  author = g.author;
  read_only = g.read_only;
  time = edited (newest pad);
}

pub record CatchUp : Type 0 where
  pub session : Session
  pub head : ℕ
  pub birth : ℕ
  pub time : ℕ

-- what is told to who resumes: the new session, and the head with its time
abbrev pub catch_up : PadState → CatchUp
catch_up pad = record {
  session = next_session pad;
  head = head (newest pad);
  birth = length pad.births;
  time = edited (newest pad);
}

-- ---- what was committed

-- `change` is the change of the head, `rev` the revision that makes it, `fixed` says that the newline's stands behind
-- that, and `nop` that the change had become nothing, so that `rev` is the head still
pub record Committed : Type 0 where
  pub rev : ℕ
  pub fixed : Bool
  pub nop : Bool
  pub change : Change

-- what is told of an edit of the head that makes a revision
abbrev pub revised : PadState → Edit → Committed
revised pad e =
    let b = newest pad in
    record { rev = suc (head b); fixed = lacks_newline (apply e (head_doc b)); nop = false; change = stamped e (text_of (head_doc b)) }

-- what is told of an edit of the head that has become nothing
abbrev pub became_nothing : PadState → Edit → Committed
became_nothing pad e =
    let b = newest pad in record { rev = head b; fixed = false; nop = true; change = stamped e (text_of (head_doc b)) }

-- what is told of a session's edit that was brought to the head
abbrev pub commit : PadState → Edit → Committed
commit pad e = if is_identity e then became_nothing pad e else revised pad e
