-- The steps of a client with its connections, as it is kept.
use Rattle.std.specs.Prelude.{◌≡◌, ℕ, suc, if◌then◌else◌, [], Option, Some, None, Ok}
use Rattle.ep_units.specs.declared.session.Session.{Session}
use Rattle.ep_history.specs.Kept.{KeptClient, is_kept_own, kept_nop, kept_submission, kept_submitted}
use Rattle.ep_undo.specs.Undo.{UndoState, undo_hears_rev, undo_lost, undo_resumes, with_client}
use Rattle.ep_units.specs.Text.{Text}
use Rattle.ep_event.specs.declared.shown.Shown.{Shown}
use Rattle.ep_event.specs.declared.shown.Shown.TheVariants as shown
use Rattle.ep_event.specs.declared.shown.Verb.TheVariants as verb
use Rattle.ep_members.specs.declared.message.Sent.{Sent}
use Rattle.ep_members.specs.declared.message.Down.{Down}
use Rattle.ep_members.specs.declared.message.Down.TheVariants as down
use Rattle.ep_members.specs.declared.member.Member.{Member}
use Rattle.ep_members.specs.Conns.{KeptConn, kept_cut, kept_down, kept_new, kept_sends, TakesDown, TakesUp}

-- its connection is lost, where it was connected
abbrev pub kept_member_lost : Member → Member
kept_member_lost m = if m.client.client.connected then record m { client = undo_lost m.client; conn = kept_down m.conn [] } else m

-- it is connected anew at its revision, in this session, and is told the head
abbrev pub kept_member_resumed : Session → ℕ → Member → Member
kept_member_resumed s head m = record m { client = undo_resumes s head m.client; conn = kept_new s m.client.client.rev; earlier = Some m.conn }

-- all its connections are gone
abbrev pub kept_member_cut : Member → Member
kept_member_cut m = record m { client = undo_lost m.client; conn = kept_cut m.conn; earlier = None }

-- the first message of the connection before its last resumption is taken, with that connection's session
abbrev pub TakesLateOf : Member → Option KeptConn → Option (Session × Sent) → Member → Type 0
TakesLateOf old None None new = new ≡ old
TakesLateOf old None (Some x) new = ⊥
TakesLateOf old (Some c) None new = (c.up ≡ []) × (new ≡ old)
TakesLateOf old (Some c) (Some x) new = (x.0 ≡ c.session) × ((d : KeptConn) × TakesUp c (Some x.1) d × (new ≡ record old { earlier = Some d }))

abbrev pub TakesLate : Member → Option (Session × Sent) → Member → Type 0
TakesLate old x new = TakesLateOf old old.earlier x new

-- a client after the first of its queue down, where there is one
abbrev pub kept_hears_down : Option Down → UndoState → UndoState
kept_hears_down None k = k
kept_hears_down (Some (down.Revision v)) k = undo_hears_rev v.change v.session k
kept_hears_down (Some (down.Spent r)) k = with_client k (kept_nop k.client)
kept_hears_down (Some (down.Closing word)) k = undo_lost k

-- and what is shown of that
abbrev pub shows_hears : Text → KeptClient → Option Down → Shown
shows_hears n k None = shown.Nothing verb.Hear n
shows_hears n k (Some (down.Revision v)) = if is_kept_own v.session k.sent_in then shown.Committed n (suc k.rev) else shown.Heard n (suc k.rev)
shows_hears n k (Some (down.Spent r)) = shown.Noted verb.Hear n r
shows_hears n k (Some (down.Closing word)) = shown.Closed verb.Hear n word

-- it hears the first of its queue down, where there is one, and that is shown
abbrev pub HearsDown : Text → Member → Member → Shown → Type 0
HearsDown n old new s =
    (first : Option Down) × (c : KeptConn) × TakesDown old.conn first c
    × (new ≡ record old { client = kept_hears_down first old.client; conn = c }) × (s ≡ shows_hears n old.client.client first)

-- what it sends enters its queue up, where it sends something
abbrev pub SubmitsOf : Text → Option KeptClient → Member → Member → Shown → Type 0
SubmitsOf n None old new s = (new ≡ old) × (s ≡ shown.Nothing verb.Submit n)
SubmitsOf n (Some k) old new s =
    let x = kept_submission k in
    (new ≡ record old { client = with_client old.client k; conn = kept_sends (record { base = x.base; change = Ok x.change }) old.conn }) × (s ≡ shown.Submitted n x.base x.change)

abbrev pub SubmitsUp : Text → Member → Member → Shown → Type 0
SubmitsUp n old new s = SubmitsOf n (kept_submitted old.client.client) old new s
