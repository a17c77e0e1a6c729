-- What comes of each request inside of a pad.
use Rattle.std.specs.Prelude.{ℕ, ◌+◌, ◌-◌, ◌==◌, ◌&&◌, ◌||◌, nat_lt, Bool, true, false, not, if◌then◌else◌, [], ◌∷◌, length, codes, Option, Some, None, is_some}
use Rattle.ep_units.specs.Text.{Text}
use Rattle.ep_attr.specs.AttrMap.{AttrMap, after, join, none, of_pairs}
use Rattle.ep_cs.specs.Doc.{Doc}
use Rattle.ep_cs.specs.Edit.{Edit, compose}
use Rattle.ep_cs.specs.Fits.{is_identity}
use Rattle.ep_cs.specs.Runs.{cells}
use Rattle.ep_cs.specs.Splice.{splice}
use Rattle.ep_history.specs.Kept.{KeptClient, kept_submission, kept_submitted}
use Rattle.ep_invert.specs.Paint.{paint}
use Rattle.ep_invert.specs.Refusal.{splice_bad}
use Rattle.ep_invert.specs.declared.bad.SpliceBad.{SpliceBad}
use Rattle.ep_client.specs.Hearing.{told_of, view_change}
use Rattle.ep_client.specs.Refusals.{hear_fault}
use Rattle.ep_client.specs.declared.bad.ClientBad.{ClientBad}
use Rattle.ep_client.specs.declared.heard.Heard.{Heard}
use Rattle.ep_client.specs.declared.heard.Told.{Told}
use Rattle.ep_client.specs.declared.heard.Told.TheVariants as told
use Rattle.ep_sign.specs.Signing.{inserts_another, signing}
use Rattle.ep_undo.specs.Undo.{UndoState, redone, top, undo_edited, undo_hears, undo_lost, undo_resumes, undone, edited_beside}
use Rattle.ep_undo.specs.Undo as undo
use Rattle.ep_hearing.specs.Meaning.{heard_of}
use Rattle.ep_hearing.specs.declared.meaning.Back.{Back}
use Rattle.ep_hearing.specs.declared.meaning.Meaning.{Meaning}
use Rattle.ep_hearing.specs.declared.meaning.Meaning.TheVariants as means
use Rattle.ep_hearing.specs.declared.meaning.News.{News}
use Rattle.ep_wire_words.specs.declared.client.ClientMsg.{ClientMsg}
use Rattle.ep_wire_words.specs.declared.client.ClientMsg.TheVariants as msgs
use Rattle.ep_wire_words.specs.declared.client.Resume.{Resume}
use Rattle.ep_wire_words.specs.declared.server.Word.{Word}
use Rattle.ep_editor.specs.Bads.{bad_of_client, bad_of_splice}
use Rattle.ep_editor.specs.Past.{hears_slid, silent}
use Rattle.ep_editor.specs.Replies.{Reply, Sends, Paints, Changes, Closes, Renewed, Nothing, refuses, ready}
use Rattle.ep_editor.specs.declared.bad.EditorBad.TheVariants as bad
use Rattle.ep_editor.specs.declared.editor.State.{State}
use Rattle.ep_editor.specs.declared.entered.Entered.{Entered}

-- the same pad with another client
abbrev pub with_client : Entered → UndoState → Entered
with_client p s = record p { client = s }

-- the client without its stacks
abbrev pub kept_of : Entered → KeptClient
kept_of p = p.client.client

-- it is connected, or about to be
abbrev pub is_busy_inside : Entered → Bool
is_busy_inside p = p.returning || (kept_of p).connected

abbrev pub inside_state : Entered → State
inside_state p = record {
  rev = (kept_of p).rev;
  waiting = is_some (kept_of p).sent_in;
  unsent = not (is_identity (kept_of p).local);
  connected = (kept_of p).connected;
  can_undo = is_some (top p.client.undos);
  can_redo = is_some (top p.client.redos);
}

-- ---- its user changes the view

-- an edit of the view, or why it is none
abbrev pub makes : Reply → Option SpliceBad → Edit → Entered → Reply × Entered
makes said None e p = (said, with_client p (undo_edited e p.client))
makes said (Some why) e p = refuses (bad_of_splice why) p

-- what the author puts has its attribute, whatever else it has
abbrev pub own_map : Text → AttrMap → AttrMap
own_map author with_ = join with_ (of_pairs ((codes "author", author) ∷ []))

-- of a document, so many units from a place on give way to a text with a map
abbrev pub put_edit : ℕ → ℕ → Text → AttrMap → Doc → Edit
put_edit at drop put m doc = splice (length doc) at drop (cells (after none m) put)

-- the document would have 2^32 units or more
abbrev pub is_long : Doc → ℕ → Text → Bool
is_long doc drop put = nat_lt 4294967295 ((length doc - drop) + length put)

abbrev pub put_by : ℕ → ℕ → Text → AttrMap → Entered → Edit
put_by at drop put with_ p = put_edit at drop put (own_map p.author with_) (kept_of p).view

abbrev pub putting : ℕ → ℕ → Text → AttrMap → Entered → Reply × Entered
putting at drop put with_ p = makes Nothing (splice_bad (put_by at drop put with_ p) (at + drop) (kept_of p).view) (put_by at drop put with_ p) p

abbrev pub edited : ℕ → ℕ → Text → AttrMap → Entered → Reply × Entered
edited at drop put with_ p =
    if p.read_only then refuses bad.ReadOnly p
    else (if is_long (kept_of p).view drop put then refuses bad.Long p else putting at drop put with_ p)

abbrev pub painting : Edit → ℕ → Entered → Reply × Entered
painting e end p = makes (Paints e) (splice_bad e end (kept_of p).view) e p

abbrev pub formatted : ℕ → ℕ → AttrMap → Entered → Reply × Entered
formatted at count attrs p = if p.read_only then refuses bad.ReadOnly p else painting (paint (length (kept_of p).view) at count attrs) (at + count) p

-- ---- its user takes back what it did, and makes it again

-- an edit, and what gives the author's name to what it puts under another's, as one edit of the view
abbrev pub signed_edit : Text → Edit → Edit
signed_edit author e = if inserts_another author e then compose e (signing author e) else e

-- the client after the second of these
abbrev pub with_signed : Text → Edit → UndoState → UndoState
with_signed author e s = if inserts_another author e then edited_beside (signing author e) s else s

-- the edit that was made, if there was one, and the author's name on what it puts
abbrev pub remade : Option Edit → UndoState → Entered → Reply × Entered
remade None s p = (Nothing, with_client p s)
remade (Some e) s p = (Paints (signed_edit p.author e), with_client p (with_signed p.author e s))

abbrev pub undoes : Entered → Reply × Entered
undoes p = remade (top p.client.undos) (undone p.client) p

abbrev pub redoes : Entered → Reply × Entered
redoes p = remade (top p.client.redos) (redone p.client) p

-- ---- it sends

abbrev pub user_changes : KeptClient → ClientMsg
user_changes k = let sent = kept_submission k in msgs.Edit sent.base sent.change

abbrev pub submits : Entered → Option KeptClient → Reply × Entered
submits p None = (Nothing, p)
submits p (Some k) = (Sends (user_changes k), with_client p (undo.with_client p.client k))

-- what is due, where something is
abbrev pub submitted : Entered → Reply × Entered
submitted p = submits p (kept_submitted (kept_of p))

-- ---- its connection

abbrev pub cut_off : Entered → Entered
cut_off p = record p { client = undo_lost p.client; returning = false; slider = silent p.slider }

abbrev pub loses : Entered → Reply × Entered
loses p = if is_busy_inside p then (Nothing, cut_off p) else refuses bad.Turn p

abbrev pub closes : Word → Entered → Reply × Entered
closes word p = if is_busy_inside p then (Closes word, cut_off p) else refuses bad.Turn p

-- it comes back with its revision, and says of which birth, and who it is
abbrev pub resume_of : Entered → Resume
resume_of p = record { rev = (kept_of p).rev; birth = Some p.birth; author = Some p.author }

abbrev pub returns : Entered → Reply × Entered
returns p = if is_busy_inside p then refuses bad.Turn p else (Sends (ready p.wanted (Some (resume_of p))), record p { returning = true })

-- ---- it hears

-- what is its own changes nothing of the view, another's is told with its author
abbrev pub told_reply : Told → Edit → Text → Reply
told_reply told.Commit e by = Nothing
told_reply told.News e by = Changes e by

abbrev pub hears_unless : Option ClientBad → News → Entered → Entered → Reply × Entered
hears_unless None n p before = (told_reply (told_of (heard_of n) (kept_of p)) (view_change (heard_of n) (kept_of p)) n.by, with_client p (undo_hears (heard_of n) p.client))
hears_unless (Some why) n p before = refuses (bad_of_client why) before

-- the next revision, to a pad that was so before the message
abbrev pub hears_from : News → Entered → Entered → Reply × Entered
hears_from n p before = hears_unless (hear_fault (heard_of n) (kept_of p)) n p before

abbrev pub hears_news : News → Entered → Reply × Entered
hears_news n p = hears_from n p p

abbrev pub hears_now : News → Entered → Reply × Entered
hears_now n p = if (kept_of p).connected then hears_news n p else refuses bad.Turn p

abbrev pub owns_unless : Option ClientBad → Heard → Entered → Reply × Entered
owns_unless None h p = (Nothing, with_client p (undo_hears h p.client))
owns_unless (Some why) h p = refuses (bad_of_client why) p

-- its submission is committed, or has become nothing
abbrev pub hears_own : Heard → Entered → Reply × Entered
hears_own h p = if (kept_of p).connected then owns_unless (hear_fault h (kept_of p)) h p else refuses bad.Turn p

-- more of what was missed, of its birth
abbrev pub hears_more : Back → Option News → Entered → Reply × Entered
hears_more b None p = refuses bad.Turn p
hears_more b (Some n) p = if b.birth == p.birth then hears_news n p else refuses bad.Turn p

-- the head is what was heard last, or above it where there is news
abbrev pub is_head : ℕ → ℕ → Option News → Bool
is_head heard head None = heard == head
is_head heard head (Some n) = nat_lt heard head

-- the answer to the message that resumes, of its birth
abbrev pub is_due : Back → Option News → Entered → Bool
is_due b n p = p.returning && (b.birth == p.birth && is_head (kept_of p).rev b.head n)

-- it is connected again
abbrev pub comes_back : Back → Entered → Entered
comes_back b p = record p { client = undo_resumes b.session b.head p.client; returning = false }

abbrev pub resumed_with : Back → Option News → Entered → Reply × Entered
resumed_with b None p = (Nothing, comes_back b p)
resumed_with b (Some n) p = hears_from n (comes_back b p) p

-- the answer is of another birth: its pad is gone
abbrev pub is_renewed : Back → Entered → Bool
is_renewed b p = p.returning && not (b.birth == p.birth)

abbrev pub renewed : Back → Entered → Reply × Entered
renewed b p = if is_renewed b p then (Renewed, cut_off p) else refuses bad.Turn p

abbrev pub resumed : Back → Option News → Entered → Reply × Entered
resumed b n p = if is_due b n p then resumed_with b n p else renewed b p

abbrev pub hears_back : Back → Option News → Entered → Reply × Entered
hears_back b n p = if (kept_of p).connected then hears_more b n p else resumed b n p

abbrev pub hears_if : Option News → Entered → Reply × Entered
hears_if None p = (Nothing, p)
hears_if (Some n) p = hears_news n p

-- what comes of a message
abbrev pub hears : Meaning → Entered → Reply × Entered
hears (means.Own h) p = hears_own h p
hears (means.News n) p = hears_now n p
hears (means.Back b n) p = hears_back b n p
hears (means.Closing word) p = closes word p
hears (means.Slid s) p = hears_slid s p
hears (means.Welcome w) p = refuses bad.Turn p
