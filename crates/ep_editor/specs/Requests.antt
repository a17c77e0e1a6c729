-- What is asked of an editor, and what comes of it: the table of requests.
use Rattle.std.specs.Prelude.{ℕ, Bool, true, false, if◌then◌else◌, Option, Some, None, Result, Ok, Err}
use Rattle.ep_units.specs.Text.{Text}
use Rattle.ep_attr.specs.AttrMap.{AttrMap}
use Rattle.ep_history.specs.Kept.{kept_started}
use Rattle.ep_hearing.specs.Meaning.{meant}
use Rattle.ep_hearing.specs.declared.meaning.Meaning.{Meaning}
use Rattle.ep_hearing.specs.declared.meaning.Meaning.TheVariants as means
use Rattle.ep_hearing.specs.declared.meaning.Welcome.{Welcome}
use Rattle.ep_wire_words.specs.declared.bad.WireBad.{WireBad}
use Rattle.ep_wire_words.specs.declared.server.ServerMsg.{ServerMsg}
use Rattle.ep_wire_words.specs.declared.server.Word.{Word}
use Rattle.ep_client.specs.declared.bad.ClientBad.{ClientBad}
use Rattle.ep_undo.specs.Undo.{undo_started}
use Rattle.ep_editor.specs.Bads.{bad_of_client, bad_of_wire}
use Rattle.ep_editor.specs.Replies.{Reply, Sends, Shows, Resumes, Closes, Nothing, refuses, ready}
use Rattle.ep_editor.specs.Inside.{edited, formatted, undoes, redoes, submitted, loses, returns, resume_of, hears, inside_state, is_busy_inside}
use Rattle.ep_editor.specs.Kept.{goes_on, keeps, kept_fault}
use Rattle.ep_timeslider.specs.Steps.{slider_at}
use Rattle.ep_editor.specs.Past.{slides}
use Rattle.ep_editor.specs.declared.bad.EditorBad.TheVariants as bad
use Rattle.ep_editor.specs.declared.editor.Editor.{Editor}
use Rattle.ep_editor.specs.declared.editor.Editor.TheVariants.{Outside, Entering, Inside}
use Rattle.ep_editor.specs.declared.editor.State.{State}
use Rattle.ep_editor.specs.declared.editor.Wanted.{Wanted}
use Rattle.ep_editor.specs.declared.entered.Entered.{Entered}
use Rattle.ep_editor.specs.declared.kept.Kept.{Kept}

-- What is asked: a pad is to be entered; it is to be entered again with what was kept; a message came, which reads so; so many units of
-- the view give way to a text with these attributes; attributes are set on so many units; the last edit is to be taken back; it is to be
-- made again; what is due is to be sent; the connection is gone; it is there again; what would be lost is to be kept; the document of a
-- revision is wanted
pub data Request : Type 0 where
  Enters : Wanted → Request
  EntersAgain : Wanted → Kept → Request
  Hears : Result ServerMsg WireBad → Request
  Edits : ℕ → ℕ → Text → AttrMap → Request
  Formats : ℕ → ℕ → AttrMap → Request
  Undoes : Request
  Redoes : Request
  Submits : Request
  Loses : Request
  Returns : Request
  Keeps : Request
  Slides : ℕ → Request

-- ---- before the document is here

abbrev pub is_busy : Editor → Bool
is_busy Outside = false
is_busy (Entering wanted) = true
is_busy (Inside p) = is_busy_inside p

-- a pad is entered by who isn't connected, or about to be
abbrev pub entered : Wanted → Editor → Reply × Editor
entered wanted s = if is_busy s then refuses bad.Turn s else (Sends (ready wanted None), Entering wanted)

-- and with what was kept, if that fits: the view is shown, and the connection resumes
abbrev pub again_unless : Option ClientBad → Wanted → Kept → Editor → Reply × Editor
again_unless None wanted k s = (Resumes (ready wanted (Some (resume_of (goes_on wanted k)))), Inside (goes_on wanted k))
again_unless (Some why) wanted k s = refuses (bad_of_client why) s

abbrev pub entered_again : Wanted → Kept → Editor → Reply × Editor
entered_again wanted k s = if is_busy s then refuses bad.Turn s else again_unless (kept_fault k) wanted k s

-- the document came: the client starts with it
abbrev pub welcomed : Welcome → Editor → Reply × Editor
welcomed w (Entering wanted) =
    (Shows, Inside (record { wanted = wanted; author = w.author; read_only = w.read_only; birth = w.birth; client = undo_started (kept_started w.doc w.rev w.session); returning = false; slider = slider_at w.rev w.doc }))
welcomed w s = refuses bad.Turn s

-- the server closed
abbrev pub denied : Word → Editor → Reply × Editor
denied word (Entering wanted) = (Closes word, Outside)
denied word s = refuses bad.Turn s

abbrev pub begun : Meaning → Editor → Reply × Editor
begun (means.Welcome w) s = welcomed w s
begun (means.Closing word) s = denied word s
begun m s = refuses bad.Turn s

-- the connection is gone before the document came
abbrev pub given_up : Editor → Reply × Editor
given_up (Entering wanted) = (Nothing, Outside)
given_up s = refuses bad.Turn s

-- ---- all requests

-- of who is inside of a pad; nobody else can ask this
abbrev pub within : (Entered → Reply × Entered) → Editor → Reply × Editor
within f (Inside p) = ((f p).0, Inside (f p).1)
within f s = refuses bad.Turn s

-- the revision that it has heard last
abbrev pub heard_rev : Editor → ℕ
heard_rev (Inside p) = p.client.client.rev
heard_rev s = 0

abbrev pub heard_as : Meaning → Editor → Reply × Editor
heard_as m (Inside p) = within (hears m) (Inside p)
heard_as m s = begun m s

abbrev pub heard : Result ServerMsg WireBad → Editor → Reply × Editor
heard (Ok m) s = heard_as (meant (heard_rev s) m) s
heard (Err why) s = refuses (bad_of_wire why) s

abbrev pub lost : Editor → Reply × Editor
lost (Inside p) = within loses (Inside p)
lost s = given_up s

-- what is answered to a request, and the editor then
abbrev pub answer : Request → Editor → Reply × Editor
answer (Enters wanted) s = entered wanted s
answer (EntersAgain wanted k) s = entered_again wanted k s
answer (Hears read) s = heard read s
answer (Edits at drop put with_) s = within (edited at drop put with_) s
answer (Formats at count attrs) s = within (formatted at count attrs) s
answer Undoes s = within undoes s
answer Redoes s = within redoes s
answer Submits s = within submitted s
answer Loses s = lost s
answer Returns s = within returns s
answer Keeps s = within keeps s
answer (Slides to) s = within (slides to) s

-- what it is, inside of a pad
abbrev pub state_of : Editor → Option State
state_of (Inside p) = Some (inside_state p)
state_of s = None
