-- What a script may write, and the status that it ends with.
use Rattle.std.specs.Prelude.{◌≡◌, ℕ, ◌+◌, Bool, true, false, ◌==◌, ◌&&◌, ◌||◌, nat_le, is_none, if◌then◌else◌, List, [], ◌∷◌, ◌++◌, codes, Option, Some, None, MatchOption, Result, Ok, Err}
use Rattle.std.specs.Fmt.{decimal}
use Rattle.ep_units.specs.Text.{Text}
use Rattle.ep_attr.specs.AttrMap.{Pair}
use Rattle.ep_pool.specs.Pool.{put, number_of}
use Rattle.ep_csread.specs.Reading.{reading}
use Rattle.ep_outside.specs.Crash.{filling}
use Rattle.ep_outside.specs.declared.image.Image.TheVariants.{Old}
use Rattle.ep_outside.specs.declared.limits.Limits.{Limits}
use Rattle.ep_history.specs.declared.record.Record.{Record}
use Rattle.ep_schedule.specs.World.{WorldState, Event, start}
use Rattle.ep_world.specs.Kepts.{Kepts, nobodies}
use Rattle.ep_schedule.specs.Headline.{next_up}
use Rattle.ep_pad_file.specs.Stopping.{gate_behind}
use Rattle.ep_event.specs.declared.event.Event.{Event as Told}
use Rattle.ep_event.specs.declared.event.Event.TheVariants as event
use Rattle.ep_event.specs.declared.shown.Shown.{Shown}
use Rattle.ep_event.specs.declared.shown.Shown.TheVariants as shown
use Rattle.ep_event.specs.declared.shown.Verb.TheVariants as verb
use Rattle.ep_script.specs.Lines.{Row, rows_of, said}
use Rattle.ep_script.specs.Script.{is_long, width}
use Rattle.ep_script.specs.Line.{line_of}
use Rattle.ep_script.specs.Left.{Left}
use Rattle.ep_script.specs.Left as remains
use Rattle.ep_script.specs.Seen.{Seen, whole, stopped}
use Rattle.ep_script.specs.declared.line.Line.{Line}
use Rattle.ep_script.specs.declared.line.Line.TheVariants as line
use Rattle.ep_script.specs.declared.line.LineBad.{LineBad}
use Rattle.ep_script.specs.declared.line.LineBad.TheVariants as bad
use Rattle.ep_print.specs.Printed.{printed}
use Rattle.ep_world.specs.Events.{event_at, happened, kept_happened, is_client, is_guest, is_known}
use Rattle.ep_world.specs.Shows.{shows, shows_head, shows_marks, shows_text, shows_view, shows_view_marks}
use Rattle.ep_world.specs.Journal.{Decides, begun, full_at, full_by, journal_after, journal_full, reads_as, record_taken}
use Rattle.ep_world.specs.Standing.{overfull_at}
use Rattle.ep_run.specs.declared.reason.Reason.{Reason}
use Rattle.ep_run.specs.declared.reason.Reason.TheVariants.{Utf8, Syntax, Long, Unknown}

-- ---- the lines of a script

-- a crash that comes into the take of a name, after so many device calls. What it leaves of the file is said beside it.
abbrev pub stop_at : Text → ℕ → Told
stop_at n calls = event.Stop (Some (record { name = n; calls = calls; image = Old }))

-- a line, of what is seen of it
abbrev pub line_seen : Seen → Line
line_seen (whole l) = l
line_seen (stopped n calls left) = line.Event (stop_at n calls)

-- why bytes are no line; a definition never says that memory ran out
abbrev pub reason_of : LineBad → Reason
reason_of bad.Utf8 = Utf8
reason_of bad.Syntax = Syntax
reason_of bad.NoMemory = Syntax

abbrev pub line_read : Result Seen LineBad → Result Seen Reason
line_read (Ok seen) = Ok seen
line_read (Err bad) = Err (reason_of bad)

-- the line that begins at a place: whether it is too long is asked first
abbrev pub read_at : ℕ → Row → Result Seen Reason
read_at place row = if is_long place row then Err Long else line_read (line_of (said row))

-- what each line is, of those that begin at a place
abbrev pub reads_at : ℕ → List Row → List (Result Seen Reason)
reads_at place [] = []
reads_at place (row ∷ rows) = read_at place row ∷ reads_at (place + width row) rows

-- what each line of a script is
abbrev pub reads_of : List ℕ → List (Result Seen Reason)
reads_of script = reads_at 0 (rows_of script)

-- ---- what stands between two lines

-- the pad's journal, the world of the rules, its clients as they are kept with their stacks, and the script's pool
pub record Scene : Type 0 where
  pub journal : List Record
  pub world : WorldState
  pub kepts : Kepts
  pub pool : List Pair

-- what was asked for comes to an event, or to none, and this is the journal then
abbrev pub after : Scene → Told → Option Event → List Record → Scene
after s asked e journal = record { journal = journal; world = happened s.world e; kepts = kept_happened s.world s.kepts asked e; pool = s.pool }

-- the event of line k, which is recorded
abbrev pub played : ℕ → Scene → Bool → Told → Scene
played k s kept e = after s e (event_at s.world s.kepts k kept e) (journal_after s.journal s.world k kept e)

-- the pair goes to the pool's end, where it isn't there
abbrev pub with_pair : Scene → Pair → Scene
with_pair s pair = record { journal = s.journal; world = s.world; kepts = s.kepts; pool = put s.pool pair }

-- what the pad of a script is held to
abbrev pub play_limits : Limits
play_limits = record { live = 500; logins = 1000000; units = 1000000; journal = 268435456; openings = 0; pads = 10000 }

-- what a script begins with: no pad of this id yet, nobody, and no pair
abbrev pub opening : Text → Scene
opening id = record { journal = begun; world = start play_limits id; kepts = nobodies; pool = [] }

-- ---- why a line isn't played

abbrev pub unless : Bool → Option Reason
unless true = None
unless false = Some Unknown

-- a line that needs a client or a guest, and names none, isn't played
abbrev pub line_stops : WorldState → Line → Option Reason
line_stops w (line.Event e) = unless (is_known w e)
line_stops w (line.Inject n base text) = unless (is_guest (w.actors n))
line_stops w (line.Show n) = unless (is_client (w.actors n))
line_stops w (line.ViewMarks n) = unless (is_client (w.actors n))
line_stops w l = None

-- nor is what is no line
abbrev pub stops : WorldState → Result Seen Reason → Option Reason
stops w (Ok seen) = line_stops w (line_seen seen)
stops w (Err reason) = Some reason

-- ---- what a line shows

-- what is shown of the event of line k, and what stands behind it: it happens; or there is no room for it, and that is shown
abbrev pub Becomes : Bool → ℕ → Scene → Told → Option Shown → Scene → Option Shown → Type 0
Becomes kept k s e o next None = (o ≡ Some (shows s.world s.kepts k kept e)) × (next ≡ played k s kept e)
Becomes kept k s e o next (Some full) =
    (o ≡ Some full) × (next ≡ after s e (overfull_at s.journal s.world k kept e) (journal_full s.journal s.world k kept e))

-- Line k is an event, at the moment of k milliseconds: it happens, and is shown. Or the journal has no room for its record, or
-- for an opening, and says so. Of a crash within a take the image that is asked for decides whether the record is kept.
abbrev pub Happens : ℕ → Scene → Told → Option Shown → Scene → Type 0
Happens k s e o next = (kept : Bool) × Decides s.journal s.world k e kept × Becomes kept k s e o next (full_at s.journal s.world k kept e)

-- the byte 01, written at the gate and not synced, is in what the crash leaves
abbrev pub leaves_gate : ℕ → Left → Bool
leaves_gate gate remains.old = false
leaves_gate gate remains.new = true
leaves_gate gate (remains.torn length fill) = filling fill gate == 1

-- what a crash leaves keeps the record of the take that it came into: where there was room for it, and the take made four
-- device calls; or three, of which the last writes the gate
abbrev pub keeps_left : Scene → ℕ → Text → ℕ → Left → Bool
keeps_left s k n calls left =
    (nat_le 4 calls || (calls == 3 && leaves_gate (gate_behind s.journal) left))
    && is_none (full_by s.journal s.world.pad (record_taken s.world.pad k (next_up (s.world.actors n))))

-- what line k may show, and what stands behind it. A guest's text is read with the script's pool as it is now.
abbrev pub Shows : ℕ → Scene → Line → Option Shown → Scene → Type 0
Shows k s line.Blank o next = (o ≡ None) × (next ≡ s)
Shows k s (line.Event e) o next = Happens k s e o next
Shows k s (line.Inject n base text) o next = Happens k s (event.Inject n base (reading s.pool text)) o next
Shows k s (line.Attr key value) o next = (o ≡ Some (shown.Attr (number_of s.pool (key, value)))) × (next ≡ with_pair s (key, value))
Shows k s (line.Show n) o next = (o ≡ shows_view s.world n) × (next ≡ s)
Shows k s line.Head o next = (o ≡ Some (reads_as s.journal s.world.pad verb.Head (shows_head s.world.pad))) × (next ≡ s)
Shows k s (line.Text rev) o next = (o ≡ Some (reads_as s.journal s.world.pad verb.Text (shows_text s.world.pad rev))) × (next ≡ s)
Shows k s line.Marks o next = (o ≡ Some (reads_as s.journal s.world.pad verb.Marks (shows_marks s.world.pad))) × (next ≡ s)
Shows k s (line.ViewMarks n) o next = (o ≡ shows_view_marks s.world n) × (next ≡ s)

-- so does a line as it is seen
abbrev pub ShowsSeen : ℕ → Scene → Seen → Option Shown → Scene → Type 0
ShowsSeen k s (whole l) o next = Shows k s l o next
ShowsSeen k s (stopped n calls left) o next =
    let kept = keeps_left s k n calls left in
    Becomes kept k s (stop_at n calls) o next (full_at s.journal s.world k kept (stop_at n calls))

abbrev pub ShowsRead : ℕ → Scene → Result Seen Reason → Option Shown → Scene → Type 0
ShowsRead k s (Ok seen) o next = ShowsSeen k s seen o next
ShowsRead k s (Err reason) o next = ⊥

-- what is shown is written, as a line of output
abbrev pub written : Option Shown → List ℕ
written None = []
written (Some x) = printed x

-- ---- a script

abbrev pub reason_text : Reason → List ℕ
reason_text Utf8 = codes " utf8\n"
reason_text Syntax = codes " syntax\n"
reason_text Long = codes " long\n"
reason_text Unknown = codes " unknown\n"

-- why line k ends the script
abbrev pub error_line : ℕ → Reason → List ℕ
error_line k reason = codes "error line " ++ decimal k ++ reason_text reason

-- A transcript of lines, the first of which has the number k: each writes what it may show, up to the first that isn't
-- played, of which the reason is written. The status is 0, or 3 where there is such a line. What stands then is `end`.
abbrev pub Transcript : ℕ → Scene → List (Result Seen Reason) → List ℕ → ℕ → Scene → Type 0
Transcript k s [] out status end = (out ≡ []) × (status ≡ 0) × (end ≡ s)
Transcript k s (r ∷ rs) out status end = MatchOption (stops s.world r)
    ((o : Option Shown) × (next : Scene) × (rest : List ℕ) × ShowsRead k s r o next × (out ≡ written o ++ rest) × Transcript (k + 1) next rs rest status end)
    (λ reason. (out ≡ error_line k reason) × (status ≡ 3) × (end ≡ s))

-- of a script on a pad of this id
abbrev pub TranscriptOf : Text → List ℕ → List ℕ → ℕ → Scene → Type 0
TranscriptOf id script out status end = Transcript 1 (opening id) (reads_of script) out status end

-- a script may write this, and then ends with this status
abbrev pub IsTranscript : Text → List ℕ → List ℕ → ℕ → Type 0
IsTranscript id script out status = (end : Scene) × TranscriptOf id script out status end
