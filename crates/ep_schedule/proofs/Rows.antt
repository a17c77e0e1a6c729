-- Worked schedules, computed from the definitions: what is taken, refused, told and shown, and how the revisions are spelled.
use Rattle.std.proofs.Common.{◌≡◌, ℕ, ◌+◌, Bool, true, false, not, ◌&&◌, List, [], ◌∷◌, ◌++◌, map, Option, Some, None, Result, Ok, Err, refl}
use Rattle.std.specs.Prelude.{codes}
use Rattle.ep_units.specs.Text.{Text}
use Rattle.ep_outside.specs.declared.limits.Limits.{Limits}
use Rattle.ep_cs.specs.Doc.{Doc, text_of}
use Rattle.ep_cs.specs.Splice.{splice}
use Rattle.ep_cs.specs.Plain.{plain}
use Rattle.ep_cs.specs.Change.{Change, stamped}
use Rattle.ep_cs.specs.Edit.{identity}
use Rattle.ep_cs.specs.Edit.Fate.{Keep}
use Rattle.ep_cs.specs.Spelling.{spelling}
use Rattle.ep_units.specs.Base36.{write36}
use Rattle.ep_units.specs.declared.session.Session.{Session}
use Rattle.ep_attr.specs.AttrMap.{AttrMap, none, insert, is_none}
use Rattle.ep_cs.specs.declared.bad.FitBad.TheVariants.{CutsPair}
use Rattle.ep_csread.specs.declared.bad.ReadBad.{ReadBad}
use Rattle.ep_csread.specs.declared.bad.ReadBad.TheVariants.{Syntax}
use Rattle.ep_history.specs.Lists.{at}
use Rattle.ep_history.specs.History.{head, head_doc}
use Rattle.ep_history.specs.Pad.{newest, birth_at}
use Rattle.ep_history.specs.Refusals.{login_fault, resume_fault}
use Rattle.ep_history.specs.declared.pad_bad.PadBad.TheVariants.{Dead, Denied, Full, Gone, ReadOnly, NoBase, Fit, TooLong}
use Rattle.ep_history.specs.declared.seat.Why.TheVariants.{Left, Replaced}
use Rattle.ep_history.specs.Client.{has_local, has_sent, view}
use Rattle.ep_schedule.specs.World.{Name, Conn, Word, Down, Message, Actor, Taken, WorldState, Event, Reason, grant_of, reason, start, run}
use Rattle.ep_schedule.specs.World.Actor.{Nobody, Guest, Named}
use Rattle.ep_schedule.specs.World.Down.{Revision, Spent, Closing}
use Rattle.ep_schedule.specs.World.Reason.{Unread, Refused}
use Rattle.ep_schedule.specs.World.Word.{JournalFull, PadDeleted}
use Rattle.ep_schedule.specs.World.Event.{Create, SetText, Delete, Login, Visit, Edits, Submit, Inject, Take, Overfull, Late, Push, Hear, Lose, Resume, Stop}
use Rattle.ep_history.specs.declared.rev.Rev.{Rev}
use Rattle.ep_history.specs.declared.nop.Nop.{Nop}
use Rattle.ep_history.specs.declared.seat.Seat.{Seat}
use Rattle.ep_history.specs.declared.seat.Why.{Why}
use Rattle.ep_history.specs.declared.submission.Submission.{Submission}

abbrev limits : Limits
limits = record { live = 500; logins = 1000000; units = 1000000; journal = 0; openings = 0; pads = 1 }

abbrev A : Name
A = codes "A"

abbrev B : Name
B = codes "B"

abbrev G : Name
G = codes "G"

abbrev after : List Event → WorldState
after es = run es (start limits (codes "pad"))

abbrev shown_by : WorldState → Actor → Text
shown_by w Nobody = []
shown_by w (Guest c) = []
shown_by w (Named m) = text_of (view (birth_at w.pad m.birth) m.client)

abbrev shown : WorldState → Name → Text
shown w n = shown_by w (w.actors n)

abbrev head_text : WorldState → Text
head_text w = text_of (head_doc (newest w.pad))

-- the pair of a map has the number 0
abbrev first_pair : AttrMap → List ℕ
first_pair m = elim (is_none m) [ true ↦ [] | false ↦ 0 ∷ [] ]

abbrev spelt_by : Option Rev → Text
spelt_by None = []
spelt_by (Some v) = spelling first_pair v.change

-- how revision r + 1 is spelled
abbrev spelt : WorldState → ℕ → Text
spelt w r = spelt_by (at (newest w.pad).later r)

-- a splice of a text of so many units
abbrev inserts : Name → ℕ → ℕ → Text → Event
inserts n units place text = Edits n (splice units place 0 (plain text))

abbrev deletes : Name → ℕ → ℕ → ℕ → Event
deletes n units place count = Edits n (splice units place count [])

abbrev first_up : Actor → List Message
first_up Nobody = []
first_up (Guest c) = c.up
first_up (Named m) = m.conn.up

abbrev is_clean : Actor → Bool
is_clean Nobody = false
is_clean (Guest c) = false
is_clean (Named m) = not (has_sent m.client) && not (has_local m.client)

abbrev is_connected : Actor → Bool
is_connected Nobody = false
is_connected (Guest c) = false
is_connected (Named m) = m.client.connected

abbrev refused : WorldState → Actor → Option Reason
refused w Nobody = None
refused w (Guest c) = first c.up
  where
    first : List Message → Option Reason
    first [] = None
    first (msg ∷ up) = reason w.pad c.session msg
refused w (Named m) = first m.conn.up
  where
    first : List Message → Option Reason
    first [] = None
    first (msg ∷ up) = reason w.pad m.conn.session msg

-- ---- ties

-- two insertions at one gap: the one that is taken first stands first, on the server and at the other client
abbrev tie : List Event
tie = Create 1 (codes "ab") ∷ Login 2 A ∷ Login 3 B ∷ inserts A 3 1 (codes "X") ∷ inserts B 3 1 (codes "Y") ∷ Submit A ∷ Submit B ∷ Take 8 A ∷ Take 9 B ∷ []

tie_first : spelt (after tie) 0 ≡ codes "Z:3>1=1+1$X"
unfolding write36
tie_first = refl

tie_second : spelt (after tie) 1 ≡ codes "Z:4>1=2+1$Y"
unfolding write36
tie_second = refl

tie_sent : shown (after (tie ++ Push B ∷ Hear B ∷ [])) B ≡ codes "aXYb\n"
tie_sent = refl

tie_clean : shown (after (tie ++ Push B ∷ Hear B ∷ Push B ∷ Hear B ∷ [])) B ≡ codes "aXYb\n"
tie_clean = refl

tie_head : head_text (after tie) ≡ codes "aXYb\n"
tie_head = refl

-- an insertion that begins with a newline goes behind one that doesn't
abbrev lines_tie : List Event
lines_tie = Create 1 (codes "ab") ∷ Login 2 A ∷ Login 3 B ∷ inserts A 3 1 (codes "\n") ∷ inserts B 3 1 (codes "Y") ∷ Submit A ∷ Submit B ∷ Take 8 A ∷ Take 9 B ∷ []

lines_tie_first : spelt (after lines_tie) 0 ≡ codes "Z:3>1=1|1+1$\n"
unfolding write36
lines_tie_first = refl

lines_tie_second : spelt (after lines_tie) 1 ≡ codes "Z:4>1=1+1$Y"
unfolding write36
lines_tie_second = refl

lines_tie_head : head_text (after lines_tie) ≡ codes "aY\nb\n"
lines_tie_head = refl

-- ---- what both delete, and what both set

abbrev overlap : List Event
overlap = Create 1 (codes "ab") ∷ Login 2 A ∷ Login 3 B ∷ deletes A 3 0 1 ∷ deletes B 3 0 2 ∷ Submit A ∷ Submit B ∷ Take 8 A ∷ Take 9 B ∷ []

overlap_first : spelt (after overlap) 0 ≡ codes "Z:3<1-1$"
unfolding write36
overlap_first = refl

overlap_second : spelt (after overlap) 1 ≡ codes "Z:2<1-1$"
unfolding write36
overlap_second = refl

overlap_head : head_text (after overlap) ≡ codes "\n"
overlap_head = refl

-- sets the color of the first of three units
abbrev colors : Name → Text → Event
colors n value = Edits n (record { places = record { before = []; fate = Keep (insert none (codes "color") value) } ∷ (identity 2).places; last = [] })

-- red by A and blue by B, which are submitted on one revision, and taken in this order
abbrev meeting : Name → Name → List Event
meeting first second =
    Create 1 (codes "ab") ∷ Login 2 A ∷ Login 3 B ∷ colors A (codes "red") ∷ colors B (codes "blue") ∷ Submit A ∷ Submit B ∷ Take 8 first ∷ Take 9 second ∷ []

-- the earlier value stays, whichever is taken first
abbrev blue_head : Doc
blue_head = record { unit = 97; attrs = insert none (codes "color") (codes "blue") } ∷ plain (codes "b\n")

red_then_blue : (spelt (after (meeting A B)) 0 ≡ codes "Z:3>0*0=1$") × (spelt (after (meeting A B)) 1 ≡ codes "Z:3>0*0=1$")
unfolding write36
red_then_blue = (refl, refl)

red_then_blue_head : head_doc (newest (after (meeting A B)).pad) ≡ blue_head
red_then_blue_head = refl

-- red yields to blue, so it has become nothing: no second revision, and a Nop at the first
blue_then_red : (head (newest (after (meeting B A)).pad) ≡ 1) × (map (λ (x : Nop). x.rev) (newest (after (meeting B A)).pad).nops ≡ 1 ∷ [])
blue_then_red = (refl, refl)

blue_then_red_head : head_doc (newest (after (meeting B A)).pad) ≡ blue_head
blue_then_red_head = refl

-- ---- own text first

-- what was not sent stays before what is heard
abbrev own_first : List Event
own_first = Create 1 (codes "ab") ∷ Login 2 A ∷ Login 3 B ∷ inserts A 3 1 (codes "X") ∷ Submit A ∷ Take 6 A ∷ inserts B 3 1 (codes "Z") ∷ Push B ∷ Hear B ∷ []

own_first_shown : shown (after own_first) B ≡ codes "aZXb\n"
own_first_shown = refl

own_first_sent : map {B = ℕ × Text} (λ (msg : Message). (msg.base, spelling first_pair msg.change)) (first_up ((after (own_first ++ Submit B ∷ [])).actors B)) ≡ (1, codes "Z:4>1=1+1$Z") ∷ []
unfolding write36
own_first_sent = refl

own_first_revision : spelt (after (own_first ++ Submit B ∷ Take 11 B ∷ [])) 1 ≡ codes "Z:4>1=1+1$Z"
unfolding write36
own_first_revision = refl

own_first_head : head_text (after (own_first ++ Submit B ∷ Take 11 B ∷ [])) ≡ codes "aZXb\n"
own_first_head = refl

-- ---- the final newline

-- a head without its newline gets one, by nobody; its client is first without it, and then hears it
abbrev fixed : List Event
fixed = Create 1 (codes "a") ∷ Login 2 A ∷ deletes A 2 0 2 ∷ Submit A ∷ Take 5 A ∷ []

fixed_revisions : (spelt (after fixed) 0 ≡ codes "Z:2<2|1-2$") × (spelt (after fixed) 1 ≡ codes "Z:0>1|1+1$\n")
unfolding write36
fixed_revisions = (refl, refl)

fixed_head : (head (newest (after fixed).pad) ≡ 2) × (head_text (after fixed) ≡ codes "\n")
fixed_head = (refl, refl)

fixed_commit : (shown (after (fixed ++ Push A ∷ Hear A ∷ [])) A ≡ []) × (is_clean ((after (fixed ++ Push A ∷ Hear A ∷ [])).actors A) ≡ true)
fixed_commit = (refl, refl)

fixed_heard : shown (after (fixed ++ Push A ∷ Hear A ∷ Push A ∷ Hear A ∷ [])) A ≡ codes "\n"
fixed_heard = refl

-- ---- losses and resumptions

-- a commit that was lost is heard after the resumption, as the client's own, and nothing is sent again
abbrev resumed : List Event
resumed = Create 1 (codes "ab") ∷ Login 2 A ∷ inserts A 3 1 (codes "X") ∷ Submit A ∷ Take 5 A ∷ Lose A ∷ Resume A ∷ Push A ∷ Hear A ∷ []

resumed_shown : (shown (after resumed) A ≡ codes "aXb\n") × (is_clean ((after resumed).actors A) ≡ true)
resumed_shown = (refl, refl)

resumed_sends_none : first_up ((after (resumed ++ Submit A ∷ [])).actors A) ≡ []
resumed_sends_none = refl

resumed_head : (head (newest (after (resumed ++ Submit A ∷ [])).pad) ≡ 1) × ((after resumed).known ≡ 1 ∷ 1 ∷ [])
resumed_head = (refl, refl)

-- a late message is dead, and what it said is sent again under the new session
abbrev returned : List Event
returned = Create 1 (codes "ab") ∷ Login 2 A ∷ inserts A 3 1 (codes "X") ∷ Submit A ∷ Lose A ∷ Resume A ∷ []

abbrev late : List Event
late = returned ++ Late 7 A ∷ Submit A ∷ Take 9 A ∷ Push A ∷ Hear A ∷ []

-- why the first of the earlier connection is not taken
abbrev late_reason : WorldState → Actor → Option Reason
late_reason w Nobody = None
late_reason w (Guest c) = None
late_reason w (Named m) = earlier m.earlier
  where
    first : Session → List Message → Option Reason
    first s [] = None
    first s (msg ∷ up) = reason w.pad s msg

    earlier : Option Conn → Option Reason
    earlier None = None
    earlier (Some e) = first e.session e.up

late_refused : late_reason (after returned) ((after returned).actors A) ≡ Some (Refused (Dead (Replaced (record { epoch = 1; count = 2 }))))
late_refused = refl

late_sent : map {B = ℕ × Text} (λ (msg : Message). (msg.base, spelling first_pair msg.change)) (first_up ((after (returned ++ Late 7 A ∷ Submit A ∷ [])).actors A)) ≡ (0, codes "Z:3>1=1+1$X") ∷ []
unfolding write36
late_sent = refl

late_head : head (newest (after late).pad) ≡ 1
late_head = refl

late_text : head_text (after late) ≡ codes "aXb\n"
late_text = refl

late_once : map (λ (t : Taken). t.number) (after late).taken ≡ 1 ∷ []
late_once = refl

late_session : map (λ (t : Taken). t.by.session.count) (after late).taken ≡ 2 ∷ []
late_session = refl

-- a pad that was deleted closes its clients, which find the next birth gone
abbrev dropped : List Event
dropped = Create 1 (codes "a") ∷ Login 2 A ∷ Delete ∷ Push A ∷ []

abbrev closings : Actor → List Word
closings Nobody = []
closings (Guest c) = []
closings (Named m) = words m.conn.down
  where
    words : List Down → List Word
    words [] = []
    words (Closing word ∷ down) = word ∷ words down
    words (Spent r ∷ down) = words down
    words (Revision v ∷ down) = words down

dropped_told : closings ((after dropped).actors A) ≡ PadDeleted ∷ []
dropped_told = refl

dropped_resumes : resume_fault (after (dropped ++ Hear A ∷ Create 6 (codes "b") ∷ [])).pad (grant_of (after dropped) A false) 0 (Some 1) None ≡ Some Gone
dropped_resumes = refl

dropped_again : is_connected ((after (dropped ++ Hear A ∷ Create 6 (codes "b") ∷ Resume A ∷ [])).actors A) ≡ false
dropped_again = refl

-- a journal without room for it: a message is gone, its session left and its client told; later it is sent again
abbrev overfull : List Event
overfull = Create 1 (codes "ab") ∷ Login 2 A ∷ inserts A 3 1 (codes "X") ∷ Submit A ∷ Overfull A ∷ []

abbrev ends : WorldState → List (Option Why)
ends w = map (λ (l : Seat). l.end) w.pad.sessions

overfull_gone : (first_up ((after overfull).actors A) ≡ []) × (head (newest (after overfull).pad) ≡ 0) × ((after overfull).known ≡ [])
overfull_gone = (refl, refl, refl)

overfull_told : (closings ((after overfull).actors A) ≡ JournalFull ∷ []) × (ends (after overfull) ≡ Some Left ∷ [])
overfull_told = (refl, refl)

overfull_again : head_text (after (overfull ++ Hear A ∷ Resume A ∷ Submit A ∷ Take 9 A ∷ [])) ≡ codes "aXb\n"
overfull_again = refl

-- a crash: the submission is sent again where its record was lost, and is heard where it was kept
abbrev crash : Bool → List Event
crash kept = Create 1 (codes "ab") ∷ Login 2 A ∷ inserts A 3 1 (codes "X") ∷ Submit A ∷ Stop 5 (Some A) kept ∷ Resume A ∷ Push A ∷ Hear A ∷ Submit A ∷ []

crash_lost : map (λ (msg : Message). msg.base) (first_up ((after (crash false)).actors A)) ≡ 0 ∷ []
crash_lost = refl

crash_kept : map (λ (msg : Message). msg.base) (first_up ((after (crash true)).actors A)) ≡ []
crash_kept = refl

crash_shown : shown (after (crash true)) A ≡ codes "aXb\n"
crash_shown = refl

-- two delete one unit: what is taken second has become nothing, makes no revision, and is told as that
abbrev pending : WorldState → Actor → List ℕ
pending w Nobody = []
pending w (Guest c) = []
pending w (Named m) = number_of m.client.sent
  where
    number_of : Option Submission → List ℕ
    number_of None = []
    number_of (Some s) = m.number ∷ []

abbrev rev_by : Actor → ℕ
rev_by Nobody = 0
rev_by (Guest c) = 0
rev_by (Named m) = m.client.rev

abbrev downs : Actor → List ℕ
downs Nobody = []
downs (Guest c) = []
downs (Named m) = map kind m.conn.down
  where
    kind : Down → ℕ
    kind (Revision v) = 1
    kind (Spent r) = r + 20
    kind (Closing word) = 3

abbrev noted : WorldState → List ℕ
noted w = map (λ (x : Nop). x.rev) (newest w.pad).nops

abbrev carriers : WorldState → List (Option ℕ)
carriers w = map (λ (t : Taken). t.nop) w.taken

abbrev both_delete : List Event
both_delete =
    Create 1 (codes "ab") ∷ Login 2 A ∷ Login 3 B ∷ deletes A 3 0 1 ∷ deletes B 3 0 1 ∷ Submit A ∷ Submit B ∷ Take 8 A ∷ []

abbrev taken_both : List Event
taken_both = both_delete ++ Take 9 B ∷ []

nop_head : head (newest (after taken_both).pad) ≡ 1
nop_head = refl

nop_revision : spelt (after taken_both) 0 ≡ codes "Z:3<1-1$"
unfolding write36
nop_revision = refl

nop_noted : noted (after taken_both) ≡ 1 ∷ []
nop_noted = refl

nop_carriers : carriers (after taken_both) ≡ Some 0 ∷ None ∷ []
nop_carriers = refl

nop_known : (after taken_both).known ≡ 2 ∷ 1 ∷ []
nop_known = refl

nop_pushed : downs ((after (taken_both ++ Push B ∷ Push B ∷ Push B ∷ [])).actors B) ≡ 1 ∷ 21 ∷ []
nop_pushed = refl

nop_kept : pending (after (taken_both ++ Push B ∷ Push B ∷ Hear B ∷ [])) ((after (taken_both ++ Push B ∷ Push B ∷ Hear B ∷ [])).actors B) ≡ 2 ∷ []
nop_kept = refl

abbrev nop_heard : WorldState
nop_heard = after (taken_both ++ Push B ∷ Push B ∷ Hear B ∷ Hear B ∷ [])

nop_heard_known : nop_heard.known ≡ 2 ∷ 2 ∷ 1 ∷ []
nop_heard_known = refl

nop_shown : shown nop_heard B ≡ codes "b\n"
nop_shown = refl

nop_rev : rev_by (nop_heard.actors B) ≡ 1
nop_rev = refl

nop_clean : is_clean (nop_heard.actors B) ≡ true
nop_clean = refl

-- a crash in between: whether what became nothing was recorded or not, it is gone once its client has heard what it was
-- told of, and is not sent again
abbrev nop_crash : Bool → WorldState
nop_crash kept = after (both_delete ++ Stop 9 (Some B) kept ∷ Resume B ∷ Push B ∷ Hear B ∷ Submit B ∷ [])

crash_nops : (map (λ (kept : Bool). noted (nop_crash kept)) (true ∷ false ∷ [])) ≡ (1 ∷ []) ∷ [] ∷ []
crash_nops = refl

crash_head : (kept : Bool) → head (newest (nop_crash kept).pad) ≡ 1
crash_head true = refl
crash_head false = refl

crash_none_sent : (kept : Bool) → first_up ((nop_crash kept).actors B) ≡ []
crash_none_sent true = refl
crash_none_sent false = refl

crash_text : (kept : Bool) → shown (nop_crash kept) B ≡ codes "b\n"
crash_text true = refl
crash_text false = refl

crash_rev : (kept : Bool) → rev_by ((nop_crash kept).actors B) ≡ 1
crash_rev true = refl
crash_rev false = refl

crash_clean : (kept : Bool) → is_clean ((nop_crash kept).actors B) ≡ true
crash_clean true = refl
crash_clean false = refl

-- refusals
abbrev guest : ℕ → Result Change ReadBad → WorldState
guest base read = after (Create 1 (codes "ab") ∷ Visit 2 G false ∷ Inject G base read ∷ [])

no_base : refused (guest 1 (Ok (stamped (splice 3 1 0 (plain (codes "X"))) (codes "ab\n")))) ((guest 1 (Ok (stamped (splice 3 1 0 (plain (codes "X"))) (codes "ab\n")))).actors G) ≡ Some (Refused (NoBase 0))
no_base = refl

-- from another guest with the base that is there it is taken
other_guest : head_text (after (Create 1 (codes "ab") ∷ Visit 2 G false ∷ Inject G 0 (Ok (stamped (splice 3 1 0 (plain (codes "X"))) (codes "ab\n"))) ∷ Take 4 G ∷ [])) ≡ codes "aXb\n"
other_guest = refl

unread : refused (guest 0 (Err (Syntax 0))) ((guest 0 (Err (Syntax 0))).actors G) ≡ Some (Unread (Some (Syntax 0)))
unread = refl

-- the journal is asked last
abbrev without_room : Result Change ReadBad → List ℕ × List (Option Why)
without_room read = let w = run (Overfull G ∷ []) (guest 0 read) in (map (λ (msg : Message). msg.base) (first_up (w.actors G)), ends w)

overfull_unread : without_room (Err (Syntax 0)) ≡ (0 ∷ [], None ∷ [])
overfull_unread = refl

overfull_read : without_room (Ok (stamped (splice 3 1 0 (plain (codes "X"))) (codes "ab\n"))) ≡ ([], Some Left ∷ [])
overfull_read = refl

cuts : refused (after (Create 1 (97 ∷ 55357 ∷ 56832 ∷ []) ∷ Visit 2 G false ∷ Inject G 0 (Ok (stamped (splice 4 2 0 (plain (codes "x"))) (97 ∷ 55357 ∷ 56832 ∷ 10 ∷ []))) ∷ []))
    ((after (Create 1 (97 ∷ 55357 ∷ 56832 ∷ []) ∷ Visit 2 G false ∷ Inject G 0 (Ok (stamped (splice 4 2 0 (plain (codes "x"))) (97 ∷ 55357 ∷ 56832 ∷ 10 ∷ []))) ∷ [])).actors G) ≡ Some (Refused (Fit (CutsPair 2)))
cuts = refl

reader : refused (after (Create 1 (codes "ab") ∷ Visit 2 G true ∷ Inject G 0 (Ok (stamped (splice 3 1 0 (plain (codes "X"))) (codes "ab\n"))) ∷ []))
    ((after (Create 1 (codes "ab") ∷ Visit 2 G true ∷ Inject G 0 (Ok (stamped (splice 3 1 0 (plain (codes "X"))) (codes "ab\n"))) ∷ [])).actors G) ≡ Some (Refused ReadOnly)
reader = refl

no_reader : login_fault (start limits (codes "pad")).pad (grant_of (start limits (codes "pad")) G true) ≡ Some (Denied 4)
no_reader = refl

-- limits
abbrev small : WorldState
small = run (Create 1 (codes "ab") ∷ Login 2 A ∷ inserts A 3 0 (codes "x") ∷ Submit A ∷ []) (start (record { live = 1; logins = 3; units = 3; journal = 0; openings = 0; pads = 1 }) (codes "pad"))

too_long : refused small (small.actors A) ≡ Some (Refused (TooLong 4))
too_long = refl

full : login_fault small.pad (grant_of small B false) ≡ Some (Full 1)
full = refl

same_again : login_fault small.pad (grant_of small A false) ≡ None
same_again = refl

-- ---- the server's text

set_text : spelt (after (Create 1 (codes "ab") ∷ SetText 2 (codes "xy") ∷ [])) 0 ≡ codes "Z:3>0-2+2$xy"
unfolding write36
set_text = refl

set_lines : spelt (after (Create 1 (codes "ab") ∷ SetText 2 (codes "xy\n") ∷ [])) 0 ≡ codes "Z:3>0|1-3|1+3$xy\n"
unfolding write36
set_lines = refl
