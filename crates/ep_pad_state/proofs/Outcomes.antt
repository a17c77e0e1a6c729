-- What an entry comes to, by what code asks.
use Rattle.std.proofs.Common.{◌≡◌, ℕ, suc, ◌<◌, ◌≤◌, Bool, true, false, not, [], ◌∷◌, length, Option, Some, None, refl, sym, ap, ◌∙◌, subst, T, arith}
use Rattle.std.specs.Prelude.{nat_lt}
use Rattle.std.proofs.lemmas.Bool.Decides.{nat_tests}
use Rattle.ep_units.specs.Text.{Text}
use Rattle.ep_units.specs.declared.session.Session.{Session}
use Rattle.ep_units.specs.declared.grant.Grant.{Grant}
use Rattle.ep_cs.specs.Change.{Change}
use Rattle.ep_history.specs.History.{head}
use Rattle.ep_history.specs.Pad.{PadState, newest, seat_of}
use Rattle.ep_history.specs.Lists.{or_else}
use Rattle.ep_history.specs.Refusals.{first_fault, fault_if, login_fault, resume_fault}
use Rattle.ep_history.specs.Accept.{refusal, edit_faults}
use Rattle.ep_history.specs.Server.{gone_fault, create_fault, set_fault}
use Rattle.ep_history.specs.Readings.{dead_fault, dead_if, end_of, text, history, fetch, status}
use Rattle.ep_history.specs.Entries.{Outcome, outcome, unless}
use Rattle.ep_history.specs.Entries.Entry.{Fetch, ReadText, ReadHistory, ReadStatus}
use Rattle.ep_history.specs.Entries.Answer.{FetchAnswer, TextAnswer, HistoryAnswer, StatusAnswer}
use Rattle.ep_history.specs.Entries.Outcome.{Refuses, Answers}
use Rattle.ep_history.specs.declared.seat.Seat.{Seat}
use Rattle.ep_history.specs.declared.pad_bad.PadBad.{PadBad}
use Rattle.ep_history.specs.declared.pad_bad.PadBad.TheVariants.{Gone, NoRev, BadRev, Exists}
use Rattle.ep_history.proofs.Refused.{less-not, none-of, not-if}
use Rattle.ep_attr.proofs.SameMap.{first_true}
use Rattle.std.specs.Prelude.{if◌then◌else◌, ◌&&◌}
use Rattle.ep_history.specs.History.{By}
use Rattle.ep_history.specs.Pad.{with_session, create, delete, set_public, leave}
use Rattle.ep_history.specs.Accept.{seat_fault, live_fault, seat_author, at_head, made_at_head}
use Rattle.ep_history.specs.Server.{set_head, set_text}
use Rattle.ep_history.specs.Refusals.{resume_faults, is_birth}
use Rattle.ep_history.specs.Readings.{Committed, commit, revised, welcome, catch_up}
use Rattle.ep_history.specs.Records.{edit_record, create_record, set_record}
use Rattle.ep_history.specs.Entries.Entry.{Login, Resume, Accept, Leave, Create, SetText, Delete, SetPublic}
use Rattle.ep_history.specs.Entries.Answer.{LoginAnswer, ResumeAnswer, CommitAnswer, BirthAnswer, Done}
use Rattle.ep_history.specs.Entries.Outcome.{Records}
use Rattle.ep_history.specs.declared.record.Record.{Record}
use Rattle.ep_history.specs.declared.record.Record.TheVariants as record_of

-- ---- faults

pub is-less : (a b : ℕ) → a < b → nat_lt a b ≡ true
is-less a b h = go (nat_lt a b) refl
  where
    go : (t : Bool) → nat_lt a b ≡ t → nat_lt a b ≡ true
    go true e = e
    go false e = absurd (grind (arith, nat_tests))

pub there : (p : PadState) → p.present ≡ true → gone_fault p ≡ None
there p t = ap (λ b. fault_if (not b) Gone) t

pub gone : (p : PadState) → p.present ≡ false → gone_fault p ≡ Some Gone
gone p f = ap (λ b. fault_if (not b) Gone) f

pub below : (a b : ℕ) (bad : PadBad) → b ≤ a → fault_if (nat_lt a b) bad ≡ None
below a b bad h = ap (λ t. fault_if t bad) (less-not a b h)

pub above : (a b : ℕ) (bad : PadBad) → a < b → fault_if (nat_lt a b) bad ≡ Some bad
above a b bad h = ap (λ t. fault_if t bad) (is-less a b h)

-- the first of two faults, and the second
first : (f g : Option PadBad) (bad : PadBad) → f ≡ Some bad → first_fault (f ∷ g ∷ []) ≡ Some bad
first f g bad e = ap (λ x. first_fault (x ∷ g ∷ [])) e

second : (f g : Option PadBad) (bad : PadBad) → f ≡ None → g ≡ Some bad → first_fault (f ∷ g ∷ []) ≡ Some bad
second f g bad n e = ap (λ x. first_fault (x ∷ g ∷ [])) n ∙ ap (λ x. first_fault (x ∷ [])) e

neither : (f g : Option PadBad) → f ≡ None → g ≡ None → first_fault (f ∷ g ∷ []) ≡ None
neither f g n m = ap (λ x. first_fault (x ∷ g ∷ [])) n ∙ ap (λ x. first_fault (x ∷ [])) m

refused : (f : Option PadBad) (o : Outcome) (bad : PadBad) → f ≡ Some bad → unless f o ≡ Refuses bad
refused f o bad e = ap (λ x. unless x o) e

taken : (f : Option PadBad) (o : Outcome) → f ≡ None → unless f o ≡ o
taken f o e = ap (λ x. unless x o) e

-- ---- sessions

-- a session with this live seat is refused nothing for its end
pub live-seat : (p : PadState) (s : Session) (l : Seat) → seat_of p s ≡ Some l → l.end ≡ None → dead_fault p s ≡ None
live-seat p s l f e = ap (λ o. dead_if (end_of p.epoch o)) f ∙ ap dead_if e

-- ---- readings

pub text-gone : (p : PadState) (rev : Option ℕ) → p.present ≡ false → outcome p (ReadText rev) ≡ Refuses Gone
text-gone p rev f = refused _ _ Gone (first (gone_fault p) _ Gone (gone p f))

pub text-above : (p : PadState) (rev : Option ℕ) → p.present ≡ true → head (newest p) < or_else rev (head (newest p)) → outcome p (ReadText rev) ≡ Refuses (NoRev (head (newest p)))
text-above p rev t h = refused _ _ _ (second (gone_fault p) _ _ (there p t) (above _ _ _ h))

pub text-told : (p : PadState) (rev : Option ℕ) → p.present ≡ true → or_else rev (head (newest p)) ≤ head (newest p) → outcome p (ReadText rev) ≡ Answers (TextAnswer (text p rev)) p
text-told p rev t h = taken _ _ (neither (gone_fault p) _ (there p t) (below _ _ _ h))

pub history-dead : (p : PadState) (s : Session) (start count : ℕ) (bad : PadBad) → dead_fault p s ≡ Some bad → outcome p (ReadHistory s start count) ≡ Refuses bad
history-dead p s start count bad d = refused _ _ bad (first (dead_fault p s) _ bad d)

pub history-above : (p : PadState) (s : Session) (start count : ℕ) → dead_fault p s ≡ None → head (newest p) < start → outcome p (ReadHistory s start count) ≡ Refuses (NoRev (head (newest p)))
history-above p s start count d h = refused _ _ _ (second (dead_fault p s) _ _ d (above _ _ _ h))

pub history-told : (p : PadState) (s : Session) (start count : ℕ) → dead_fault p s ≡ None → start ≤ head (newest p) → outcome p (ReadHistory s start count) ≡ Answers (HistoryAnswer (history p start count)) p
history-told p s start count d h = taken _ _ (neither (dead_fault p s) _ d (below _ _ _ h))

pub fetch-dead : (p : PadState) (s : Session) (from told : ℕ) (bad : PadBad) → dead_fault p s ≡ Some bad → outcome p (Fetch s from told) ≡ Refuses bad
fetch-dead p s from told bad d = refused _ _ bad (first (dead_fault p s) _ bad d)

pub fetch-above : (p : PadState) (s : Session) (from told : ℕ) → dead_fault p s ≡ None → head (newest p) < from → outcome p (Fetch s from told) ≡ Refuses (BadRev (head (newest p)))
fetch-above p s from told d h = refused _ _ _ (second (dead_fault p s) _ _ d (above _ _ _ h))

pub fetch-told : (p : PadState) (s : Session) (from told : ℕ) → dead_fault p s ≡ None → from ≤ head (newest p) → outcome p (Fetch s from told) ≡ Answers (FetchAnswer (fetch p s from told)) p
fetch-told p s from told d h = taken _ _ (neither (dead_fault p s) _ d (below _ _ _ h))

pub status-gone : (p : PadState) → p.present ≡ false → outcome p ReadStatus ≡ Refuses Gone
status-gone p f = refused _ _ Gone (gone p f)

pub status-told : (p : PadState) → p.present ≡ true → outcome p ReadStatus ≡ Answers (StatusAnswer (status p)) p
status-told p t = taken _ _ (there p t)

-- ---- calls that are recorded

-- an edit of a live session is refused as the list of its faults says
pub seat-refusal : (p : PadState) (s : Session) (base : ℕ) (c : Change) (l : Seat) → seat_of p s ≡ Some l → l.end ≡ None → refusal p s base c ≡ first_fault (edit_faults p l base c)
seat-refusal p s base c l f e = ap (λ o. seat_fault p o base c) f ∙ ap (λ o. live_fault p l o base c) e

pub accept-refused : (p : PadState) (s : Session) (base : ℕ) (c : Change) (now : ℕ) (bad : PadBad) → refusal p s base c ≡ Some bad → outcome p (Accept s base c now) ≡ Refuses bad
accept-refused p s base c now bad e = refused _ _ bad e

pub accept-taken : (p : PadState) (s : Session) (base : ℕ) (c : Change) (now : ℕ) (l : Seat) (by : By) (r : Record) (x : Committed) (next : PadState)
    → seat_of p s ≡ Some l → refusal p s base c ≡ None → by ≡ record { author = l.author; session = s; time = now }
    → r ≡ edit_record p by (at_head p base c.edit) → x ≡ commit p (at_head p base c.edit) → next ≡ made_at_head p by (at_head p base c.edit)
    → outcome p (Accept s base c now) ≡ Records r (CommitAnswer x) next
accept-taken p s base c now l by r x next f n b er ex en =
    taken _ _ n ∙ (λ i. whole (whose i)) ∙ sym (λ i. Records (er i) (CommitAnswer (ex i)) (en i))
  where
    whole : By → Outcome
    whole by = Records (edit_record p by (at_head p base c.edit)) (CommitAnswer (commit p (at_head p base c.edit))) (made_at_head p by (at_head p base c.edit))

    whose : record { author = seat_author (seat_of p s); session = s; time = now } ≡ by
    whose = ap (λ o. record { author = seat_author o; session = s; time = now }) f ∙ sym b

pub create-exists : (p : PadState) (text : Text) (now : ℕ) → p.present ≡ true → outcome p (Create text now) ≡ Refuses Exists
create-exists p text now t = refused _ _ Exists (first (fault_if p.present Exists) _ Exists (ap (λ b. fault_if b Exists) t))

pub create-refused : (p : PadState) (text : Text) (now : ℕ) (bad : PadBad) → create_fault p text ≡ Some bad → outcome p (Create text now) ≡ Refuses bad
create-refused p text now bad e = refused _ _ bad e

pub create-taken : (p : PadState) (text : Text) (now : ℕ) (r : Record) (n : ℕ) → create_fault p text ≡ None → r ≡ create_record p now text → n ≡ suc (length p.births)
    → outcome p (Create text now) ≡ Records r (BirthAnswer n) (create p now text)
create-taken p text now r n e er en = taken _ _ e ∙ sym (λ i. Records (er i) (BirthAnswer (en i)) (create p now text))

pub set-gone : (p : PadState) (text : Text) (now : ℕ) → p.present ≡ false → outcome p (SetText text now) ≡ Refuses Gone
set-gone p text now f = refused _ _ Gone (first (gone_fault p) _ Gone (gone p f))

pub set-refused : (p : PadState) (text : Text) (now : ℕ) (bad : PadBad) → set_fault p text ≡ Some bad → outcome p (SetText text now) ≡ Refuses bad
set-refused p text now bad e = refused _ _ bad e

pub set-taken : (p : PadState) (text : Text) (now : ℕ) (r : Record) (x : Committed) (next : PadState) → set_fault p text ≡ None
    → r ≡ set_record p now text → x ≡ revised p (set_head p text) → next ≡ set_text p now text → outcome p (SetText text now) ≡ Records r (CommitAnswer x) next
set-taken p text now r x next e er ex en = taken _ _ e ∙ sym (λ i. Records (er i) (CommitAnswer (ex i)) (en i))

pub delete-gone : (p : PadState) (now : ℕ) → p.present ≡ false → outcome p (Delete now) ≡ Refuses Gone
delete-gone p now f = refused _ _ Gone (gone p f)

pub delete-taken : (p : PadState) (now : ℕ) → p.present ≡ true → outcome p (Delete now) ≡ Records (record_of.Delete now) Done (delete p)
delete-taken p now t = taken _ _ (there p t)

pub public-gone : (p : PadState) (on : Bool) → p.present ≡ false → outcome p (SetPublic on) ≡ Refuses Gone
public-gone p on f = refused _ _ Gone (gone p f)

pub public-taken : (p : PadState) (on : Bool) → p.present ≡ true → outcome p (SetPublic on) ≡ Records (record_of.Public on) Done (set_public p on)
public-taken p on t = taken _ _ (there p t)

-- ---- who enters and leaves

pub login-refused : (p : PadState) (g : Grant) (now : ℕ) (bad : PadBad) → login_fault p g ≡ Some bad → outcome p (Login g now) ≡ Refuses bad
login-refused p g now bad e = refused _ _ bad e

-- what comes of a login, where `b` says that the pad is there
logged : PadState → Grant → ℕ → Bool → Outcome
logged p g now b =
    let there = if b then p else create p now [] in
    let answer = LoginAnswer (welcome there g) in
    let next = with_session there g.author g.read_only in
    if b then Answers answer next else Records (create_record p now []) answer next

pub login-entered : (p : PadState) (g : Grant) (now : ℕ) → login_fault p g ≡ None → p.present ≡ true → outcome p (Login g now) ≡ Answers (LoginAnswer (welcome p g)) (with_session p g.author g.read_only)
unfolding logged
login-entered p g now e t = taken _ _ e ∙ ap (logged p g now) t

pub login-made : (p : PadState) (g : Grant) (now : ℕ) → login_fault p g ≡ None → p.present ≡ false
    → outcome p (Login g now) ≡ Records (create_record p now []) (LoginAnswer (welcome (create p now []) g)) (with_session (create p now []) g.author g.read_only)
unfolding logged
login-made p g now e f = taken _ _ e ∙ ap (logged p g now) f

pub resume-refused : (p : PadState) (g : Grant) (rev : ℕ) (birth : Option ℕ) (author : Option Text) (now : ℕ) (bad : PadBad) → resume_fault p g rev birth author ≡ Some bad → outcome p (Resume g rev birth author now) ≡ Refuses bad
resume-refused p g rev birth author now bad e = refused _ _ bad e

pub resume-entered : (p : PadState) (g : Grant) (rev : ℕ) (birth : Option ℕ) (author : Option Text) (now : ℕ) → resume_fault p g rev birth author ≡ None
    → outcome p (Resume g rev birth author now) ≡ Answers (ResumeAnswer (catch_up p)) (with_session p g.author g.read_only)
resume-entered p g rev birth author now e = taken _ _ e

-- who resumes finds the pad there
pub resume-there : (p : PadState) (g : Grant) (rev : ℕ) (birth : Option ℕ) (author : Option Text) → resume_fault p g rev birth author ≡ None → p.present ≡ true
resume-there p g rev birth author e =
    let n = none-of (resume_faults p g rev birth author) e in
    first_true p.present (is_birth (length p.births) birth) (back (p.present && is_birth (length p.births) birth) (not-if (not (p.present && is_birth (length p.births) birth)) Gone n.1.1.1.1.0))
  where
    back : (b : Bool) → not b ≡ false → b ≡ true
    back true e = refl
    back false e = absurd (subst T e tt)

pub leave-dead : (p : PadState) (s : Session) (bad : PadBad) → dead_fault p s ≡ Some bad → outcome p (Leave s) ≡ Refuses bad
leave-dead p s bad d = refused _ _ bad d

pub leave-left : (p : PadState) (s : Session) → dead_fault p s ≡ None → outcome p (Leave s) ≡ Answers Done (leave p s)
leave-left p s d = taken _ _ d
