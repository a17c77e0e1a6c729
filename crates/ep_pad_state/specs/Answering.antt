-- What a call of a pad in memory comes to.
use Rattle.std.specs.Prelude.{◌≡◌, ◌⊎◌, ℕ, ◌+◌, nat_le, length, take, Result, MatchResult}
use Rattle.std.specs.List.{take_while}
use Rattle.ep_units.specs.declared.session.Session.{Session}
use Rattle.ep_history.specs.Pad.{PadState}
use Rattle.ep_history.specs.Readings.{fetch, Welcome as AWelcome, CatchUp as ACatchUp, Fetched as AFetched, Piece as APiece, PadStatus as APadStatus}
use Rattle.ep_history.specs.Entries.{Entry, Answer, Outcome, outcome}
use Rattle.ep_history.specs.Entries.Entry.{Fetch}
use Rattle.ep_history.specs.Entries.Answer.{LoginAnswer, FetchAnswer}
use Rattle.ep_history.specs.Entries.Outcome.{Refuses, Answers, Records}
use Rattle.ep_history.specs.declared.pad_bad.PadBad.{PadBad}
use Rattle.ep_history.specs.declared.pad_bad.PadBad.TheVariants.{NoMemory}
use Rattle.ep_pad_state.specs.declared.answers.Welcome.{Welcome}
use Rattle.ep_pad_state.specs.declared.answers.CatchUp.{CatchUp}
use Rattle.ep_pad_state.specs.declared.answers.Fetched.{Fetched}
use Rattle.ep_pad_state.specs.declared.answers.Piece.{Piece}
use Rattle.ep_pad_state.specs.declared.answers.PadStatus.{PadStatus}
use Rattle.ep_pad_state.specs.declared.change.Ready.{Ready}
use Rattle.ep_pad_state.specs.declared.entering.LoggedIn.{LoggedIn}
use Rattle.ep_pad_state.specs.declared.entering.LoggedIn.TheVariants.{Entered, Makes}
use Rattle.ep_pad_state.specs.declared.pad.Pad.{Pad}
use Rattle.ep_pad_state.specs.Held.{IsPad}
use Rattle.ep_pad_state.specs.Making.{after, change_of, IsReady}

-- ---- answers of a program, as the definitions say them

abbrev pub welcome_of : Welcome → AWelcome
welcome_of w = record { session = w.session; birth = w.birth; rev = w.rev; doc = w.doc; author = w.author; read_only = w.read_only; time = w.time }

abbrev pub catch_up_of : CatchUp → ACatchUp
catch_up_of c = record { session = c.session; head = c.head; birth = c.birth; time = c.time }

abbrev pub fetched_of : Fetched → AFetched
fetched_of f = record { head = f.head; revs = f.revs.items; nops = f.nops.items }

abbrev pub piece_of : Piece → APiece
piece_of x = record { doc = x.doc; revs = x.revs.items; head = x.head }

abbrev pub status_of : PadStatus → APadStatus
status_of s = record { birth = s.birth; head = s.head; edited = s.edited; public = s.public; live = s.live }

-- ---- calls

-- refused as the entry is, unless memory is wanting
abbrev pub IsRefused : Outcome → PadBad → Type 0
IsRefused o bad = (o ≡ Refuses bad) ⊎ (bad ≡ NoMemory)

-- a reading answers what the entry comes to, of each pad that it stands for
abbrev pub Reads : {A : Type 0} → Pad → Entry → (A → Answer) → Result A PadBad → Type 0
Reads k e f r = (p : PadState) → IsPad k p → MatchResult r (λ x. outcome p e ≡ Answers (f x) p) (IsRefused (outcome p e))

-- of what is fetched behind revision `from`, the first n revisions, and of the edits that became nothing those that lie within them
abbrev pub first_of : ℕ → ℕ → AFetched → AFetched
first_of n from f = let revs = take n f.revs in record { head = f.head; revs = revs; nops = take_while (λ h. nat_le h (from + length revs)) f.nops }

-- a fetch gives only the first n revisions of what it comes to
abbrev pub ReadsFirst : Pad → Session → ℕ → ℕ → ℕ → Result Fetched PadBad → Type 0
ReadsFirst k s from told n r =
    (p : PadState) → IsPad k p
    → MatchResult r (λ x. (outcome p (Fetch s from told) ≡ Answers (FetchAnswer (fetch p s from told)) p) × (fetched_of x ≡ first_of n from (fetch p s from told)))
    (IsRefused (outcome p (Fetch s from told)))

-- so does a change that isn't recorded, and then it stands for what became of that pad; refused, for the pad as it was
abbrev pub Changes : {A : Type 0} → Pad → Entry → (A → Answer) → Result A PadBad → Pad → Type 0
Changes k e f r new =
    (p : PadState) → IsPad k p
    → MatchResult r (λ x. (next : PadState) × (outcome p e ≡ Answers (f x) next) × IsPad new next) (λ bad. IsRefused (outcome p e) bad × IsPad new p)

-- a change that is recorded is made ready: the record, the answer and what the pad then becomes. It stands for the same
-- pads still.
abbrev pub Readies : {A : Type 0} → Pad → Entry → (A → Answer) → Result (Ready A) PadBad → Pad → Type 0
Readies k e f r new =
    (p : PadState) → IsPad k p
    → IsPad new p × MatchResult r (λ x. outcome p e ≡ Records x.record (f x.answer) (after (change_of x) p)) (IsRefused (outcome p e))

-- who logs in enters at once, or once the pad that is made is recorded
abbrev pub LogsIn : PadState → Outcome → Pad → LoggedIn → Type 0
LogsIn p o new (Entered w) = (next : PadState) × (o ≡ Answers (LoginAnswer (welcome_of w)) next) × IsPad new next
LogsIn p o new (Makes x) = (o ≡ Records x.record (LoginAnswer (welcome_of x.answer)) (after (change_of x) p)) × IsPad new p

-- what was made ready can be made
abbrev pub IsMade : Pad → LoggedIn → Type 0
IsMade new (Entered w) = Unit {0}
IsMade new (Makes x) = IsReady new (change_of x)
