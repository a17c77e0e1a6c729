-- The fetches of one session in a history, and what they must answer.
use Rattle.std.specs.Prelude.{◌≡◌, ℕ, ◌+◌, ◌≤◌, true, if◌then◌else◌, List, [], ◌∷◌, ◌++◌, length, take, drop, Option, Some, None, Ok, is_ok, is_some}
use Rattle.ep_units.specs.declared.session.Session.{Session}
use Rattle.ep_history.specs.History.{is_session, Birth}
use Rattle.ep_history.specs.Readings.{nop_heads}
use Rattle.ep_history.specs.Entries.{Entry, Reply}
use Rattle.ep_history.specs.Entries.Entry.{Fetch}
use Rattle.ep_history.specs.Entries.Answer.{FetchAnswer}
use Rattle.ep_history.specs.Machine.{Call}
use Rattle.ep_history.specs.declared.rev.Rev.{Rev}

-- the revision behind which an entry fetches, if it is this session's fetch
abbrev pub fetch_start : Session → Entry → Option ℕ
fetch_start s (Fetch t from told) = if is_session t s then Some from else None
fetch_start s e = None

-- the revisions that a fetch was answered
abbrev pub fetched_revs : Reply → List Rev
fetched_revs (Ok (FetchAnswer x)) = x.revs
fetched_revs reply = []

-- the revisions that a call gave this session
abbrev pub given : Session → Call → List Rev
given s c = if is_some (fetch_start s c.entry) then fetched_revs c.reply else []

-- the revisions that a session's fetches were answered, in order
abbrev pub all_given : Session → List Call → List Rev
all_given s [] = []
all_given s (c ∷ cs) = given s c ++ all_given s cs

-- each fetch of a session that was answered goes on where the last one ended, the first one behind this revision
abbrev pub GoOn : Session → ℕ → List Call → Type 0
GoOn s at [] = Unit {0}
GoOn s at (c ∷ cs) =
    ((from : ℕ) → fetch_start s c.entry ≡ Some from → is_ok c.reply ≡ true → from ≡ at) × GoOn s (at + length (given s c)) cs

-- of how many of its edits that became nothing an entry says that they were told, if it is this session's fetch
abbrev pub fetch_told : Session → Entry → Option ℕ
fetch_told s (Fetch t from told) = if is_session t s then Some told else None
fetch_told s e = None

-- the heads of edits that became nothing that a fetch was answered
abbrev pub fetched_nops : Reply → List ℕ
fetched_nops (Ok (FetchAnswer x)) = x.nops
fetched_nops reply = []

-- those that a call told this session
abbrev pub told_nops : Session → Call → List ℕ
told_nops s c = if is_some (fetch_told s c.entry) then fetched_nops c.reply else []

-- those that a session's fetches told it, in order
abbrev pub all_told : Session → List Call → List ℕ
all_told s [] = []
all_told s (c ∷ cs) = told_nops s c ++ all_told s cs

-- each fetch of a session that was answered knows of those that were told before
abbrev pub TellOn : Session → ℕ → List Call → Type 0
TellOn s at [] = Unit {0}
TellOn s at (c ∷ cs) =
    ((told : ℕ) → fetch_told s c.entry ≡ Some told → is_ok c.reply ≡ true → told ≡ at) × TellOn s (at + length (told_nops s c)) cs

-- these are the elements of a list from a place on, as far as they go
abbrev pub IsPart : {A : Type 0} → List A → ℕ → List A → Type 0
IsPart xs i ys = (i + length ys ≤ length xs) × (ys ≡ take (length ys) (drop i xs))

-- the revisions of a birth behind this one
abbrev pub AreBehind : Birth → ℕ → List Rev → Type 0
AreBehind b r vs = IsPart b.later r vs

-- the heads at which a session's first edits that became nothing did
abbrev pub AreNops : Session → Birth → List ℕ → Type 0
AreNops s b ns = IsPart (nop_heads s b) 0 ns
