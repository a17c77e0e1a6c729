-- What one session was told in a history, and that all of it is of one birth of the pad.
use Rattle.std.specs.Prelude.{◌≡◌, ℕ, suc, ◌+◌, ◌≤◌, true, false, List, [], ◌∷◌, length, take, drop, Some, Ok}
use Rattle.std.specs.List.{All}
use Rattle.ep_units.specs.declared.session.Session.{Session}
use Rattle.ep_cs.specs.Change.{Change}
use Rattle.ep_history.specs.Lists.{Among, at}
use Rattle.ep_history.specs.History.{Birth, doc_at, head, nobody, rebase}
use Rattle.ep_history.specs.Readings.{CatchUp, Committed, Fetched, Piece, Welcome, fetch_size, nop_heads}
use Rattle.ep_history.specs.Entries.{Entry, Reply}
use Rattle.ep_history.specs.Entries.Answer.{CommitAnswer, FetchAnswer, HistoryAnswer, LoginAnswer, ResumeAnswer}
use Rattle.ep_history.specs.Entries.Entry.{Accept, Fetch, Login, ReadHistory, Resume}
use Rattle.ep_history.specs.Machine.{Call}
use Rattle.ep_history.specs.declared.rev.Rev.{Rev}

-- ---- one answer

-- a fetch behind revision `from` gave the revisions of this birth behind it as far as the birth went then, at most 64.
-- Of the session's edits that became nothing it told the next ones behind the first `told`, and none that did so later
-- than at the last revision that it gave.
pub record IsFetched (b : Birth) (me : Session) (from told : ℕ) (x : Fetched) : Type 0 where
  pub within : x.head ≤ head b
  pub start : from ≤ x.head
  pub revs : x.revs ≡ take fetch_size (drop from (take x.head b.later))
  pub nops : x.nops ≡ take (length x.nops) (drop told (nop_heads me b))
  pub far : All (λ h. h ≤ from + length x.revs) x.nops

-- a piece of the history is of this birth as far as it went then: the document of a revision, and so many revisions
-- behind it
pub record IsPiece (b : Birth) (start count : ℕ) (x : Piece) : Type 0 where
  pub within : x.head ≤ head b
  pub begins : start ≤ x.head
  pub doc : x.doc ≡ doc_at b start
  pub revs : x.revs ≡ take count (drop start (take x.head b.later))

-- a login entered this birth, and told the document of its head then
pub record IsWelcome (k : ℕ) (b : Birth) (w : Welcome) : Type 0 where
  pub birth : w.birth ≡ k
  pub within : w.rev ≤ head b
  pub doc : w.doc ≡ doc_at b w.rev

-- a resumption at a revision came back to this birth, and told its head then
pub record IsCatchUp (k : ℕ) (b : Birth) (rev : ℕ) (w : CatchUp) : Type 0 where
  pub birth : w.birth ≡ k
  pub within : w.head ≤ head b
  pub start : rev ≤ w.head

-- an edit of a base made a revision of this birth: the session's own, with the change that was told, which is the edit
-- brought through the revisions behind its base. Where `fixed` was told, nobody's revision stands behind it.
pub record IsRevision (b : Birth) (me : Session) (base : ℕ) (c : Change) (w : Committed) : Type 0 where
  pub before : ℕ
  pub made : Rev
  pub number : w.rev ≡ suc before
  pub known : base ≤ before
  pub there : at b.later before ≡ Some made
  pub own : made.session ≡ me
  pub told : made.change ≡ w.change
  pub rebased : w.change.edit ≡ rebase b c.edit base before
  pub newline : w.fixed ≡ true → (v : Rev) × (at b.later (suc before) ≡ Some v) × (v.session ≡ nobody)

-- an edit of a base, brought through the revisions up to the one that was told, had become nothing: it is one of the
-- session's edits in this birth that did so there
pub record IsNothing (b : Birth) (me : Session) (base : ℕ) (c : Change) (w : Committed) : Type 0 where
  pub within : w.rev ≤ head b
  pub known : base ≤ w.rev
  pub noted : Among w.rev (nop_heads me b)
  pub rebased : w.change.edit ≡ rebase b c.edit base w.rev

-- an edit was committed in this birth as it was told: as a revision, or as one that had become nothing
pub record IsCommitted (b : Birth) (me : Session) (base : ℕ) (c : Change) (w : Committed) : Type 0 where
  pub revision : w.nop ≡ false → IsRevision b me base c w
  pub nothing : w.nop ≡ true → IsNothing b me base c w

-- ---- a history

-- what a call told this session is of this birth, which has this number
abbrev pub IsTold : ℕ → Birth → Session → Entry → Reply → Type 0
IsTold k b me (Login g now) (Ok (LoginAnswer w)) = w.session ≡ me → IsWelcome k b w
IsTold k b me (Resume g rev birth author now) (Ok (ResumeAnswer w)) = w.session ≡ me → IsCatchUp k b rev w
IsTold k b me (Accept s base c now) (Ok (CommitAnswer w)) = s ≡ me → IsCommitted b me base c w
IsTold k b me (Fetch s from told) (Ok (FetchAnswer x)) = s ≡ me → IsFetched b me from told x
IsTold k b me (ReadHistory s start count) (Ok (HistoryAnswer x)) = s ≡ me → IsPiece b start count x
IsTold k b me e reply = Unit {0}

-- all that these calls told this session is of this birth
abbrev pub AreTold : ℕ → Birth → Session → List Call → Type 0
AreTold k b me [] = Unit {0}
AreTold k b me (c ∷ cs) = IsTold k b me c.entry c.reply × AreTold k b me cs
