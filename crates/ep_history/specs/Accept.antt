-- Taking an edit: why a pad refuses it, and what it makes of it.
use Rattle.std.specs.Prelude.{ℕ, ◌+◌, Bool, true, false, ◌||◌, nat_lt, if◌then◌else◌, List, [], ◌∷◌, length, Option, Some, None, codes}
use Rattle.ep_units.specs.Text.{Text, text_eq}
use Rattle.ep_units.specs.declared.session.Session.{Session}
use Rattle.ep_attr.specs.AttrMap.{AttrMap, get}
use Rattle.ep_cs.specs.Edit.{Edit}
use Rattle.ep_cs.specs.Change.{Change}
use Rattle.ep_cs.specs.Fits.{is_identity}
use Rattle.ep_cs.specs.declared.op.Op.{Op}
use Rattle.ep_cs.specs.declared.bad.FitBad.{FitBad}
use Rattle.ep_cs.specs.Fitting.{fit_bad}
use Rattle.ep_history.specs.Lists.{or_else}
use Rattle.ep_history.specs.History.{By, nop_by, head, doc_at, head_doc, rebase, step_revs, step_doc}
use Rattle.ep_history.specs.Pad.{PadState, newest, seat_of, with_revs, with_nops}
use Rattle.ep_history.specs.declared.seat.Why.TheVariants.{Reopened}
use Rattle.ep_history.specs.declared.pad_bad.PadBad.{PadBad}
use Rattle.ep_history.specs.Refusals.{first_fault, fault_if}
use Rattle.ep_history.specs.declared.pad_bad.PadBad.TheVariants.{Dead, ReadOnly, NoBase, Author, Fit, TooLong}
use Rattle.ep_history.specs.declared.seat.Seat.{Seat}
use Rattle.ep_history.specs.declared.seat.Why.{Why}

-- ---- the author rule

-- a text without units
abbrev pub is_nothing : Text → Bool
is_nothing [] = true
is_nothing (u ∷ us) = false

-- a map names this author, or none
abbrev pub names_author : Text → AttrMap → Bool
names_author author m = let value = or_else (get m (codes "author")) [] in is_nothing value || text_eq value author

-- the first run, counted from i, that names another author
abbrev pub first_other : Text → ℕ → List Op → Option ℕ
first_other author i [] = None
first_other author i (o ∷ os) = if names_author author o.attrs then first_other author (i + 1) os else Some i

-- ---- refusals

-- a run that names another author is refused by its place
abbrev pub author_fault : Option ℕ → Option PadBad
author_fault None = None
author_fault (Some i) = Some (Author i)

-- a change that doesn't fit is refused by the reason
abbrev pub fit_fault : Option FitBad → Option PadBad
fit_fault None = None
fit_fault (Some why) = Some (Fit why)

-- the length of the head after an edit of a base, with its newline
abbrev pub units_after : PadState → ℕ → Edit → ℕ
units_after pad base e = let b = newest pad in length (step_doc (rebase b e base (head b)) (head_doc b))

-- why an edit of a live session is refused: each reason that is there, in the order in which they count
abbrev pub edit_faults : PadState → Seat → ℕ → Change → List (Option PadBad)
edit_faults pad l base c =
    let b = newest pad in
    fault_if l.read_only ReadOnly
    ∷ fault_if (nat_lt (head b) base) (NoBase (head b))
    ∷ author_fault (first_other l.author 0 c.runs)
    ∷ fit_fault (fit_bad c (doc_at b base))
    ∷ fault_if (nat_lt pad.limits.units (units_after pad base c.edit)) (TooLong (units_after pad base c.edit))
    ∷ []

-- a session that ended is asked nothing more
abbrev pub live_fault : PadState → Seat → Option Why → ℕ → Change → Option PadBad
live_fault pad l (Some why) base c = Some (Dead why)
live_fault pad l None base c = first_fault (edit_faults pad l base c)

-- a session that this opening did not make is of an older one
abbrev pub seat_fault : PadState → Option Seat → ℕ → Change → Option PadBad
seat_fault pad None base c = Some (Dead (Reopened pad.epoch))
seat_fault pad (Some l) base c = live_fault pad l l.end base c

-- why an edit of a session on a base is refused, if it is
abbrev pub refusal : PadState → Session → ℕ → Change → Option PadBad
refusal pad s base c = seat_fault pad (seat_of pad s) base c

-- ---- what is made

-- the author of a session, empty where there is none
abbrev pub seat_author : Option Seat → Text
seat_author None = []
seat_author (Some l) = l.author

-- what this session does now
abbrev pub by_session : PadState → Session → ℕ → By
by_session pad s now = record { author = seat_author (seat_of pad s); session = s; time = now }

-- an edit of a base, brought to the head
abbrev pub at_head : PadState → ℕ → Edit → Edit
at_head pad base e = rebase (newest pad) e base (head (newest pad))

-- the pad after this edit of its head: one that alters nothing is noted, any other makes a revision, and the newline's
-- behind it where the result lacks one
abbrev pub made_at_head : PadState → By → Edit → PadState
made_at_head pad by e =
    if is_identity e then with_nops pad (nop_by by (head (newest pad)) ∷ []) else with_revs pad (step_revs by e (head_doc (newest pad)))

-- the pad after an edit of a session on a base
abbrev pub committed : PadState → Session → ℕ → ℕ → Change → PadState
committed pad s now base c = made_at_head pad (by_session pad s now) (at_head pad base c.edit)
