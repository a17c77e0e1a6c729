-- What telling a client comes to.
use Rattle.std.specs.Prelude.{ℕ, suc, Bool, false, ◌==◌, if◌then◌else◌, List, [], ◌∷◌, Option, Some, None}
use Rattle.ep_history.specs.declared.rev.Rev.{Rev}
use Rattle.ep_history.specs.declared.seat.Why.{Why}
use Rattle.ep_history.specs.declared.seat.Why.TheVariants.{Replaced, Deleted, Reopened, Left}
use Rattle.ep_units.specs.Text.{Text}
use Rattle.ep_event.specs.declared.shown.Ended.{Ended}
use Rattle.ep_event.specs.declared.shown.Ended.TheVariants as ended
use Rattle.ep_event.specs.declared.shown.Shown.{Shown}
use Rattle.ep_event.specs.declared.shown.Shown.TheVariants as shown
use Rattle.ep_event.specs.declared.shown.Verb.TheVariants as verb
use Rattle.ep_members.specs.declared.telling.Pushed.{Pushed}
use Rattle.ep_members.specs.declared.telling.Pushed.TheVariants as pushed
use Rattle.ep_members.specs.Conns.{KeptConn, kept_tells, kept_tells_spent}

-- what is shown of a push
abbrev pub shows_pushed : Text → Pushed → Shown
shows_pushed n pushed.Nothing = shown.Nothing verb.Push n
shows_pushed n (pushed.Revision r) = shown.Pushed n r
shows_pushed n (pushed.Spent r) = shown.Noted verb.Push n r
shows_pushed n (pushed.Closing word) = shown.Closed verb.Push n word

-- ---- the closing

abbrev pub ended_by : Why → Option Ended
ended_by (Replaced s) = Some ended.UserDup
ended_by (Deleted k) = Some ended.Deleted
ended_by (Reopened k) = None
ended_by Left = None

abbrev pub pushed_by : Option Ended → Pushed
pushed_by None = pushed.Nothing
pushed_by (Some word) = pushed.Closing word

-- ---- what is fetched

-- the next revision
abbrev pub pushed_rev : ℕ → List Rev → Pushed
pushed_rev sent [] = pushed.Nothing
pushed_rev sent (v ∷ vs) = pushed.Revision (suc sent)

abbrev pub told_rev : List Rev → KeptConn → KeptConn
told_rev [] c = c
told_rev (v ∷ vs) c = kept_tells v c

-- whether the first of these is this revision
abbrev pub is_first : List ℕ → ℕ → Bool
is_first [] r = false
is_first (h ∷ hs) r = h == r

-- that an edit became nothing at the last revision sent, and else the next revision
abbrev pub pushed_next : ℕ → List ℕ → List Rev → Pushed
pushed_next sent [] vs = pushed_rev sent vs
pushed_next sent (h ∷ hs) vs = if h == sent then pushed.Spent sent else pushed_rev sent vs

abbrev pub told_next : List ℕ → List Rev → KeptConn → KeptConn
told_next [] vs c = told_rev vs c
told_next (h ∷ hs) vs c = if h == c.sent then kept_tells_spent c else told_rev vs c
