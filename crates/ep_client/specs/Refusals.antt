-- Why a call of a client is refused.
use Rattle.std.specs.Prelude.{◌≡◌, ℕ, suc, ◌-◌, ◌^◌, min, ◌==◌, ◌&&◌, if◌then◌else◌, Option, Some, None, is_some, Result, Ok, Err, IsOkUnless}
use Rattle.ep_units.specs.declared.session.Session.{Session}
use Rattle.ep_cs.specs.Change.{Change}
use Rattle.ep_cs.specs.declared.bad.FitBad.{FitBad}
use Rattle.ep_cs.specs.Fits.{is_identity}
use Rattle.ep_cs.specs.Fitting.{fit_bad}
use Rattle.ep_history.specs.Kept.{KeptClient, is_kept_own}
use Rattle.ep_client.specs.declared.bad.ClientBad.{ClientBad}
use Rattle.ep_client.specs.declared.bad.ClientBad.TheVariants as bad
use Rattle.ep_client.specs.declared.heard.Heard.{Heard}
use Rattle.ep_client.specs.declared.heard.Heard.TheVariants as heard

-- a call is refused by just this reason, and where there is none it fails for want of memory alone
abbrev pub Refuses : {A : Type 0} → Option ClientBad → Result A ClientBad → Type 0
Refuses (Some why) r = r ≡ Err why
Refuses None r = IsOkUnless r bad.NoMemory

-- refused for this reason, where there is one
abbrev pub answered : Option ClientBad → Result (Unit {0}) ClientBad
answered None = Ok tt
answered (Some why) = Err why

-- a change that doesn't fit is refused by the reason
abbrev pub fit_fault : Option FitBad → Option ClientBad
fit_fault None = None
fit_fault (Some why) = Some (bad.Fit why)

-- a revision that isn't the one that is due is refused by both, where the greatest number stands for all above it
abbrev pub order_fault : ℕ → ℕ → Option ClientBad
order_fault due rev = if rev == due then None else Some (bad.OutOfOrder (min due (2 ^ 64 - 1)) rev)

-- the first of two refusals
abbrev pub first_of : Option ClientBad → Option ClientBad → Option ClientBad
first_of None later = later
first_of (Some why) later = Some why

-- a commit comes next, and is of a submission
abbrev pub commit_fault : ℕ → KeptClient → Option ClientBad
commit_fault rev k = first_of (order_fault (suc k.rev) rev) (if is_some k.sent_in then None else Some bad.NotSubmitted)

-- what became nothing comes at the client's revision, and is a submission of this session that alters nothing
abbrev pub nop_fault : ℕ → KeptClient → Option ClientBad
nop_fault rev k =
    first_of (order_fault k.rev rev) (if is_kept_own k.session k.sent_in && is_identity k.sent then None else Some bad.NotSubmitted)

-- a revision comes next, and fits the document unless it is the client's own
abbrev pub rev_fault : ℕ → Change → Session → KeptClient → Option ClientBad
rev_fault rev change session k =
    first_of (order_fault (suc k.rev) rev) (if is_kept_own session k.sent_in then None else fit_fault (fit_bad change k.doc))

-- why what is heard is refused
abbrev pub hear_fault : Heard → KeptClient → Option ClientBad
hear_fault (heard.Commit rev) k = commit_fault rev k
hear_fault (heard.Nop rev) k = nop_fault rev k
hear_fault (heard.Rev rev change session) k = rev_fault rev change session k
