-- Worked steps of a client in code, computed from the definitions.
use Rattle.std.proofs.Common.{◌≡◌, ℕ, Some, refl}
use Rattle.std.specs.Prelude.{codes}
use Rattle.ep_units.specs.declared.session.Session.{Session}
use Rattle.ep_cs.specs.Doc.{text_of}
use Rattle.ep_cs.specs.Change.{Change, stamped}
use Rattle.ep_cs.specs.Fitting.{fit_bad}
use Rattle.ep_cs.specs.Plain.{plain}
use Rattle.ep_cs.specs.Splice.{splice}
use Rattle.ep_cs.specs.declared.bad.FitBad.TheVariants.{OldLen}
use Rattle.ep_history.specs.Kept.{KeptClient, kept_started, kept_edited, kept_submitted, kept_resumes}
use Rattle.ep_history.specs.Lists.{or_else}
use Rattle.ep_client.specs.declared.bad.ClientBad.TheVariants.{OutOfOrder, NotSubmitted, Fit}
use Rattle.ep_client.specs.declared.heard.Heard.{Heard}
use Rattle.ep_client.specs.declared.heard.Heard.TheVariants.{Commit, Nop, Rev}
use Rattle.ep_client.specs.Refusals.{fit_fault, hear_fault}
use Rattle.ep_client.specs.Hearing.{kept_hears}

abbrev session : ℕ → Session
session count = record { epoch = 1; count = count }

-- a client at revision 0, on "ab"
abbrev client : KeptClient
client = kept_started (plain (codes "ab\n")) 0 (session 1)

out_of_order : hear_fault (Commit 2) client ≡ Some (OutOfOrder 1 2)
out_of_order = refl

unsubmitted : hear_fault (Commit 1) client ≡ Some NotSubmitted
unsubmitted = refl

-- a change of four units
abbrev longer : Change
longer = stamped (splice 4 0 0 (plain (codes "x"))) (codes "abc\n")

unfit : fit_fault (fit_bad longer client.view) ≡ Some (Fit (OldLen 3 4))
unfit = refl

-- it inserts a Z at 1 and hears that another session inserted an X there
abbrev typed : KeptClient
typed = kept_edited (splice 3 1 0 (plain (codes "Z"))) client

abbrev made_in : ℕ → Heard
made_in count = Rev 1 (stamped (splice 3 1 0 (plain (codes "X"))) (codes "ab\n")) (session count)

own_text_first : text_of (kept_hears (made_in 2) typed).view ≡ codes "aZXb\n"
own_text_first = refl

-- as it hears it where it had submitted the Z
abbrev submitted : KeptClient
submitted = or_else (kept_submitted typed) client

revision_first : text_of (kept_hears (made_in 2) submitted).view ≡ codes "aXZb\n"
revision_first = refl

-- the revision of its session is its submission
own_revision : text_of (kept_hears (made_in 1) submitted).doc ≡ codes "aZb\n"
own_revision = refl

-- which is no Nop, as it alters something
no_nop : hear_fault (Nop 0) submitted ≡ Some NotSubmitted
no_nop = refl

nop_out_of_order : hear_fault (Nop 0) (kept_hears (made_in 2) submitted) ≡ Some (OutOfOrder 1 0)
nop_out_of_order = refl

-- after a resumption the submission stays, and the first revision that is heard is not its own
still_sent : (kept_hears (made_in 2) (kept_resumes (session 4) 2 submitted)).sent_in ≡ Some (session 1)
still_sent = refl
