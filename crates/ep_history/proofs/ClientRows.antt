-- Worked steps of a client and of a pad, computed from the definitions.
use Rattle.std.proofs.Common.{◌≡◌, ℕ, false, List, [], ◌∷◌, map, Option, Some, None, refl}
use Rattle.std.specs.Prelude.{codes}
use Rattle.ep_units.specs.Text.{Text}
use Rattle.ep_units.specs.declared.session.Session.{Session}
use Rattle.ep_outside.specs.declared.limits.Limits.{Limits}
use Rattle.ep_attr.specs.AttrMap.{none, insert}
use Rattle.ep_cs.specs.Doc.{text_of}
use Rattle.ep_cs.specs.Edit.{Edit, identity}
use Rattle.ep_cs.specs.Change.{stamped}
use Rattle.ep_cs.specs.Plain.{plain}
use Rattle.ep_cs.specs.Splice.{splice}
use Rattle.ep_history.specs.Accept.{committed, refusal}
use Rattle.ep_history.specs.Client.{ClientState, edited, heard, resumes, started, submitted, view}
use Rattle.ep_history.specs.History.{Birth, By, doc_at, first_rev, head, rebase, rev_by, step_revs}
use Rattle.ep_history.specs.Pad.{PadState, create, newest, with_session}
use Rattle.ep_history.specs.declared.nop.Nop.{Nop}
use Rattle.ep_history.specs.declared.pad_bad.PadBad.TheVariants.{Author, Dead, NoBase}
use Rattle.ep_history.specs.declared.rev.Rev.{Rev}
use Rattle.ep_history.specs.declared.seat.Seat.{Seat}
use Rattle.ep_history.specs.declared.seat.Why.TheVariants.{Replaced, Reopened}
use Rattle.ep_history.specs.declared.submission.Submission.{Submission}

abbrev session : ℕ → Session
session count = record { epoch = 1; count = count }

abbrev by : ℕ → By
by count = record { author = codes "a.A"; session = session count; time = 1 }

abbrev inserts : ℕ → ℕ → Text → Edit
inserts units place text = splice units place 0 (plain text)

-- "ab", then an X at 1 in the first session, then a Y at 0 in the second
abbrev two : Birth
two = record {
  first = first_rev 0 (codes "ab");
  later = rev_by (by 1) (inserts 3 1 (codes "X")) (plain (codes "ab\n")) ∷ (rev_by (by 2) (inserts 4 0 (codes "Y")) (plain (codes "aXb\n")) ∷ []);
  nops = [];
}

two_head : text_of (doc_at two 2) ≡ codes "YaXb\n"
two_head = refl

-- an edit of revision 0 is brought through both
through_both : rebase two (inserts 3 2 (codes "Z")) 0 2 ≡ inserts 5 4 (codes "Z")
through_both = refl

through_none : rebase two (inserts 5 4 (codes "Z")) 2 2 ≡ inserts 5 4 (codes "Z")
through_none = refl

-- a client that sent a Z at 2 in this session, and hears both
abbrev sender : ℕ → Option ClientState
sender count = submitted two (edited (inserts 3 2 (codes "Z")) (started two 0 (session count)))

abbrev hears : List Rev → Option ClientState → Option ClientState
hears vs None = None
hears [] (Some c) = Some c
hears (v ∷ vs) (Some c) = hears vs (Some (heard two v c))

abbrev seen : Option ClientState → Text
seen None = []
seen (Some c) = text_of (view two c)

abbrev waits : Option ClientState → List ℕ
waits None = []
waits (Some c) = sent c.sent
  where
    sent : Option Submission → List ℕ
    sent None = []
    sent (Some s) = s.session.count ∷ []

-- of another session each goes before it
heard_others : seen (hears two.later (sender 3)) ≡ codes "YaXbZ\n"
heard_others = refl

still_waits : waits (hears two.later (sender 3)) ≡ 3 ∷ []
still_waits = refl

-- after a resumption the first that is heard is not its own where another session made it
abbrev back : Option ClientState → Option ClientState
back None = None
back (Some c) = Some (resumes two (session 4) 2 c)

resumed_waits : waits (hears two.later (back (sender 3))) ≡ 3 ∷ []
resumed_waits = refl

-- the revision of its own session is its own
own_commit : waits (hears (rev_by (by 1) (inserts 3 1 (codes "X")) (plain (codes "ab\n")) ∷ []) (submitted two (edited (inserts 3 1 (codes "X")) (started two 0 (session 1))))) ≡ []
own_commit = refl

-- a result with its newline makes one revision, one without makes two
one_revision : map (λ (v : Rev). v.session.count) (step_revs (by 1) (inserts 3 1 (codes "X")) (plain (codes "ab\n"))) ≡ 1 ∷ []
one_revision = refl

two_revisions : map (λ (v : Rev). v.session.count) (step_revs (by 1) (splice 3 1 2 []) (plain (codes "ab\n"))) ≡ 1 ∷ 0 ∷ []
two_revisions = refl

-- ---- a pad

abbrev limits : Limits
limits = record { live = 500; logins = 1000000; units = 1000000; journal = 0; openings = 0; pads = 1 }

abbrev pad : PadState
pad = with_session (create (record { limits = limits; epoch = 1; sessions = []; births = []; present = false; public = false }) 0 (codes "ab")) (codes "a.A") false

-- the same author again: the older session is replaced by the newer
abbrev again : PadState
again = with_session pad (codes "a.A") false

replaced_by : map (λ (l : Seat). l.end) again.sessions ≡ Some (Replaced (session 2)) ∷ (None ∷ [])
replaced_by = refl

-- another author's stays
beside : map (λ (l : Seat). l.end) (with_session pad (codes "a.B") false).sessions ≡ None ∷ (None ∷ [])
beside = refl

old_is_dead : refusal again (session 1) 0 (stamped (inserts 3 1 (codes "X")) (codes "ab\n")) ≡ Some (Dead (Replaced (session 2)))
old_is_dead = refl

never_made : refusal again (session 7) 0 (stamped (inserts 3 1 (codes "X")) (codes "ab\n")) ≡ Some (Dead (Reopened 1))
never_made = refl

no_base : refusal again (session 2) 1 (stamped (inserts 3 1 (codes "X")) (codes "ab\n")) ≡ Some (NoBase 0)
no_base = refl

-- text of another author is refused by its operation, also where it doesn't fit
abbrev signed : Text → Edit
signed author = splice 3 1 0 (record { unit = 88; attrs = insert none (codes "author") author } ∷ [])

other_author : refusal again (session 2) 0 (stamped (signed (codes "a.B")) (codes "ab\n")) ≡ Some (Author 1)
other_author = refl

own_author : refusal again (session 2) 0 (stamped (signed (codes "a.A")) (codes "ab\n")) ≡ None
own_author = refl

-- what has become nothing is noted, and makes no revision
noted : map (λ (x : Nop). x.rev) (newest (committed again (session 2) 5 0 (stamped (identity 3) (codes "ab\n")))).nops ≡ 0 ∷ []
noted = refl

no_revision : head (newest (committed again (session 2) 5 0 (stamped (identity 3) (codes "ab\n")))) ≡ 0
no_revision = refl
