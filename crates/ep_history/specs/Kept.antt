-- A client as it is kept: the edits as they are now, and the view.
use Rattle.std.specs.Prelude.{◌≡◌, ℕ, suc, Bool, true, false, not, ◌&&◌, ◌||◌, nat_lt, if◌then◌else◌, length, Option, Some, None}
use Rattle.ep_units.specs.declared.session.Session.{Session}
use Rattle.ep_cs.specs.Doc.{Doc, text_of}
use Rattle.ep_cs.specs.Edit.{Edit, apply, compose, identity}
use Rattle.ep_cs.specs.Change.{stamped}
use Rattle.ep_cs.specs.Fits.{is_identity}
use Rattle.ep_cs.specs.Follow.{follow}
use Rattle.ep_cs.specs.EditFits.{fits}
use Rattle.ep_history.specs.History.{is_session, Birth, doc_at, rebase}
use Rattle.ep_history.specs.Client.{ClientState, submission, view}
use Rattle.ep_history.specs.declared.rev.Rev.{Rev}
use Rattle.ep_history.specs.declared.submission.Submission.{Submission}

-- `doc` is the document of the revision, `sent` the submission as an edit of it, `local` an edit of what that makes
pub record KeptClient : Type 0 where
  pub rev : ℕ
  pub doc : Doc
  pub sent : Edit
  pub local : Edit
  pub view : Doc
  pub sent_in : Option Session
  pub session : Session
  pub connected : Bool
  pub told : ℕ

-- a client that has this document, and has done nothing
abbrev pub kept_started : Doc → ℕ → Session → KeptClient
kept_started doc r s = record {
  rev = r;
  doc = doc;
  sent = identity (length doc);
  local = identity (length doc);
  view = doc;
  sent_in = None;
  session = s;
  connected = true;
  told = 0;
}

-- after an edit of the view
abbrev pub kept_edited : Edit → KeptClient → KeptClient
kept_edited e k = record k { local = compose k.local e; view = apply e k.view }

-- without a submission the local edit is sent; one of an older session is sent again
abbrev pub kept_submitted_from : KeptClient → Option Session → Option KeptClient
kept_submitted_from k None =
    if is_identity k.local then None else Some (record k { sent = k.local; sent_in = Some k.session; local = identity (length k.view) })
kept_submitted_from k (Some s) =
    if is_session s k.session || nat_lt k.rev k.told then None else Some (record k { sent_in = Some k.session })

-- the client after it submits, if it does
abbrev pub kept_submitted : KeptClient → Option KeptClient
kept_submitted k = if k.connected then kept_submitted_from k k.sent_in else None

-- what it sends then
abbrev pub kept_submission : KeptClient → Submission
kept_submission k = record { change = stamped k.sent (text_of k.doc); base = k.rev; session = k.session }

-- it heard its own: the change that came is the submission
abbrev pub kept_own : KeptClient → KeptClient
kept_own k =
    let doc = apply k.sent k.doc in
    record k { rev = suc k.rev; doc = doc; sent = identity (length doc); sent_in = None }

-- it heard another's, which goes before the submission, and behind the client's own text before the local edit
abbrev pub kept_other : Edit → KeptClient → KeptClient
kept_other e k =
    let below = follow false k.sent e in
    record k {
      rev = suc k.rev;
      doc = apply e k.doc;
      sent = follow true e k.sent;
      local = follow false below k.local;
      view = apply (follow true k.local below) k.view;
    }

-- whether a revision of this session is the submission
abbrev pub is_kept_own : Session → Option Session → Bool
is_kept_own s None = false
is_kept_own s (Some t) = is_session s t

-- whether it was sent in another session than this
abbrev pub is_kept_elsewhere : Session → Option Session → Bool
is_kept_elsewhere s None = false
is_kept_elsewhere s (Some t) = not (is_session t s)

-- whether its submission, sent in another session, has become nothing, and it has heard all that it was told of
abbrev pub is_kept_spent : KeptClient → Bool
is_kept_spent k = k.connected && (not (nat_lt k.rev k.told) && (is_kept_elsewhere k.session k.sent_in && is_identity k.sent))

-- its submission, which has become nothing, is gone
abbrev pub kept_nop : KeptClient → KeptClient
kept_nop k = record k { sent_in = None }

-- a submission that is spent is gone
abbrev pub kept_dropped : KeptClient → KeptClient
kept_dropped k = if is_kept_spent k then kept_nop k else k

-- after the next revision
abbrev pub kept_heard : Rev → KeptClient → KeptClient
kept_heard v k = if is_kept_own v.session k.sent_in then kept_own k else kept_dropped (kept_other v.change.edit k)

-- its connection is lost
abbrev pub kept_lost : KeptClient → KeptClient
kept_lost k = record k { connected = false }

-- it is connected again in a newer session, and is told the head
abbrev pub kept_resumed : Session → ℕ → KeptClient → KeptClient
kept_resumed s told k = record k { session = s; connected = true; told = told }

-- it resumes at its revision
abbrev pub kept_resumes : Session → ℕ → KeptClient → KeptClient
kept_resumes s told k = kept_dropped (kept_resumed s told k)

-- ---- what it stands for

-- the session of a submission, where there is one
abbrev pub sent_session : Option Submission → Option Session
sent_session None = None
sent_session (Some s) = Some s.session

-- the kept client stands for the client
pub record Keeps (b : Birth) (c : ClientState) (k : KeptClient) : Type 0 where
  pub rev : k.rev ≡ c.rev
  pub doc : k.doc ≡ doc_at b c.rev
  pub sent : k.sent ≡ submission b c
  pub local : k.local ≡ c.local
  pub view : k.view ≡ view b c
  pub sent_in : k.sent_in ≡ sent_session c.sent
  pub session : k.session ≡ c.session
  pub connected : k.connected ≡ c.connected
  pub told : k.told ≡ c.told

-- the equations of a kept client: each edit fits what is before it, and the view is all three
pub record IsKeptSound (k : KeptClient) : Type 0 where
  pub sent_fits : fits k.sent k.doc ≡ true
  pub local_fits : fits k.local (apply k.sent k.doc) ≡ true
  pub view : k.view ≡ apply k.local (apply k.sent k.doc)
  pub nothing_sent : k.sent_in ≡ None → k.sent ≡ identity (length k.doc)

-- a client that is there is sound
abbrev pub IfKept : Option KeptClient → Type 0
IfKept None = Unit {0}
IfKept (Some k) = IsKeptSound k

-- each step of a kept client keeps the equations
pub record KeepsEquations : Type 0 where
  pub edit : (k : KeptClient) (e : Edit) → IsKeptSound k → fits e k.view ≡ true → IsKeptSound (kept_edited e k)
  pub submit : (k : KeptClient) → IsKeptSound k → IfKept (kept_submitted k)
  pub own : (k : KeptClient) → IsKeptSound k → IsKeptSound (kept_own k) × ((kept_own k).view ≡ k.view)
  pub other : (k : KeptClient) (e : Edit) → IsKeptSound k → fits e k.doc ≡ true → IsKeptSound (kept_other e k)
  pub nop : (k : KeptClient) → IsKeptSound k → is_identity k.sent ≡ true → IsKeptSound (kept_nop k)
  pub dropped : (k : KeptClient) → IsKeptSound k → IsKeptSound (kept_dropped k)

-- an edit that is the identity at one revision is the identity at each later one
abbrev pub IsSpent : Birth → Edit → ℕ → ℕ → Type 0
IsSpent b e base h = rebase b e base h ≡ identity (length (doc_at b h))
