-- What an editor does to its client, by the client rules.
use Rattle.std.specs.Prelude.{◌≡◌, ℕ, true, false, List, [], ◌∷◌, ◌++◌, Option, Some, None, IfSome}
use Rattle.ep_units.specs.Text.{Text, is_well_formed}
use Rattle.ep_units.specs.declared.session.Session.{Session}
use Rattle.ep_cs.specs.Doc.{Doc}
use Rattle.ep_cs.specs.Edit.{Edit, apply}
use Rattle.ep_cs.specs.EditFits.{fits}
use Rattle.ep_cs.specs.Fits.{Fits}
use Rattle.ep_cs.specs.NormalRuns.{IsNormal}
use Rattle.ep_cs.specs.Change.{Change}
use Rattle.ep_history.specs.Kept.{KeptClient, kept_edited, kept_lost, kept_resumes, kept_submitted}
use Rattle.ep_history.specs.Lists.{or_else}
use Rattle.ep_client.specs.Hearing.{kept_hears}
use Rattle.ep_client.specs.Refusals.{hear_fault}
use Rattle.ep_client.specs.declared.heard.Heard.{Heard}
use Rattle.ep_wire_words.specs.declared.client.ClientMsg.{ClientMsg}
use Rattle.ep_wire_words.specs.declared.client.ClientMsg.TheVariants as msgs
use Rattle.ep_undo.specs.Undo.{top}
use Rattle.ep_editor.specs.Inside.{kept_of, own_map, put_edit, user_changes}
use Rattle.ep_editor.specs.Replies.{Reply, Sends, Paints, Changes, Nothing}
use Rattle.ep_editor.specs.Requests.{Request, answer}
use Rattle.ep_editor.specs.Requests as request
use Rattle.ep_editor.specs.declared.editor.Editor.{Editor}
use Rattle.ep_editor.specs.declared.editor.Editor.TheVariants.{Inside}
use Rattle.ep_editor.specs.declared.entered.Entered.{Entered}

-- a step of a client
pub data Step : Type 0 where
  Edits : Edit → Step
  Hears : Heard → Step
  Submits : Step
  Loses : Step
  Resumes : Session → ℕ → Step

-- a client may take it: an edit fits its view; it hears while it is connected, what it doesn't refuse; it resumes while it isn't
abbrev pub MayTake : Step → KeptClient → Type 0
MayTake (Edits e) k = fits e k.view ≡ true
MayTake (Hears h) k = (k.connected ≡ true) × (hear_fault h k ≡ None)
MayTake Submits k = Unit {0}
MayTake Loses k = Unit {0}
MayTake (Resumes session head) k = k.connected ≡ false

-- the client after it
abbrev pub taken : Step → KeptClient → KeptClient
taken (Edits e) k = kept_edited e k
taken (Hears h) k = kept_hears h k
taken Submits k = or_else (kept_submitted k) k
taken Loses k = kept_lost k
taken (Resumes session head) k = kept_resumes session head k

-- what it sends of it
abbrev pub message_of : Option KeptClient → List ClientMsg
message_of None = []
message_of (Some sent) = user_changes sent ∷ []

abbrev pub sent_by : Step → KeptClient → List ClientMsg
sent_by Submits k = message_of (kept_submitted k)
sent_by s k = []

-- one step after the other
abbrev pub MayTakeAll : List Step → KeptClient → Type 0
MayTakeAll [] k = Unit {0}
MayTakeAll (s ∷ ss) k = MayTake s k × MayTakeAll ss (taken s k)

abbrev pub all_taken : List Step → KeptClient → KeptClient
all_taken [] k = k
all_taken (s ∷ ss) k = all_taken ss (taken s k)

abbrev pub all_sent : List Step → KeptClient → List ClientMsg
all_sent [] k = []
all_sent (s ∷ ss) k = sent_by s k ++ all_sent ss (taken s k)

-- the edits that a reply sends
abbrev pub edits_in : ClientMsg → List ClientMsg
edits_in (msgs.Edit base change) = msgs.Edit base change ∷ []
edits_in m = []

abbrev pub edits_sent : Reply → List ClientMsg
edits_sent (Sends m) = edits_in m
edits_sent r = []

-- this holds of the pad, inside of one
abbrev pub IfInside : Editor → (Entered → Type 0) → Type 0
IfInside (Inside p) P = P p
IfInside s P = Unit {0}

-- it is asked of the pad that is entered: where one is entered with what was kept, another client begins
abbrev pub IsOfPad : Request → Type 0
IsOfPad (request.EntersAgain wanted k) = ⊥
IsOfPad r = Unit {0}

-- an edit is that of a change which fits a document
abbrev pub IsOfChange : Doc → Edit → Type 0
IsOfChange doc e = (c : Change) × (c.edit ≡ e) × IsNormal c × Fits c doc

-- what is taken back, or made again, fits the view
abbrev pub IsRemaking : Request → Entered → Type 0
IsRemaking request.Undoes p = IfSome (top p.client.undos) (IsOfChange (kept_of p).view)
IsRemaking request.Redoes p = IfSome (top p.client.redos) (IsOfChange (kept_of p).view)
IsRemaking r p = Unit {0}

-- and the text that is put is one
abbrev pub IsFitting : Request → Entered → Type 0
IsFitting (request.Edits at drop put with_) p = is_well_formed put ≡ true
IsFitting r p = IsRemaking r p

-- the client takes only steps of the rules, and what is sent of edits is what these submit
pub record KeepsRules (r : Request) (p : Entered) : Type 0 where
  pub steps : List Step
  pub may : MayTakeAll steps (kept_of p)
  pub client : IfInside (answer r (Inside p)).1 (λ q. kept_of q ≡ all_taken steps (kept_of p))
  pub sent : edits_sent (answer r (Inside p)).0 ≡ all_sent steps (kept_of p)

-- ---- what is shown

-- what a reply changes of what is shown
abbrev pub shown_by : Reply → Doc → Doc
shown_by (Paints e) doc = apply e doc
shown_by (Changes e by) doc = apply e doc
shown_by r doc = doc

-- and before it an edit of the author's own, if it isn't refused
abbrev pub shown_after : Text → Request → Reply → Doc → Doc
shown_after author (request.Edits at drop put with_) Nothing doc = apply (put_edit at drop put (own_map author with_) doc) doc
shown_after author r reply doc = shown_by reply doc

-- ---- what isn't lost

-- what was submitted, what was not, and the view
abbrev pub IsSameWork : KeptClient → KeptClient → Type 0
IsSameWork a b = (a.rev ≡ b.rev) × (a.doc ≡ b.doc) × (a.sent_in ≡ b.sent_in) × (a.sent ≡ b.sent) × (a.local ≡ b.local) × (a.view ≡ b.view)

-- of the connection, or of what is kept or was there before, alone
abbrev pub IsOfConnection : Request → Type 0
IsOfConnection request.Loses = Unit {0}
IsOfConnection request.Returns = Unit {0}
IsOfConnection request.Keeps = Unit {0}
IsOfConnection (request.Slides to) = Unit {0}
IsOfConnection r = ⊥
