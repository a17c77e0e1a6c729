-- A client of what was kept of one.
use Rattle.std.specs.Prelude.{ℕ, false, length, Option, Some, None}
use Rattle.ep_units.specs.declared.session.Session.{Session}
use Rattle.ep_cs.specs.Change.{Change}
use Rattle.ep_cs.specs.Doc.{Doc}
use Rattle.ep_cs.specs.Edit.{Edit, apply, identity}
use Rattle.ep_cs.specs.Fitting.{fit_bad}
use Rattle.ep_history.specs.Kept.{KeptClient}
use Rattle.ep_client.specs.Refusals.{first_of, fit_fault}
use Rattle.ep_client.specs.declared.bad.ClientBad.{ClientBad}

-- a submission as an edit of the document, and its session
abbrev pub sent_edit : Doc → Option (Session × Change) → Edit
sent_edit doc None = identity (length doc)
sent_edit doc (Some s) = s.1.edit

abbrev pub sent_session : Option (Session × Change) → Option Session
sent_session None = None
sent_session (Some s) = Some s.0

-- it isn't connected, and was told no head
abbrev pub kept_restored : Doc → ℕ → Session → Option (Session × Change) → Change → KeptClient
kept_restored doc rev session sent local = record {
  rev = rev;
  doc = doc;
  sent = sent_edit doc sent;
  local = local.edit;
  view = apply local.edit (apply (sent_edit doc sent) doc);
  sent_in = sent_session sent;
  session = session;
  connected = false;
  told = 0;
}

-- the submission doesn't fit the document
abbrev pub sent_fault : Doc → Option (Session × Change) → Option ClientBad
sent_fault doc None = None
sent_fault doc (Some s) = fit_fault (fit_bad s.1 doc)

-- or the rest doesn't fit what that makes
abbrev pub restore_fault : Doc → Option (Session × Change) → Change → Option ClientBad
restore_fault doc sent local = first_of (sent_fault doc sent) (fit_fault (fit_bad local (apply (sent_edit doc sent) doc)))
