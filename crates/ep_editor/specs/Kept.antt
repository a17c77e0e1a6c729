-- What is kept of an editor.
use Rattle.std.specs.Prelude.{true, Option, option_map}
use Rattle.ep_units.specs.declared.session.Session.{Session}
use Rattle.ep_cs.specs.Change.{Change}
use Rattle.ep_cs.specs.Edit.{Edit}
use Rattle.ep_history.specs.Kept.{KeptClient}
use Rattle.ep_client.specs.Restored.{kept_restored, restore_fault}
use Rattle.ep_client.specs.declared.bad.ClientBad.{ClientBad}
use Rattle.ep_undo.specs.Undo.{undo_started}
use Rattle.ep_timeslider.specs.Steps.{slider_at}
use Rattle.ep_editor.specs.Replies.{Reply, Keeps, Work}
use Rattle.ep_editor.specs.declared.editor.Wanted.{Wanted}
use Rattle.ep_editor.specs.declared.entered.Entered.{Entered}
use Rattle.ep_editor.specs.declared.kept.Kept.{Kept}

-- what a client submitted, and in which session
abbrev pub sent_of : KeptClient → Option (Session × Edit)
sent_of k = option_map (λ (s : Session). (s, k.sent)) k.sent_in

-- the work of an editor inside of a pad
abbrev pub work : Entered → Work
work p = record {
  author = p.author;
  read_only = p.read_only;
  birth = p.birth;
  rev = p.client.client.rev;
  doc = p.client.client.doc;
  sent = sent_of p.client.client;
  local = p.client.client.local;
}

-- the same, kept
abbrev pub work_in : Kept → Work
work_in k = record {
  author = k.author;
  read_only = k.read_only;
  birth = k.birth;
  rev = k.rev;
  doc = k.doc;
  sent = option_map (λ (s : Session × Change). (s.0, s.1.edit)) k.sent;
  local = k.local.edit;
}

abbrev pub keeps : Entered → Reply × Entered
keeps p = (Keeps (work p), p)

-- no session, until it is connected
abbrev pub no_session : Session
no_session = record { epoch = 0; count = 0 }

-- what was kept goes on as after a lost connection; the message that resumes is sent
abbrev pub goes_on : Wanted → Kept → Entered
goes_on wanted k = record {
  wanted = wanted;
  author = k.author;
  read_only = k.read_only;
  birth = k.birth;
  client = undo_started (kept_restored k.doc k.rev no_session k.sent k.local);
  returning = true;
  slider = slider_at k.rev k.doc;
}

-- what was submitted, or was not, doesn't fit
abbrev pub kept_fault : Kept → Option ClientBad
kept_fault k = restore_fault k.doc k.sent k.local
