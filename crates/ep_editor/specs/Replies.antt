-- What an editor answers.
use Rattle.std.specs.Prelude.{ℕ, Bool, Option}
use Rattle.ep_units.specs.Text.{Text}
use Rattle.ep_units.specs.declared.session.Session.{Session}
use Rattle.ep_cs.specs.Doc.{Doc}
use Rattle.ep_cs.specs.Edit.{Edit}
use Rattle.ep_wire_words.specs.declared.client.ClientMsg.{ClientMsg}
use Rattle.ep_wire_words.specs.declared.client.ClientMsg.TheVariants as msgs
use Rattle.ep_wire_words.specs.declared.client.Resume.{Resume}
use Rattle.ep_wire_words.specs.declared.server.Word.{Word}
use Rattle.ep_editor.specs.declared.bad.EditorBad.{EditorBad}
use Rattle.ep_editor.specs.declared.editor.Wanted.{Wanted}

-- what an editor would lose where it is closed: who it is; the revision that it heard last, of which birth, and its document; what was
-- submitted, and in which session; what was not
pub record Work : Type 0 where
  pub author : Text
  pub read_only : Bool
  pub birth : ℕ
  pub rev : ℕ
  pub doc : Doc
  pub sent : Option (Session × Edit)
  pub local : Edit

-- A message is to be sent; the view is to be shown as it is then; both; it has changed so, by its own user or by this author; the
-- server closed; the pad isn't any more the one that was entered, whose name another bears; this is the document of the revision that was wanted; this is to be kept; nothing more; or the request is refused
pub data Reply : Type 0 where
  Sends : ClientMsg → Reply
  Shows : Reply
  Resumes : ClientMsg → Reply
  Paints : Edit → Reply
  Changes : Edit → Text → Reply
  Closes : Word → Reply
  Renewed : Reply
  Past : Doc → Reply
  Keeps : Work → Reply
  Nothing : Reply
  Refuses : EditorBad → Reply

-- a refusal changes nothing
abbrev pub refuses : {S : Type 0} → EditorBad → S → Reply × S
refuses why s = (Refuses why, s)

-- the first message of a connection, by who comes back with what it has
abbrev pub ready : Wanted → Option Resume → ClientMsg
ready wanted resume = msgs.Ready wanted.pad wanted.token wanted.sessions resume
