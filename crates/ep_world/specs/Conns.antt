-- The connection of the rules for which one in code stands.
use Rattle.std.specs.Prelude.{if◌then◌else◌, map, Option, Some, None, Result, Ok, Err}
use Rattle.ep_cs.specs.Change.{Change}
use Rattle.ep_cs.specs.EditFits.{is_edit}
use Rattle.ep_csread.specs.declared.bad.ReadBad.{ReadBad}
use Rattle.ep_csread.specs.declared.bad.ReadBad.TheVariants as read_bad
use Rattle.ep_event.specs.declared.shown.Ended.{Ended}
use Rattle.ep_event.specs.declared.shown.Ended.TheVariants as ended
use Rattle.ep_schedule.specs.World.{Message, Down as ADown, Conn, Word}
use Rattle.ep_schedule.specs.World.Down.{Revision, Spent, Closing}
use Rattle.ep_schedule.specs.World.Word.{BadChangeset, JournalFull, UserDup, PadDeleted}
use Rattle.ep_members.specs.declared.message.Sent.{Sent}
use Rattle.ep_members.specs.declared.message.Down.{Down}
use Rattle.ep_members.specs.declared.message.Down.TheVariants as down
use Rattle.ep_members.specs.Conns.{KeptConn}

-- why a text spells no change; where none is told it would be want of memory
abbrev pub why_unread : Option ReadBad → ReadBad
why_unread None = read_bad.NoMemory
why_unread (Some why) = why

-- a message without its number: an edit, or why its text spells none
abbrev pub change_of : Option ReadBad → Change → Result Change ReadBad
change_of unread c = if is_edit c.edit then Ok c else Err (why_unread unread)

abbrev pub sent_of : Message → Sent
sent_of msg = record { base = msg.base; change = change_of msg.unread msg.change }

abbrev pub word_of : Word → Ended
word_of BadChangeset = ended.BadChangeset
word_of JournalFull = ended.Full
word_of UserDup = ended.UserDup
word_of PadDeleted = ended.Deleted

abbrev pub down_of : ADown → Down
down_of (Revision v) = down.Revision v
down_of (Spent r) = down.Spent r
down_of (Closing word) = down.Closing (word_of word)

abbrev pub conn_of : Conn → KeptConn
conn_of c = record {
  session = c.session;
  up = map sent_of c.up;
  down = map down_of c.down;
  sent = c.sent;
  nops = c.nops;
  closed = c.closed;
}
