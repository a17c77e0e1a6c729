-- Which end a refusal brings, and what comes of an end.
use Rattle.std.specs.Prelude.{Bool, true, false, not, if◌then◌else◌, Option, Some, None}
use Rattle.ep_units.specs.declared.grant.Grant.{Grant}
use Rattle.ep_dir_records.specs.declared.dir_bad.DirBad.{DirBad}
use Rattle.ep_dir_records.specs.declared.dir_bad.DirBad.TheVariants as dir
use Rattle.ep_history.specs.Refusals.{is_other, makes_none}
use Rattle.ep_history.specs.declared.pad_bad.PadBad.{PadBad}
use Rattle.ep_history.specs.declared.pad_bad.PadBad.TheVariants as bad
use Rattle.ep_history.specs.declared.seat.Why.{Why}
use Rattle.ep_history.specs.declared.seat.Why.TheVariants as why
use Rattle.ep_wire_words.specs.declared.bad.WireBad.{WireBad}
use Rattle.ep_wire_words.specs.declared.bad.WireBad.TheVariants as wire
use Rattle.ep_wire_words.specs.declared.client.Resume.{Resume}
use Rattle.ep_wire_words.specs.declared.server.Word.{Word}
use Rattle.ep_wire_words.specs.declared.server.Word.TheVariants as word
use Rattle.ep_pad.specs.declared.pass_bad.PassBad.{PassBad}
use Rattle.ep_pad.specs.declared.pass_bad.PassBad.TheVariants as pass
use Rattle.ep_session.specs.declared.end.BadKind.{BadKind}
use Rattle.ep_session.specs.declared.end.BadKind.TheVariants as kind
use Rattle.ep_session.specs.declared.end.End.{End}
use Rattle.ep_session.specs.declared.end.End.TheVariants as ends

-- of a session that is no longer live; one that another caller has ended by leaving it counts as a refused edit
abbrev pub end_of_dead : Why → End
end_of_dead (why.Replaced by) = ends.Replaced by
end_of_dead (why.Deleted birth) = ends.Deleted birth
end_of_dead (why.Reopened epoch) = ends.Reopened epoch
end_of_dead why.Left = ends.Bad (kind.Edit (bad.Dead why.Left))

-- the end that a refusal of the pad brings, whichever call it refuses
abbrev pub end_of : PadBad → End
end_of (bad.Dead w) = end_of_dead w
end_of (bad.Denied rule) = ends.Denied rule
end_of (bad.Full n) = ends.Full n
end_of bad.Gone = ends.Gone
end_of (bad.BadRev head) = ends.BadRev head
end_of (bad.JournalFull bytes) = ends.JournalFull bytes
end_of (bad.Store count) = ends.StoreFault count
end_of bad.Foreign = ends.Broken bad.Foreign
end_of (bad.BadRecord i) = ends.Broken (bad.BadRecord i)
end_of bad.NoMemory = ends.NoMemory
end_of b = ends.Bad (kind.Edit b)

-- the end that a message brings which isn't read
abbrev pub end_of_wire : WireBad → End
end_of_wire wire.NoMemory = ends.NoMemory
end_of_wire b = ends.Bad (kind.Wire b)

-- the end that a refusal of the directory brings
abbrev pub end_of_dir : DirBad → End
end_of_dir (dir.Keeper count) = ends.KeeperFault count
end_of_dir dir.IdsSpent = ends.IdsSpent
end_of_dir (dir.Denied rule) = ends.Denied rule
end_of_dir (dir.Kept key) = ends.Kept key
end_of_dir dir.NoMemory = ends.NoMemory
end_of_dir b = ends.Directory b

-- who comes makes an absent pad: by a login, but to a group's pad or by its read-only id
abbrev pub may_make : Grant → Option Resume → Bool
may_make grant None = not (makes_none grant)
may_make grant (Some again) = false

-- why the others are refused where nobody has made the pad
abbrev pub absent_fault : Grant → Option Resume → PadBad
absent_fault grant None = bad.Denied 4
absent_fault grant (Some again) = if is_other grant.author again.author then bad.Denied 7 else bad.Gone

-- the end that a refused pass brings
abbrev pub end_of_pass : Grant → Option Resume → PassBad → End
end_of_pass grant resume (pass.Pads n) = ends.Pads n
end_of_pass grant resume (pass.Shelf count) = ends.ShelfFault count
end_of_pass grant resume pass.Absent = end_of (absent_fault grant resume)
end_of_pass grant resume pass.NoMemory = ends.NoMemory

-- what the closing says, where it has one
abbrev pub closing_of_bad : BadKind → Word
closing_of_bad (kind.Edit (bad.NoRev head)) = word.BadMessage
closing_of_bad (kind.Edit b) = word.BadChangeset
closing_of_bad (kind.Wire (wire.Pool b)) = word.BadChangeset
closing_of_bad (kind.Wire (wire.Changeset b)) = word.BadChangeset
closing_of_bad k = word.BadMessage

abbrev pub closing_of : End → Option Word
closing_of ends.Closed = None
closing_of (ends.LinkFault n) = None
closing_of ends.NoMemory = None
closing_of (ends.Replaced by) = Some word.UserDup
closing_of (ends.Deleted birth) = Some word.Deleted
closing_of ends.Gone = Some word.Deleted
closing_of (ends.Bad k) = Some (closing_of_bad k)
closing_of (ends.BadRev head) = Some word.BadMessage
closing_of (ends.Denied rule) = Some word.Deny
closing_of (ends.Full n) = Some word.Full
closing_of (ends.Pads n) = Some word.Full
closing_of ends.IdsSpent = Some word.Full
closing_of (ends.JournalFull bytes) = Some word.Full
closing_of e = Some word.Store

-- the session is no longer there, or its pad is closed
abbrev pub is_gone : End → Bool
is_gone (ends.Replaced by) = true
is_gone (ends.Deleted birth) = true
is_gone (ends.Reopened epoch) = true
is_gone (ends.StoreFault count) = true
is_gone (ends.Broken b) = true
is_gone (ends.Bad (kind.Edit (bad.Dead w))) = true
is_gone e = false

-- a session that ended so is left
abbrev pub is_left : End → Bool
is_left ends.Closed = true
is_left (ends.Bad k) = true
is_left (ends.JournalFull bytes) = true
is_left (ends.LinkFault n) = true
is_left ends.NoMemory = true
is_left e = false

-- a session is left that came to the first and at last ended as the second, where its closing could not be sent
abbrev pub leaves : End → End → Bool
leaves e last = if is_gone e then false else is_left last
