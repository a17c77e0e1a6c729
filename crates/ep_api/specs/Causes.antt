-- Which refusal of a request each refusal of the directory, of a pad and of a pass is.
use Rattle.std.specs.Prelude.{Result, Ok, Err}
use Rattle.ep_dir_records.specs.declared.dir_bad.DirBad.{DirBad}
use Rattle.ep_dir_records.specs.declared.dir_bad.DirBad.TheVariants as dir
use Rattle.ep_history.specs.declared.pad_bad.PadBad.{PadBad}
use Rattle.ep_history.specs.declared.pad_bad.PadBad.TheVariants as pad
use Rattle.ep_pad.specs.declared.pass_bad.PassBad.{PassBad}
use Rattle.ep_pad.specs.declared.pass_bad.PassBad.TheVariants as pass
use Rattle.ep_ask.specs.declared.bad.ApiBad.{ApiBad}
use Rattle.ep_ask.specs.declared.bad.ApiBad.TheVariants as bad
use Rattle.ep_ask.specs.declared.param.Param.{Param}
use Rattle.ep_ask.specs.declared.param.Param.TheVariants as param

abbrev pub of_dir : DirBad → ApiBad
of_dir dir.NoGroup = bad.Unknown param.GroupId
of_dir dir.NoAuthor = bad.Unknown param.AuthorId
of_dir dir.NoSession = bad.Unknown param.SessionId
of_dir (dir.Past now) = bad.Past
of_dir dir.BadName = bad.NotValid param.PadName
of_dir (dir.Keeper count) = bad.KeeperFailed
of_dir dir.IdsSpent = bad.IdsSpent
-- a grant alone is denied, and no function asks for one
of_dir (dir.Denied rule) = bad.NotValid param.PadId
of_dir (dir.Kept key) = bad.KeptBroken
of_dir dir.NoMemory = bad.NoMemory

-- a pad that exists already is told by the parameter that names it
abbrev pub of_pad : Param → PadBad → ApiBad
of_pad which pad.Exists = bad.Exists which
of_pad which (pad.NoRev head) = bad.HighRev
of_pad which (pad.TooLong units) = bad.TooLong
of_pad which (pad.JournalFull bytes) = bad.JournalFull
of_pad which (pad.Store count) = bad.StoreFailed
of_pad which pad.Foreign = bad.JournalBroken
of_pad which (pad.BadRecord at) = bad.JournalBroken
of_pad which pad.NoMemory = bad.NoMemory
-- `Gone`; the others answer calls of sessions, and no function makes one
of_pad which _ = bad.Unknown param.PadId

abbrev pub of_pass : PassBad → ApiBad
of_pass (pass.Pads n) = bad.Pads
of_pass (pass.Shelf count) = bad.StoreFailed
of_pass pass.Absent = bad.Unknown param.PadId
of_pass pass.NoMemory = bad.NoMemory

-- an answer, with the cause of its refusal
abbrev pub with_cause : {A E : Type 0} → (E → ApiBad) → Result A E → Result A ApiBad
with_cause cause (Ok x) = Ok x
with_cause cause (Err why) = Err (cause why)
