-- What making a local edit comes to.
use Rattle.std.specs.Prelude.{◌≡◌, true, Option, Some, None, Result, Ok, Err}
use Rattle.ep_cs.specs.Change.{Change}
use Rattle.ep_cs.specs.Doc.{Doc}
use Rattle.ep_cs.specs.EditFits.{fits}
use Rattle.ep_cs.specs.Fits.{Fits}
use Rattle.ep_history.specs.Kept.{KeptClient, kept_edited}
use Rattle.ep_invert.specs.declared.bad.SpliceBad.{SpliceBad}
use Rattle.ep_invert.specs.declared.bad.SpliceBad.TheVariants as splice
use Rattle.ep_event.specs.declared.event.Local.{Local}
use Rattle.ep_local.specs.Local.{local_bad, local_edit}

-- a change that makes the edit, and fits; or why the edit is none of the document
abbrev pub IsLocal : Local → Doc → Result Change SpliceBad → Type 0
IsLocal e doc (Ok c) = (local_bad e doc ≡ None) × (c.edit ≡ local_edit e doc) × Fits c doc
IsLocal e doc (Err splice.NoMemory) = Unit {0}
IsLocal e doc (Err why) = local_bad e doc ≡ Some why

-- a client makes the edit of what it sees, which fits that; or why the edit is none, and it is as before
abbrev pub EditsView : Local → KeptClient → KeptClient → Option SpliceBad → Type 0
EditsView e old new None =
    (local_bad e old.view ≡ None) × (fits (local_edit e old.view) old.view ≡ true) × (new ≡ kept_edited (local_edit e old.view) old)
EditsView e old new (Some why) = (local_bad e old.view ≡ Some why) × (new ≡ old)
