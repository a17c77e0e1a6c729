-- One change for two that are made one after the other.
use Rattle.ep_cs.specs.Doc.{Doc, text_of}
use Rattle.ep_cs.specs.Edit.{compose}
use Rattle.ep_cs.specs.Change.{Change, stamped}

-- the change that makes both edits at once, and fits this document
abbrev pub composed : Change → Change → Doc → Change
composed a b doc = stamped (compose a.edit b.edit) (text_of doc)
