-- What an edit makes of the head of a birth.
use Rattle.std.specs.Prelude.{Option, Some, None, if◌then◌else◌, length}
use Rattle.ep_cs.specs.Doc.{Doc, text_of}
use Rattle.ep_cs.specs.Edit.{Edit, apply}
use Rattle.ep_cs.specs.Change.{stamped}
use Rattle.ep_history.specs.History.{lacks_newline, newline_edit}
use Rattle.ep_step.specs.declared.step.Made.{Made}
use Rattle.ep_step.specs.declared.step.Step.{Step}

-- an edit's change of a document, and the document after it
abbrev pub made_of : Edit → Doc → Made
made_of e doc = record { change = stamped e (text_of doc); doc = apply e doc }

-- the newline's, where a document lacks it
abbrev pub newline_of : Doc → Option Made
newline_of doc = if lacks_newline doc then Some (made_of (newline_edit (length doc)) doc) else None

-- the edit's, and the newline's where the result lacks it
abbrev pub step_of : Edit → Doc → Step
step_of e head = record { edit = made_of e head; newline = newline_of (apply e head) }
