-- What contracts see of a line, and that its texts are whole.
use Rattle.std.specs.Prelude.{ℕ, Some, None}
use Rattle.ep_units.specs.Text.{Text}
use Rattle.ep_event.specs.declared.event.Local.{Local}
use Rattle.ep_event.specs.declared.event.Local.TheVariants as edit
use Rattle.ep_event.specs.declared.event.Event.{Event}
use Rattle.ep_event.specs.declared.event.Event.TheVariants as event
use Rattle.ep_script.specs.Left.{Left, left}
use Rattle.ep_script.specs.Texts.{IsText}
use Rattle.ep_script.specs.declared.line.Line.{Line}
use Rattle.ep_script.specs.declared.line.Line.TheVariants as line

-- a line; but of a stop within the take of a name, that name, the calls before it and what it leaves
pub data Seen : Type 0 where
  whole : Line → Seen
  stopped : Text → ℕ → Left → Seen

abbrev pub seen_event : Event → Seen
seen_event (event.Stop (Some at)) = stopped at.name at.calls (left at.image)
seen_event e = whole (line.Event e)

abbrev pub seen : Line → Seen
seen (line.Event e) = seen_event e
seen l = whole l

-- no half of a pair stands alone in a text of the edit
abbrev pub EditTexts : Local → Type 0
EditTexts (edit.Insert at text) = IsText text
EditTexts (edit.Delete at units) = Unit {0}
EditTexts (edit.Format at units key value) = IsText key × IsText value

-- nor in one of the event
abbrev pub EventTexts : Event → Type 0
EventTexts (event.Create text) = IsText text
EventTexts (event.SetText text) = IsText text
EventTexts event.Delete = Unit {0}
EventTexts (event.Login name) = IsText name
EventTexts (event.Guest name read_only) = IsText name
EventTexts (event.Edit name edit) = IsText name × EditTexts edit
EventTexts (event.Undo name) = IsText name
EventTexts (event.Redo name) = IsText name
EventTexts (event.Submit name) = IsText name
EventTexts (event.Inject name base change) = IsText name
EventTexts (event.Take name) = IsText name
EventTexts (event.Late name) = IsText name
EventTexts (event.Push name) = IsText name
EventTexts (event.Hear name) = IsText name
EventTexts (event.Lose name) = IsText name
EventTexts (event.Resume name) = IsText name
EventTexts (event.Stop None) = Unit {0}
EventTexts (event.Stop (Some at)) = IsText at.name

-- nor in one of the line
abbrev pub AreTexts : Line → Type 0
AreTexts line.Blank = Unit {0}
AreTexts (line.Event e) = EventTexts e
AreTexts (line.Inject name base text) = IsText name × IsText text
AreTexts (line.Attr key value) = IsText key × IsText value
AreTexts (line.Show name) = IsText name
AreTexts line.Head = Unit {0}
AreTexts (line.Text rev) = Unit {0}
AreTexts line.Marks = Unit {0}
AreTexts (line.ViewMarks name) = IsText name
