-- What the server does to a pad by itself.
use Rattle.std.specs.Prelude.{◌≡◌, ℕ, ◌+◌, ◌-◌, true, false, not, nat_lt, if◌then◌else◌, List, [], ◌∷◌, length, Option}
use Rattle.ep_units.specs.Text.{Text, is_well_formed}
use Rattle.ep_units.specs.Clean.{clean}
use Rattle.ep_cs.specs.Doc.{Doc, text_of}
use Rattle.ep_cs.specs.Edit.{Edit, apply}
use Rattle.ep_cs.specs.Splice.{splice}
use Rattle.ep_cs.specs.Plain.{plain}
use Rattle.ep_cs.specs.EditFits.{fits}
use Rattle.ep_history.specs.History.{by_nobody, head_doc, lacks_newline, step_revs, step_doc}
use Rattle.ep_history.specs.Pad.{PadState, newest, with_revs}
use Rattle.ep_history.specs.declared.pad_bad.PadBad.{PadBad}
use Rattle.ep_history.specs.Refusals.{first_fault, fault_if}
use Rattle.ep_history.specs.declared.pad_bad.PadBad.TheVariants.{Exists, Gone, TooLong}

-- why no birth is made: each reason that is there, in order
abbrev pub create_faults : PadState → Text → List (Option PadBad)
create_faults pad text =
    fault_if pad.present Exists
    ∷ fault_if (nat_lt pad.limits.units (length (clean text) + 1)) (TooLong (length (clean text) + 1))
    ∷ []

-- why no birth is made, if none is
abbrev pub create_fault : PadState → Text → Option PadBad
create_fault pad text = first_fault (create_faults pad text)

-- a text in place of a document, of which the final newline stays where the text has none
abbrev pub set_edit : Text → Doc → Edit
set_edit text doc =
    if lacks_newline (plain text) then splice (length doc) 0 (length doc - 1) (plain text)
    else splice (length doc) 0 (length doc) (plain text)

-- the edit of the last birth's head
abbrev pub set_head : PadState → Text → Edit
set_head pad text = set_edit (clean text) (head_doc (newest pad))

-- the length after the text is set
abbrev pub set_units : PadState → Text → ℕ
set_units pad text = length (step_doc (set_head pad text) (head_doc (newest pad)))

-- why the text is not set: each reason that is there, in order
abbrev pub set_faults : PadState → Text → List (Option PadBad)
set_faults pad text =
    fault_if (not pad.present) Gone
    ∷ fault_if (nat_lt pad.limits.units (set_units pad text)) (TooLong (set_units pad text))
    ∷ []

-- why the text is not set, if it is not
abbrev pub set_fault : PadState → Text → Option PadBad
set_fault pad text = first_fault (set_faults pad text)

-- the text is set
abbrev pub set_text : PadState → ℕ → Text → PadState
set_text pad now text = with_revs pad (step_revs (by_nobody now) (set_head pad text) (head_doc (newest pad)))

-- a deletion and a change of the public status
abbrev pub gone_fault : PadState → Option PadBad
gone_fault pad = fault_if (not pad.present) Gone

-- ---- laws

-- a text that is set fits a document that ends in a newline
abbrev pub TextFits : Type 0
TextFits = (text : Text) (doc : Doc) → is_well_formed text ≡ true → is_well_formed (text_of doc) ≡ true → lacks_newline doc ≡ false → fits (set_edit text doc) doc ≡ true

-- a text stays a text
abbrev pub TextsStay : Type 0
TextsStay = (e : Edit) (doc : Doc) → fits e doc ≡ true → is_well_formed (text_of doc) ≡ true → is_well_formed (text_of (apply e doc)) ≡ true

-- after a step a document ends in a newline
abbrev pub EndsInNewline : Type 0
EndsInNewline = (e : Edit) (doc : Doc) → lacks_newline (step_doc e doc) ≡ false
