-- The edit of a document that a local edit is.
use Rattle.std.specs.Prelude.{ℕ, ◌+◌, Bool, true, [], ◌∷◌, length, Option}
use Rattle.ep_units.specs.Text.{is_well_formed}
use Rattle.ep_attr.specs.AttrMap.{of_pairs}
use Rattle.ep_cs.specs.Doc.{Doc}
use Rattle.ep_cs.specs.Edit.{Edit}
use Rattle.ep_cs.specs.Plain.{plain}
use Rattle.ep_cs.specs.Splice.{splice}
use Rattle.ep_invert.specs.Paint.{paint}
use Rattle.ep_invert.specs.Refusal.{splice_bad}
use Rattle.ep_invert.specs.declared.bad.SpliceBad.{SpliceBad}
use Rattle.ep_event.specs.declared.event.Local.{Local}
use Rattle.ep_event.specs.declared.event.Local.TheVariants as local

-- the edit of a document that is asked for
abbrev pub local_edit : Local → Doc → Edit
local_edit (local.Insert at text) doc = splice (length doc) at 0 (plain text)
local_edit (local.Delete at units) doc = splice (length doc) at units []
local_edit (local.Format at units key value) doc = paint (length doc) at units (of_pairs ((key, value) ∷ []))

-- where the stretch that it alters ends
abbrev pub local_end : Local → ℕ
local_end (local.Insert at text) = at + 0
local_end (local.Delete at units) = at + units
local_end (local.Format at units key value) = at + units

-- why it is none of a document
abbrev pub local_bad : Local → Doc → Option SpliceBad
local_bad e doc = splice_bad (local_edit e doc) (local_end e) doc

-- no half of a pair stands alone in a text that it inserts
abbrev pub is_local_text : Local → Bool
is_local_text (local.Insert at text) = is_well_formed text
is_local_text (local.Delete at units) = true
is_local_text (local.Format at units key value) = true
