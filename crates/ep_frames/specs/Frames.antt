-- Key frames: which document a revision's record holds, and in which form.
use Rattle.std.specs.Prelude.{◌≡◌, ℕ, suc, ◌+◌, ◌%◌, ◌<◌, ◌==◌, nat_lt, if◌then◌else◌, List, [], ◌∷◌, length, take, sum_by, Option, Some, None}
use Rattle.ep_units.specs.Text.{Text}
use Rattle.ep_units.specs.Utf8.{utf8_of}
use Rattle.ep_attr.specs.AttrMap.{Pair}
use Rattle.ep_cs.specs.Doc.{Doc, text_of}
use Rattle.ep_cs.specs.Edit.{apply}
use Rattle.ep_cs.specs.Change.{Change, change_with}
use Rattle.ep_cs.specs.Made.{after_all}
use Rattle.ep_csread.specs.Spelling.{ops_text, pairs_named}
use Rattle.ep_frames.specs.declared.frame_mark.FrameMark.{FrameMark}
use Rattle.ep_frames.specs.declared.frame_mark.FrameMark.TheVariants as mark

-- ---- which document

-- the last of two that is there
abbrev pub or_before : Option Doc → Option Doc → Option Doc
or_before (Some later) before = Some later
or_before None before = before

-- a document is due at each revision whose number is divisible by the spacing
abbrev pub due_at : ℕ → ℕ → Doc → Option Doc
due_at spacing r doc = if r % spacing == 0 then Some doc else None

-- of these changes of a document one after another, the first of which makes revision r: the document after the last one at which one is due
abbrev pub last_due : ℕ → ℕ → Doc → List Change → Option Doc
last_due spacing r doc [] = None
last_due spacing r doc (c ∷ cs) =
    let after = apply c.edit doc in or_before (last_due spacing (suc r) after cs) (due_at spacing r after)

-- it is the document after one of them whose number is divisible, and no later one's number is
pub record IsLastDue (spacing r : ℕ) (doc : Doc) (cs : List Change) (d : Doc) : Type 0 where
  pub place : ℕ
  pub there : place < length cs
  pub due : (r + place) % spacing ≡ 0
  pub is : d ≡ after_all doc (take (suc place) cs)
  pub last : (i : ℕ) → place < i → i < length cs → (r + i) % spacing ≡ 0 → ⊥

-- ---- in which form

-- the change on no units that inserts a document
abbrev pub frame_change : Doc → Change
frame_change doc = change_with (record { places = []; last = doc }) []

-- how many bytes a text has behind its length, and a pair
abbrev pub text_bytes : Text → ℕ
text_bytes us = 4 + length (utf8_of us)

abbrev pub pair_bytes : Pair → ℕ
pair_bytes p = text_bytes p.0 + text_bytes p.1

-- how many bytes a document has as a frame: its text, its operations, and its pairs with their count
abbrev pub frame_bytes : Doc → ℕ
frame_bytes doc =
    let runs = (frame_change doc).runs in
    let pairs = pairs_named runs in
    text_bytes (text_of doc) + (text_bytes (ops_text pairs runs) + (4 + sum_by pair_bytes pairs))

-- a frame has at most so many
abbrev pub most_frame : ℕ
most_frame = 16777216

-- one of too many bytes is left out
abbrev pub mark_of : Option Doc → FrameMark
mark_of None = mark.None
mark_of (Some doc) = if nat_lt most_frame (frame_bytes doc) then mark.Left else mark.Here (frame_change doc)

-- a record of format 1 holds none
abbrev pub mark_in : ℕ → Option Doc → FrameMark
mark_in format due = if format == 1 then mark.None else mark_of due
