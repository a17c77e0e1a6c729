-- Why a stretch of a document isn't changed.
use Rattle.std.specs.Prelude.{ℕ, nat_lt, length, if◌then◌else◌, Option, Some, None, Result, Ok, Err}
use Rattle.ep_cs.specs.Doc.{Doc, text_of}
use Rattle.ep_cs.specs.Edit.{Edit}
use Rattle.ep_cs.specs.Fitting.{first_cut}
use Rattle.ep_invert.specs.declared.bad.SpliceBad.{SpliceBad}
use Rattle.ep_invert.specs.declared.bad.SpliceBad.TheVariants.{Place, CutsPair, NoMemory}

abbrev pub cut_bad : Option ℕ → Option SpliceBad
cut_bad None = None
cut_bad (Some low) = Some (CutsPair low)

-- why an edit of a stretch that ends at a place isn't made: the stretch goes past the end, or else the edit cuts a pair, by the place of its second half
abbrev pub splice_bad : Edit → ℕ → Doc → Option SpliceBad
splice_bad e end doc = if nat_lt (length doc) end then Some Place else cut_bad (first_cut 0 e.places (text_of doc))

-- what a cause says, of which want of memory says nothing
abbrev pub cause : SpliceBad → Option SpliceBad
cause NoMemory = None
cause Place = Some Place
cause (CutsPair low) = Some (CutsPair low)

-- the refusal of an answer, if it isn't for want of memory
abbrev pub refusal : {A : Type 0} → Result A SpliceBad → Option SpliceBad
refusal (Ok x) = None
refusal (Err why) = cause why
