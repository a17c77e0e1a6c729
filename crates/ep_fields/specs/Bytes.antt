-- A field of a record as bytes, and which values have bytes.
use Rattle.std.specs.Prelude.{◌≡◌, ℕ, ◌<◌, ◌≤◌, ◌^◌, Bool, true, false, List, [], ◌∷◌, ◌++◌, length, slice_index}
use Rattle.std.specs.Int.{w32, w64, to_be_bytes}
use Rattle.std.specs.List.{AllByRecursion, flat_map}
use Rattle.ep_units.specs.Text.{Text, is_well_formed}
use Rattle.ep_units.specs.Utf8.{utf8_of}
use Rattle.ep_units.specs.declared.session.Session.{Session}
use Rattle.ep_attr.specs.AttrMap.{Pair}
use Rattle.ep_cs.specs.Change.{Change, bank_of}
use Rattle.ep_cs.specs.Spelling.{old_len}
use Rattle.ep_cs.specs.NormalRuns.{IsNormal}
use Rattle.ep_csread.specs.Spelling.{ops_text, pairs_named, printed}

-- a number in eight bytes, a count in four, each with the most significant first
unfoldable pub number : ℕ → List ℕ
number n = to_be_bytes w64 n

unfoldable pub count : ℕ → List ℕ
count n = to_be_bytes w32 n

unfoldable pub session : Session → List ℕ
session s = number s.epoch ++ number s.count

abbrev pub flag : Bool → List ℕ
flag false = 0 ∷ []
flag true = 1 ∷ []

-- how many bytes, and the bytes
abbrev pub counted : List ℕ → List ℕ
counted bytes = count (length bytes) ++ bytes

-- a text in UTF-8
unfoldable pub text : Text → List ℕ
text us = counted (utf8_of us)

-- the key and the value
unfoldable pub pair : Pair → List ℕ
pair p = text p.0 ++ text p.1

-- how many pairs, and each of them
unfoldable pub pool : List Pair → List ℕ
pool ps = count (length ps) ++ flat_map pair ps

-- the pairs that a change names, in the order of their numbers on the wire
abbrev pub wire_pool : Change → List Pair
wire_pool c = pairs_named c.runs

-- its normal spelling with these
abbrev pub wire_text : Change → Text
wire_text c = printed (wire_pool c) c

unfoldable pub change : Change → List ℕ
change c = text (wire_text c) ++ pool (wire_pool c)

-- the attributes of the text that a change on no units inserts, as operations
abbrev pub attribs : Change → Text
attribs c = ops_text (wire_pool c) c.runs

-- the document that a change on no units inserts: its text, its attributes, and its pairs
unfoldable pub frame : Change → List ℕ
frame c = text (bank_of c.edit) ++ (text (attribs c) ++ pool (wire_pool c))

-- a frame has at most so many bytes
abbrev pub most_frame : ℕ
most_frame = 16777216

-- ---- which have bytes

abbrev pub IsNumber : ℕ → Type 0
IsNumber n = n < 2 ^ 64

abbrev pub IsSession : Session → Type 0
IsSession s = IsNumber s.epoch × IsNumber s.count

-- units of 16 bits of which no half stands alone, and few enough
pub record IsText (us : Text) : Type 0 where
  pub units : (i : ℕ) → slice_index us i < 2 ^ 16
  pub whole : is_well_formed us ≡ true
  pub few : length (utf8_of us) < 2 ^ 32

abbrev pub IsPair : Pair → Type 0
IsPair p = IsText p.0 × IsText p.1

pub record IsPool (ps : List Pair) : Type 0 where
  pub few : length ps < 2 ^ 32
  pub texts : AllByRecursion IsPair ps

-- a change, whose spelling and pairs are texts
pub record IsChange (c : Change) : Type 0 where
  pub normal : IsNormal c
  pub spelling : IsText (wire_text c)
  pub pairs : IsPool (wire_pool c)

-- a change on no units, of which the text, the attributes and the pairs are texts
pub record IsInsertion (c : Change) : Type 0 where
  pub normal : IsNormal c
  pub alone : old_len c.edit ≡ 0
  pub text : IsText (bank_of c.edit)
  pub attribs : IsText (attribs c)
  pub pairs : IsPool (wire_pool c)

-- of not too many bytes
pub record IsFrame (c : Change) : Type 0 where
  pub inserts : IsInsertion c
  pub few : length (frame c) ≤ most_frame
