-- A record as bytes, and which records have bytes.
use Rattle.std.specs.Prelude.{◌≡◌, ℕ, ◌<◌, ◌^◌, Bool, true, false, List, [], ◌∷◌, ◌++◌, length, slice_index}
use Rattle.std.specs.Int.{w32, w64, to_be_bytes}
use Rattle.std.specs.List.{AllByRecursion, flat_map}
use Rattle.ep_units.specs.Text.{Text, is_well_formed}
use Rattle.ep_units.specs.Clean.{clean}
use Rattle.ep_units.specs.Utf8.{utf8_of}
use Rattle.ep_units.specs.declared.session.Session.{Session}
use Rattle.ep_attr.specs.AttrMap.{Pair}
use Rattle.ep_cs.specs.Change.{Change}
use Rattle.ep_cs.specs.NormalRuns.{IsNormal}
use Rattle.ep_csread.specs.Spelling.{pairs_named, printed}
use Rattle.ep_history.specs.declared.record.Record.{Record}
use Rattle.ep_history.specs.declared.record.Record.TheVariants.{Open, Create, Rev, Delete, Public, Nop}

-- ---- fields

-- a number in eight bytes, a count in four, each with the most significant first
unfoldable pub number : ℕ → List ℕ
number n = to_be_bytes w64 n

unfoldable pub count : ℕ → List ℕ
count n = to_be_bytes w32 n

unfoldable pub session : Session → List ℕ
session s = number s.epoch ++ number s.count

abbrev pub flag : Bool → List ℕ
flag false = 0 ∷ []
flag true = 1 ∷ []

-- how many bytes, and the bytes
abbrev pub counted : List ℕ → List ℕ
counted bytes = count (length bytes) ++ bytes

-- a text in UTF-8
unfoldable pub text : Text → List ℕ
text us = counted (utf8_of us)

-- the key and the value
unfoldable pub pair : Pair → List ℕ
pair p = text p.0 ++ text p.1

-- how many pairs, and each of them
unfoldable pub pool : List Pair → List ℕ
pool ps = count (length ps) ++ flat_map pair ps

-- the pairs that a change names, in the order of their numbers on the wire
abbrev pub wire_pool : Change → List Pair
wire_pool c = pairs_named c.runs

-- its normal spelling with these
abbrev pub wire_text : Change → Text
wire_text c = printed (wire_pool c) c

unfoldable pub change : Change → List ℕ
change c = text (wire_text c) ++ pool (wire_pool c)

-- ---- records

-- the byte of its kind, and its fields
abbrev pub bytes_of : Record → List ℕ
bytes_of (Open epoch) = 1 ∷ number epoch
bytes_of (Create birth time first) = 2 ∷ (number birth ++ (number time ++ text first))
bytes_of (Rev by time author fixed c) = 3 ∷ (session by ++ (number time ++ (text author ++ (flag fixed ++ change c))))
bytes_of (Delete time) = 4 ∷ number time
bytes_of (Public on) = 5 ∷ flag on
bytes_of (Nop by time) = 6 ∷ (session by ++ number time)

-- ---- which have bytes

abbrev pub IsNumber : ℕ → Type 0
IsNumber n = n < 2 ^ 64

abbrev pub IsSession : Session → Type 0
IsSession s = IsNumber s.epoch × IsNumber s.count

-- units of 16 bits of which no half stands alone, and few enough
pub record IsText (us : Text) : Type 0 where
  pub units : (i : ℕ) → slice_index us i < 2 ^ 16
  pub whole : is_well_formed us ≡ true
  pub few : length (utf8_of us) < 2 ^ 32

abbrev pub IsPair : Pair → Type 0
IsPair p = IsText p.0 × IsText p.1

pub record IsPool (ps : List Pair) : Type 0 where
  pub few : length ps < 2 ^ 32
  pub texts : AllByRecursion IsPair ps

-- a change, whose spelling and pairs are texts
pub record IsChange (c : Change) : Type 0 where
  pub normal : IsNormal c
  pub spelling : IsText (wire_text c)
  pub pairs : IsPool (wire_pool c)

-- numbers of 64 bits, texts and changes; the text of a Create is cleaned
abbrev pub IsRecord : Record → Type 0
IsRecord (Open epoch) = IsNumber epoch
IsRecord (Create birth time first) = IsNumber birth × IsNumber time × IsText first × (clean first ≡ first)
IsRecord (Rev by time author fixed c) = IsSession by × IsNumber time × IsText author × IsChange c
IsRecord (Delete time) = IsNumber time
IsRecord (Public on) = Unit {0}
IsRecord (Nop by time) = IsSession by × IsNumber time

-- the bytes are this record's
pub record IsEncoding (bytes : List ℕ) (r : Record) : Type 0 where
  pub is : IsRecord r
  pub same : bytes ≡ bytes_of r

-- each of these bytes is one of these records', in order
abbrev pub AreEncodings : List (List ℕ) → List Record → Type 0
AreEncodings [] [] = Unit {0}
AreEncodings (bytes ∷ all) (r ∷ rs) = IsEncoding bytes r × AreEncodings all rs
AreEncodings [] (r ∷ rs) = ⊥
AreEncodings (bytes ∷ all) [] = ⊥
