-- A field read from the front of bytes. Other bytes than its own may be read as it too.
use Rattle.std.specs.Prelude.{◌≡◌, ℕ, zero, suc, Bool, List, [], ◌∷◌, length, take, drop, Option, Some, None, Result, Ok, Err, nat_lt, ◌==◌, if◌then◌else◌}
use Rattle.std.specs.Int.{w32, w64, from_be_bytes}
use Rattle.std.specs.Str.{is_utf8}
use Rattle.ep_units.specs.Text.{Text}
use Rattle.ep_units.specs.Utf8.{units_of}
use Rattle.ep_units.specs.declared.session.Session.{Session}
use Rattle.ep_attr.specs.AttrMap.{Pair}
use Rattle.ep_pool.specs.Pool.{put}
use Rattle.ep_cs.specs.Change.{Change}
use Rattle.ep_csread.specs.Reading.{reading, reading_attribs}
use Rattle.ep_csread.specs.declared.bad.ReadBad.{ReadBad}
use Rattle.ep_fields.specs.declared.fault.Fault.{Fault}
use Rattle.ep_fields.specs.declared.fault.Fault.TheVariants.{Memory, NoRecord}

infixl 10 ◌>>=◌
abbrev pub ◌>>=◌ : {A B : Type 0} → Option A → (A → Option B) → Option B
(Some x) >>= f = f x
None >>= f = None

-- what a call returned, seen by a view, is what reading gives, unless memory ran out
abbrev pub Fails : {Y : Type 0} → Fault → Option Y → Type 0
Fails Memory read = Unit {0}
Fails NoRecord read = read ≡ None

abbrev pub Gives : {X Y : Type 0} → (X → Y) → Result X Fault → Option Y → Type 0
Gives view (Ok x) read = read ≡ Some (view x)
Gives view (Err e) read = Fails e read

-- ---- a field is a value and the bytes after it

unfoldable pub number_at : List ℕ → Option (ℕ × List ℕ)
number_at bytes = if nat_lt (length bytes) 8 then None else Some (from_be_bytes w64 (take 8 bytes), drop 8 bytes)

unfoldable pub count_at : List ℕ → Option (ℕ × List ℕ)
count_at bytes = if nat_lt (length bytes) 4 then None else Some (from_be_bytes w32 (take 4 bytes), drop 4 bytes)

unfoldable pub session_at : List ℕ → Option (Session × List ℕ)
session_at bytes = do
  epoch ← number_at bytes
  count ← number_at epoch.1
  Some (record { epoch = epoch.0; count = count.0 }, count.1)

unfoldable pub flag_at : List ℕ → Option (Bool × List ℕ)
flag_at [] = None
flag_at (b ∷ bytes) = Some (b == 1, bytes)

unfoldable pub counted_at : List ℕ → Option (List ℕ × List ℕ)
counted_at bytes = do
  n ← count_at bytes
  if nat_lt (length n.1) n.0 then None else Some (take n.0 n.1, drop n.0 n.1)

abbrev pub utf8_in : List ℕ → Option (List ℕ)
utf8_in bytes = if is_utf8 bytes then Some bytes else None

unfoldable pub text_at : List ℕ → Option (Text × List ℕ)
text_at bytes = do
  t ← counted_at bytes
  utf8 ← utf8_in t.0
  Some (units_of utf8, t.1)

unfoldable pub pair_at : List ℕ → Option (Pair × List ℕ)
pair_at bytes = do
  key ← text_at bytes
  value ← text_at key.1
  Some ((key.0, value.0), value.1)

-- so many pairs, put into a pool
unfoldable pub pairs_at : ℕ → List Pair → List ℕ → Option (List Pair × List ℕ)
pairs_at zero ps bytes = Some (ps, bytes)
pairs_at (suc n) ps bytes = do
  p ← pair_at bytes
  pairs_at n (put ps p.0) p.1

unfoldable pub pool_at : List ℕ → Option (List Pair × List ℕ)
pool_at bytes = do
  n ← count_at bytes
  pairs_at n.0 [] n.1

abbrev pub ok_of : Result Change ReadBad → Option Change
ok_of (Ok c) = Some c
ok_of (Err why) = None

unfoldable pub change_at : List ℕ → Option (Change × List ℕ)
change_at bytes = do
  spelling ← text_at bytes
  pool ← pool_at spelling.1
  c ← ok_of (reading pool.0 spelling.0)
  Some (c, pool.1)

-- the document that a frame is, as the change on no units that inserts it
unfoldable pub frame_at : List ℕ → Option (Change × List ℕ)
frame_at bytes = do
  text ← text_at bytes
  attribs ← text_at text.1
  pool ← pool_at attribs.1
  c ← ok_of (reading_attribs pool.0 text.0 attribs.0)
  Some (c, pool.1)
