-- Changeset text: how it is written, and the change that it spells with a pool.
use Rattle.std.specs.Prelude.{◌≡◌, ℕ, ◌+◌, ◌<◌, ◌≤◌, ◌⊎◌, Bool, true, false, List, [], ◌∷◌, ◌++◌, map, length, take, drop, min}
use Rattle.std.specs.List.{AllByRecursion, flat_map, list_all}
use Rattle.ep_units.specs.Text.{Text}
use Rattle.ep_units.specs.Base36.{is_digit, most_read, value36}
use Rattle.ep_attr.specs.AttrMap.{Pair}
use Rattle.ep_cs.specs.Fits.{AreDocuments}
use Rattle.ep_cs.specs.declared.op.Kind.{Kind}
use Rattle.ep_cs.specs.declared.op.Kind.TheVariants as kinds
use Rattle.ep_cs.specs.declared.op.Op.{Op}
use Rattle.ep_cs.specs.Runs.{inserted, all_inserted, all_passed}
use Rattle.ep_cs.specs.Change.{Change, change_of}
use Rattle.ep_cs.specs.Spelling.{kind_text}
use Rattle.ep_csread.specs.Spelling.{Numbered}
use Rattle.ep_cs.specs.Lines.{count_lines}
use Rattle.ep_csread.specs.Reading.{all_dropped, resolved}
use Rattle.ep_csread.specs.Syntax.{too_large}

-- digits that spell a number, zeros first where they like; one number stands for all that are too large
pub record IsNumeral (n : ℕ) (digits : Text) : Type 0 where
  pub some : 0 < length digits
  pub only : list_all is_digit digits ≡ true
  pub value : n ≡ min (value36 digits) too_large

-- items one behind the other, each written as it should be
module _ {A : Type 0} (IsItem : A → Text → Type 0) where
  abbrev pub AreItems : List A → Text → Type 0
  AreItems [] text = text ≡ []
  AreItems (x ∷ xs) text = (first : Text) × (rest : Text) × (text ≡ first ++ rest) × IsItem x first × AreItems xs rest

-- `*` and a number
abbrev pub IsStar : ℕ → Text → Type 0
IsStar n text = (digits : Text) × (text ≡ 42 ∷ digits) × IsNumeral n digits

-- `|` and a number, or nothing for 0
abbrev pub IsLines : ℕ → Text → Type 0
IsLines l text = ((text ≡ []) × (l ≡ 0)) ⊎ ((digits : Text) × (text ≡ 124 ∷ digits) × IsNumeral l digits)

-- the stars, the lines, `=`, `-` or `+`, and how many units
pub record IsOp (o : Numbered) (text : Text) : Type 0 where
  pub stars : Text
  pub lines : Text
  pub units : Text
  pub whole : text ≡ stars ++ (lines ++ (kind_text o.kind ∷ units))
  pub are_stars : AreItems IsStar o.stars stars
  pub is_lines : IsLines o.lines lines
  pub is_units : IsNumeral o.units units

-- what a text writes down
pub record Writing : Type 0 where
  pub old : ℕ
  pub shrinks : Bool
  pub difference : ℕ
  pub ops : List Numbered
  pub bank : Text

-- `>` or `<`
abbrev pub sign : Bool → ℕ
sign false = 62
sign true = 60

-- `Z:`, the old length, the sign and the difference, the operations, `$`, and the bank
pub record IsWritten (w : Writing) (text : Text) : Type 0 where
  pub old : Text
  pub difference : Text
  pub ops : Text
  pub whole : text ≡ 90 ∷ 58 ∷ (old ++ (sign w.shrinks ∷ (difference ++ (ops ++ 36 ∷ w.bank))))
  pub is_old : IsNumeral w.old old
  pub is_difference : IsNumeral w.difference difference
  pub are_ops : AreItems IsOp w.ops ops

-- some changeset text begins so
abbrev pub BeginsSome : Text → Type 0
BeginsSome front = (w : Writing) × (others : Text) × IsWritten w (front ++ others)

-- where the syntax of a text ends: some changeset text begins with the units before the place, and none with those up to and with it;
-- at the end of the text a unit is missing there
pub record SyntaxEnds (text : Text) (at : ℕ) : Type 0 where
  pub within : at ≤ length text
  pub before : BeginsSome (take at text)
  pub with : at < length text → BeginsSome (take (at + 1) text) → ⊥
  pub none : (w : Writing) → IsWritten w text → ⊥

abbrev pub numbers_of_op : Numbered → List ℕ
numbers_of_op o = o.stars ++ (o.lines ∷ (o.units ∷ []))

-- each number of a list is small enough, and each of others is one of the pool's
abbrev pub AreSmall : List ℕ → Type 0
AreSmall ns = AllByRecursion (λ n. n ≤ most_read) ns

abbrev pub AreNamed : List Pair → List Numbered → Type 0
AreNamed pool os = AllByRecursion (λ n. n < length pool) (flat_map (λ (o : Numbered). o.stars) os)

-- units hold exactly so many newlines, the last of them at the end where there are any
abbrev pub HoldLines : ℕ → Text → Type 0
HoldLines l us = (count_lines us ≡ l) × ((l ≡ 0) ⊎ ((front : Text) × (us ≡ front ++ 10 ∷ [])))

abbrev pub HasLines : Kind → ℕ → ℕ → Text → Type 0
HasLines kinds.Keep n l us = l ≤ n
HasLines kinds.Drop n l us = l ≤ n
HasLines kinds.Insert n l us = (l ≤ n) × HoldLines l us

abbrev pub HaveLines : List Op → Text → Type 0
HaveLines [] bank = Unit {0}
HaveLines (o ∷ os) bank = HasLines o.kind o.units o.lines (take (inserted o.kind o.units) bank) × HaveLines os (drop (inserted o.kind o.units) bank)

-- the sign and the difference lead from one length to the other
abbrev pub Leads : Bool → ℕ → ℕ → ℕ → Type 0
Leads false difference old new = new ≡ old + difference
Leads true difference old new = new + difference ≡ old

-- operations with their maps, over a bank, as those of a change of one length into one of another
pub record AreRight (old new : ℕ) (ops : List Op) (bank : Text) (c : Change) : Type 0 where
  pub whole : all_inserted ops ≡ length bank
  pub lines : HaveLines ops bank
  pub passed : all_passed ops ≤ old
  pub lengths : new + all_dropped ops ≡ old + all_inserted ops
  pub small : new ≤ most_read
  pub change : c ≡ change_of old ops bank
  -- no pair is cut
  pub pieces : AreDocuments c.edit.places c.edit.last

-- the text spells the change with the pool
pub record Spells (pool : List Pair) (text : Text) (c : Change) : Type 0 where
  pub writing : Writing
  pub new : ℕ
  pub written : IsWritten writing text
  pub numbers : AreSmall (writing.old ∷ (writing.difference ∷ flat_map numbers_of_op writing.ops))
  pub named : AreNamed pool writing.ops
  pub difference : Leads writing.shrinks writing.difference writing.old new
  pub right : AreRight writing.old new (map (resolved pool) writing.ops) writing.bank c

-- operations spell the attributes of a text with the pool, and so the change that inserts it
pub record SpellsText (pool : List Pair) (text attribs : Text) (c : Change) : Type 0 where
  pub ops : List Numbered
  pub written : AreItems IsOp ops attribs
  pub inserts : AllByRecursion (λ (o : Numbered). o.kind ≡ kinds.Insert) ops
  pub numbers : AreSmall (flat_map numbers_of_op ops)
  pub named : AreNamed pool ops
  pub right : AreRight 0 (length text) (map (resolved pool) ops) text c
