-- What a pool's JSON says.
use Rattle.std.specs.Prelude.{◌≡◌, ℕ, ◌<◌, ◌≤◌, ◌^◌, true, not, nat_lt, nat_le, cond, List, length, Option, Some, None, option_and_then, is_some, unwrap_or, slice_get, slice_index, [], ◌∷◌, IsSome, codes, decimal, ⊤}
use Rattle.serde_json.specs.Data.{Data, Members, no_members, member}
use Rattle.serde_json.specs.Find.{get, at, as_number, as_object, as_str, as_u64}
use Rattle.ep_attr.specs.AttrMap.{Pair}
use Rattle.ep_pool.specs.declared.from_json.PoolBad.{PoolBad}
use Rattle.ep_pool.specs.declared.from_json.PoolBad.TheVariants.{Shape, Gap, Twice, NoMemory}
use Rattle.ep_pool.specs.declared.from_json.PoolMember.TheVariants.{NextNum, NumToAttrib}
use Rattle.ep_units.specs.Text.{is_well_formed}
use Rattle.ep_units.specs.Utf8.{units_of}

-- the greatest whole number that every JavaScript engine keeps exactly
abbrev pub most_number : ℕ
most_number = 9007199254740991

abbrev pub small_enough : ℕ → Option ℕ
small_enough n = cond (nat_le n most_number) (Some n) None

-- `nextNum`, where it is such a whole number
abbrev pub next_num : Data → Option ℕ
next_num d = option_and_then small_enough (option_and_then as_u64 (option_and_then as_number (get (codes "nextNum") d)))

-- the pair of two texts with nothing behind them
abbrev pub two_texts : Option (List ℕ) → Option (List ℕ) → Option Data → Option Pair
two_texts None value more = None
two_texts (Some k) None more = None
two_texts (Some k) (Some v) None = Some (units_of k, units_of v)
two_texts (Some k) (Some v) (Some d) = None

-- the pair that a list of two texts is
abbrev pub pair_read : Data → Option Pair
pair_read d = two_texts (option_and_then as_str (at 0 d)) (option_and_then as_str (at 1 d)) (at 2 d)

-- the pair under a number
abbrev pub entry_in : Data → ℕ → Option Pair
entry_in attribs n = option_and_then pair_read (get (decimal n) attribs)

-- the pair under a number of `numToAttrib`
abbrev pub entry : Data → ℕ → Option Pair
entry d n = option_and_then (λ a. entry_in a n) (get (codes "numToAttrib") d)

-- such a number in its shortest form
abbrev pub IsNumber : List ℕ → Type 0
IsNumber key = (n : ℕ) × (n ≤ most_number) × (key ≡ decimal n)

-- each member is a pair under a number
abbrev pub AreEntries : Members → Type 0
AreEntries no_members = ⊤
AreEntries (member k d ms) = IsNumber k × IsSome (pair_read d) × AreEntries ms

-- `numToAttrib` is an object of such members
abbrev pub HasEntries : Data → Type 0
HasEntries d = (ms : Members) × (option_and_then as_object (get (codes "numToAttrib") d) ≡ Some ms) × AreEntries ms

-- the number is below `nextNum` and has no entry, or has one and is not below
abbrev pub IsGap : Data → ℕ → Type 0
IsGap d n = (n ≤ most_number) × (nat_lt n (unwrap_or (next_num d) 0) ≡ not (is_some (entry d n)))

-- the pair under the number stands under a lower one too
abbrev pub IsTwice : Data → ℕ → Type 0
IsTwice d n = (k : ℕ) × (k < n) × (n ≤ most_number) × IsSome (entry d n) × (entry d k ≡ entry d n)

-- the least number of which it is so
abbrev pub IsLeast : (ℕ → Type 0) → ℕ → Type 0
IsLeast P n = P n × ((k : ℕ) → k < n → P k → ⊥)

-- `nextNum` and `numToAttrib` are as they should be, each by itself
abbrev pub HasShape : Data → Type 0
HasShape d = IsSome (next_num d) × HasEntries d

abbrev pub HasNoGap : Data → Type 0
HasNoGap d = (n : ℕ) → IsGap d n → ⊥

-- `nextNum` counts the pairs, and each pair stands under its number, and nothing else
pub record IsPoolOf (d : Data) (ps : List Pair) : Type 0 where
  pub next : next_num d ≡ Some (length ps)
  pub shape : HasEntries d
  pub entries : (n : ℕ) → n ≤ most_number → entry d n ≡ slice_get ps n

-- units of 16 bits in which no half of a pair stands alone
abbrev pub IsText : List ℕ → Type 0
IsText us = ((k : ℕ) → slice_index us k < 2 ^ 16) × (is_well_formed us ≡ true)

abbrev pub AreTexts : List Pair → Type 0
AreTexts [] = ⊤
AreTexts (p ∷ ps) = IsText p.0 × IsText p.1 × AreTexts ps

-- why a value is no pool: exactly one cause counts, with its number
abbrev pub IsBadAs : Data → PoolBad → Type 0
IsBadAs d (Shape NextNum) = next_num d ≡ None
IsBadAs d (Shape NumToAttrib) = IsSome (next_num d) × (HasEntries d → ⊥)
IsBadAs d (Gap n) = HasShape d × IsLeast (IsGap d) n
IsBadAs d (Twice n) = HasShape d × HasNoGap d × IsLeast (IsTwice d) n
IsBadAs d NoMemory = ⊥
