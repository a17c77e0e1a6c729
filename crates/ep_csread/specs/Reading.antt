-- What a text stands for with a pool, or why it is none.
use Rattle.std.specs.Prelude.{ℕ, zero, suc, ◌+◌, ◌-◌, Bool, true, false, cond, ◌&&◌, ◌||◌, List, [], ◌∷◌, ◌++◌, map, length, take, drop, min, nat_lt, nat_le, ◌==◌, Option, Some, None, Result, Ok, Err, if◌then◌else◌}
use Rattle.std.specs.List.{flat_map}
use Rattle.ep_units.specs.Text.{Text, ends_in_newline, is_high, is_low}
use Rattle.ep_units.specs.Base36.{most_read}
use Rattle.ep_attr.specs.AttrMap.{AttrMap, Pair, none, insert, after, same_map}
use Rattle.ep_cs.specs.Edit.{Step}
use Rattle.ep_cs.specs.Edit.Step.{Insert, Pass}
use Rattle.ep_cs.specs.Edit.Fate.{Drop, Keep}
use Rattle.ep_cs.specs.declared.op.Kind.{Kind}
use Rattle.ep_cs.specs.declared.op.Kind.TheVariants as kinds
use Rattle.ep_cs.specs.declared.op.Op.{Op}
use Rattle.ep_cs.specs.Runs.{inserted, all_inserted, all_passed, steps_of}
use Rattle.ep_cs.specs.Change.{Change, change_of}
use Rattle.ep_cs.specs.Lines.{count_lines}
use Rattle.ep_csread.specs.declared.bad.ReadBad.{ReadBad}
use Rattle.ep_csread.specs.declared.bad.ReadBad.TheVariants as bad
use Rattle.ep_csread.specs.declared.written.Number.{Number}
use Rattle.ep_csread.specs.Syntax.{Operation, Parts, attribs_at, parts_of}
use Rattle.ep_csread.specs.Spelling.{Numbered, said}

abbrev pub first_such : {A : Type 0} → (A → Bool) → List A → Option A
first_such test [] = None
first_such test (x ∷ xs) = cond (test x) (Some x) (first_such test xs)

abbrev pub first_some : {A : Type 0} → List (Option A) → Option A
first_some [] = None
first_some (Some x ∷ os) = Some x
first_some (None ∷ os) = first_some os

abbrev pub mapped : {A B : Type 0} → (A → B) → Option A → Option B
mapped f None = None
mapped f (Some x) = Some (f x)

-- every number that stands in the text, from left to right
abbrev pub op_numbers : Operation → List Number
op_numbers o = o.stars ++ (o.lines ∷ (o.units ∷ []))

abbrev pub all_numbers : Parts → List Number
all_numbers p = p.old ∷ (p.difference ∷ flat_map op_numbers p.ops)

abbrev pub all_stars : List Operation → List Number
all_stars os = flat_map (λ (o : Operation). o.stars) os

abbrev pub is_big : Number → Bool
is_big n = nat_lt most_read n.value

abbrev pub is_missing : ℕ → Number → Bool
is_missing count n = nat_le count n.value

abbrev pub values : List Number → List ℕ
values ns = map (λ (n : Number). n.value) ns

-- the pair of a number, in a pool that has it
abbrev pub pair_at : List Pair → ℕ → Option Pair
pair_at [] n = None
pair_at (p ∷ ps) zero = Some p
pair_at (p ∷ ps) (suc n) = pair_at ps n

abbrev pub with_pair : Option Pair → AttrMap → AttrMap
with_pair None m = m
with_pair (Some p) m = insert m p.0 p.1

-- the map of these numbers, the later value counting
abbrev pub map_from : List Pair → AttrMap → List ℕ → AttrMap
map_from pool m [] = m
map_from pool m (n ∷ ns) = map_from pool (with_pair (pair_at pool n) m) ns

-- what an operation of this kind does with a map
abbrev pub map_for : Kind → AttrMap → AttrMap
map_for kinds.Keep m = m
map_for kinds.Drop m = none
map_for kinds.Insert m = after none m

abbrev pub resolved : List Pair → Numbered → Op
resolved pool o = record { kind = o.kind; units = o.units; lines = o.lines; attrs = map_for o.kind (map_from pool none o.stars) }

abbrev pub all_resolved : List Pair → List Operation → List Op
all_resolved pool os = map (resolved pool) (map said os)

-- so many newlines, the last of them at the end where there are any
abbrev pub holds_lines : ℕ → Text → Bool
holds_lines l text = (count_lines text == l) && ((l == 0) || ends_in_newline text)

abbrev pub is_lined : Kind → ℕ → ℕ → Text → Bool
is_lined kinds.Keep n l text = nat_le l n
is_lined kinds.Drop n l text = nat_le l n
is_lined kinds.Insert n l text = nat_le l n && holds_lines l text

-- the first operation whose newlines are wrong, counted from i
abbrev pub first_unlined : ℕ → List Op → Text → Option ℕ
first_unlined i [] bank = None
first_unlined i (o ∷ os) bank =
    if is_lined o.kind o.units o.lines (take (inserted o.kind o.units) bank)
    then first_unlined (i + 1) os (drop (inserted o.kind o.units) bank)
    else Some i

-- the first inserted unit, counted from `at`, that is half of a pair without its other half beside it in the same gap with the same map;
-- `half` is the map of a first half right before
abbrev pub first_half : ℕ → Option AttrMap → List Step → Option ℕ
first_half at None [] = None
first_half at (Some m) [] = Some (at - 1)
first_half at half (Pass Drop ∷ steps) = first_half at half steps
first_half at None (Pass (Keep m) ∷ steps) = first_half at None steps
first_half at (Some h) (Pass (Keep m) ∷ steps) = Some (at - 1)
first_half at None (Insert c ∷ steps) =
    cond (is_high c.unit) (first_half (at + 1) (Some c.attrs) steps) (cond (is_low c.unit) (Some at) (first_half (at + 1) None steps))
first_half at (Some h) (Insert c ∷ steps) =
    cond (is_low c.unit && same_map h c.attrs) (first_half (at + 1) None steps) (Some (at - 1))

abbrev pub is_difference : Bool → ℕ → ℕ → ℕ → Bool
is_difference false difference old new = new == old + difference
is_difference true difference old new = new + difference == old

abbrev pub dropped : Kind → ℕ → ℕ
dropped kinds.Keep n = 0
dropped kinds.Drop n = n
dropped kinds.Insert n = 0

abbrev pub all_dropped : List Op → ℕ
all_dropped [] = 0
all_dropped (o ∷ os) = dropped o.kind o.units + all_dropped os

-- what is kept and dropped is there, and the difference leads to a length that is small enough
abbrev pub has_lengths : ℕ → Bool → ℕ → List Op → Bool
has_lengths old shrinks difference os =
    let new : ℕ = old - all_dropped os + all_inserted os in
    nat_le (all_passed os) old && (is_difference shrinks difference old new && nat_le new most_read)

abbrev pub largest : ℕ
largest = 18446744073709551615

-- each reason, in the order in which they count; a place is given by how many units stand from it on
abbrev pub numbers_refused : Text → List Number → Option ReadBad
numbers_refused text ns = mapped (λ (n : Number). bad.Number (length text - n.left)) (first_such is_big ns)

abbrev pub number_refused : Text → Parts → Option ReadBad
number_refused text p = numbers_refused text (all_numbers p)

abbrev pub missing_refused : List Pair → List Operation → Option ReadBad
missing_refused pool os = mapped (λ (n : Number). bad.NoAttr n.value) (first_such (is_missing (length pool)) (all_stars os))

abbrev pub star_refused : List Pair → Parts → Option ReadBad
star_refused pool p = missing_refused pool p.ops

abbrev pub bank_refused : List Op → Text → Option ReadBad
bank_refused os bank = cond (all_inserted os == length bank) None (Some (bad.Bank (min (all_inserted os) largest) (length bank)))

abbrev pub lines_refused : List Op → Text → Option ReadBad
lines_refused os bank = mapped (λ (i : ℕ). bad.Lines i) (first_unlined 0 os bank)

abbrev pub length_refused : Parts → List Op → Option ReadBad
length_refused p os = cond (has_lengths p.old.value p.shrinks p.difference.value os) None (Some bad.Length)

abbrev pub pair_refused : List Op → Text → Option ReadBad
pair_refused os bank = mapped (λ (i : ℕ). bad.Pair i) (first_half 0 None (steps_of os bank))

abbrev pub refusals : List Pair → Text → Parts → List (Option ReadBad)
refusals pool text p =
    let os : List Op = all_resolved pool p.ops in
    number_refused text p ∷ (star_refused pool p ∷ (bank_refused os p.bank ∷ (lines_refused os p.bank ∷ (length_refused p os ∷ (pair_refused os p.bank ∷ [])))))

abbrev pub unless : {A : Type 0} → Option ReadBad → A → Result A ReadBad
unless None x = Ok x
unless (Some why) x = Err why

abbrev pub counted : List Pair → Text → Result Parts ℕ → Result Change ReadBad
counted pool text (Err left) = Err (bad.Syntax (length text - left))
counted pool text (Ok p) = unless (first_some (refusals pool text p)) (change_of p.old.value (all_resolved pool p.ops) p.bank)

-- the change that a text spells with a pool, or the first reason why it spells none
abbrev pub reading : List Pair → Text → Result Change ReadBad
reading pool text = counted pool text (parts_of text)

-- of attributed text, whose operations insert all of it
abbrev pub attribs_refusals : List Pair → Text → Text → List Operation → List (Option ReadBad)
attribs_refusals pool text attribs ops =
    let os : List Op = all_resolved pool ops in
    numbers_refused attribs (flat_map op_numbers ops) ∷ (missing_refused pool ops ∷ (bank_refused os text ∷ (lines_refused os text ∷ (cond (nat_le (length text) most_read) None (Some bad.Length) ∷ (pair_refused os text ∷ [])))))

abbrev pub counted_attribs : List Pair → Text → Text → Result (List Operation × Text) ℕ → Result Change ReadBad
counted_attribs pool text attribs (Err left) = Err (bad.Syntax (length attribs - left))
counted_attribs pool text attribs (Ok x) = unless (first_some (attribs_refusals pool text attribs x.0)) (change_of 0 (all_resolved pool x.0) text)

-- the change that inserts a text with these attributes, or the first reason why they are none of it
abbrev pub reading_attribs : List Pair → Text → Text → Result Change ReadBad
reading_attribs pool text attribs = counted_attribs pool text attribs (attribs_at attribs)
