-- The one normal spelling of a change, as changeset text.
use Rattle.std.specs.Prelude.{ℕ, ◌-◌, cond, List, [], ◌∷◌, ◌++◌, length, nat_lt, nat_le}
use Rattle.std.specs.List.{flat_map}
use Rattle.ep_units.specs.Text.{Text}
use Rattle.ep_units.specs.Base36.{write36}
use Rattle.ep_attr.specs.AttrMap.{AttrMap}
use Rattle.ep_cs.specs.Edit.{Edit, items}
use Rattle.ep_cs.specs.Change.{Change, bank_of}
use Rattle.ep_cs.specs.declared.op.Kind.{Kind}
use Rattle.ep_cs.specs.declared.op.Kind.TheVariants as kind
use Rattle.ep_cs.specs.declared.op.Op.{Op}

abbrev pub star_text : ℕ → Text
star_text n = 42 ∷ write36 n

abbrev pub lines_text : ℕ → Text
lines_text l = cond (nat_lt 0 l) (124 ∷ write36 l) []

-- `=`, `-` or `+`
abbrev pub kind_text : Kind → ℕ
kind_text kind.Keep = 61
kind_text kind.Drop = 45
kind_text kind.Insert = 43

-- an operation, whose attributes have these numbers
abbrev pub op_text : List ℕ → Op → Text
op_text stars o = flat_map star_text stars ++ (lines_text o.lines ++ kind_text o.kind ∷ write36 o.units)

-- the length of the document before an edit, and of the one after it
abbrev pub old_len : Edit → ℕ
old_len e = length e.places

abbrev pub new_len : Edit → ℕ
new_len e = length (items e)

-- `>` and how much longer, or `<` and how much shorter
abbrev pub difference_text : ℕ → ℕ → Text
difference_text old new = cond (nat_le old new) (62 ∷ write36 (new - old)) (60 ∷ write36 (old - new))

-- `Z:`, the old length, the difference, the normal runs, `$` and the bank; `numbers` has the numbers of a map's pairs in a pool
abbrev pub spelling : (AttrMap → List ℕ) → Change → Text
spelling numbers c =
    90 ∷ 58 ∷ (write36 (old_len c.edit) ++ (difference_text (old_len c.edit) (new_len c.edit) ++ (flat_map (λ o. op_text (numbers o.attrs) o) c.runs ++ 36 ∷ bank_of c.edit)))

-- of a change without attributes
abbrev pub plain_spelling : Change → Text
plain_spelling c = spelling (λ _. []) c
