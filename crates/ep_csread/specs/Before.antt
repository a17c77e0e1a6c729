-- Working words of private contracts: halves at the border of two insertions, which is all that can be wrong where the whole text is well-formed.
use Rattle.std.specs.Prelude.{ℕ, zero, suc, ◌+◌, ◌-◌, Bool, false, cond, not, ◌&&◌, nat_lt, ◌==◌, List, [], ◌∷◌, drop, Option, Some, None}
use Rattle.ep_units.specs.Text.{Text}
use Rattle.ep_cs.specs.declared.op.Kind.{Kind}
use Rattle.ep_cs.specs.declared.op.Kind.TheVariants as kinds
use Rattle.ep_attr.specs.AttrMap.{AttrMap, same_map}
use Rattle.ep_cs.specs.declared.op.Op.{Op}
use Rattle.ep_units.specs.Halves.{begins_low}

abbrev pub is_before : Option AttrMap → AttrMap → Bool
is_before None m = false
is_before (Some h) m = same_map h m

-- at an insertion: what comes behind it, unless its first unit is a second half with another map before it, or none; a keep ends the gap
abbrev pub cut_at : ℕ → Option AttrMap → Kind → ℕ → AttrMap → Text → Option ℕ → Option ℕ → Option ℕ → Option ℕ
cut_at at before kinds.Insert zero m bank behind kept on = on
cut_at at before kinds.Insert (suc n) m bank behind kept on = cond (begins_low bank && not (is_before before m)) (Some (at - 1)) behind
cut_at at before kinds.Keep zero m bank behind kept on = on
cut_at at before kinds.Keep (suc n) m bank behind kept on = kept
cut_at at before kinds.Drop n m bank behind kept on = on

-- the first bank unit, counted from `at`, whose pair is cut; `before` is the map of the insertion right before in this gap, if there is one
abbrev pub first_cut : ℕ → Option AttrMap → List Op → Text → Option ℕ
first_cut at before [] bank = None
first_cut at before (o ∷ os) bank = cut_at at before o.kind o.units o.attrs bank (first_cut (at + o.units) (Some o.attrs) os (drop o.units bank)) (first_cut at None os bank) (first_cut at before os bank)

-- the map of the operation at a place
abbrev pub map_at : List Op → ℕ → Option AttrMap
map_at [] i = None
map_at (o ∷ os) zero = Some o.attrs
map_at (o ∷ os) (suc i) = map_at os i

abbrev pub map_before : List Op → Option ℕ → Option AttrMap
map_before ops None = None
map_before ops (Some i) = map_at ops i

abbrev pub cuts_by : Kind → ℕ → Option AttrMap → AttrMap → Text → Bool
cuts_by kinds.Insert n before m bank = nat_lt 0 n && (begins_low bank && not (is_before before m))
cuts_by kinds.Keep n before m bank = false
cuts_by kinds.Drop n before m bank = false

abbrev pub cuts : Option AttrMap → Op → Text → Bool
cuts before o bank = cuts_by o.kind o.units before o.attrs bank

abbrev pub place_by : Kind → Option ℕ → ℕ → Option ℕ
place_by kinds.Insert before i = Some i
place_by kinds.Keep before i = None
place_by kinds.Drop before i = before

abbrev pub place_after : Option ℕ → ℕ → Op → Option ℕ
place_after before i o = cond (o.units == 0) before (place_by o.kind before i)
