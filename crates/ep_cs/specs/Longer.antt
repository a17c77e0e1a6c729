-- Working words of private contracts: a kept run that goes on.
use Rattle.std.specs.Prelude.{◌≡◌, ℕ, ◌+◌, List, [], ◌∷◌, ◌++◌}
use Rattle.ep_attr.specs.AttrMap.{AttrMap}
use Rattle.ep_cs.specs.declared.op.Kind.TheVariants as kind
use Rattle.ep_cs.specs.declared.op.Op.{Op}

-- it keeps units without newlines with a map, and then so many more, which hold so many newlines
abbrev pub GoesOn : Op → ℕ → ℕ → AttrMap → Op → Type 0
GoesOn o units lines m next = (o.kind ≡ kind.Keep) × (o.lines ≡ 0) × (o.attrs ≡ m) × (next ≡ record { kind = kind.Keep; units = o.units + units; lines = lines; attrs = m })

-- the last of some runs goes on
abbrev pub LastGoesOn : List Op → ℕ → ℕ → AttrMap → List Op → Type 0
LastGoesOn os units lines m next = (front : List Op) × (o : Op) × (p : Op) × (os ≡ front ++ o ∷ []) × GoesOn o units lines m p × (next ≡ front ++ p ∷ [])
