-- A pad's own id with or without a group.
use Rattle.std.proofs.Common.{◌≡◌, ◌∙◌, inl, inr, ℕ, List, is_some, option_map, refl, sym, ap, Option, Some, None}
use Rattle.std.proofs.lemmas.Bool.{cases_Bool}
use Rattle.ep_units.specs.PadId.{group_of, has_group}

group_told : (id : List ℕ) → is_some (group_of id) ≡ has_group id
group_told id = elim (cases_Bool (has_group id)) [
  | inl e ↦ rw e refl
  | inr e ↦ rw e refl
]

mapped : {X Y : Type 0} (f : X → Y) (o : Option X) → is_some (option_map f o) ≡ is_some o
mapped f None = refl
mapped f (Some x) = refl

pub grouped : {X : Type 0} (f : X → List ℕ) (o : Option X) (id : List ℕ) → option_map f o ≡ group_of id → is_some o ≡ has_group id
grouped f o id e = sym (mapped f o) ∙ (ap is_some e ∙ group_told id)
