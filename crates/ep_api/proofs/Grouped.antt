-- Pads with or without a group.
use Rattle.std.proofs.Common.{◌≡◌, ◌∙◌, inl, inr, Bool, true, false, ℕ, List, is_some, option_map, refl, sym, ap, subst, Option, Some, None, Result, Ok}
use Rattle.std.proofs.lemmas.Bool.{cases_Bool}
use Rattle.ep_units.specs.Text.{Text}
use Rattle.ep_units.specs.PadId.{group_of, has_group}
use Rattle.ep_ask.specs.declared.bad.ApiBad.{ApiBad}
use Rattle.ep_ask.specs.declared.answer.Data.{Data}
use Rattle.ep_ask.specs.declared.answer.Data.TheVariants.{Nothing}
use Rattle.ep_api.specs.Tasks.{done, if_so}
use Rattle.ep_api.specs.Functions.{off_list, take_off}
use Rattle.ep_api.specs.Passes.{Does, Seen}
use Rattle.ep_api.proofs.Doing.{rests}

group_told : (id : List ℕ) → is_some (group_of id) ≡ has_group id
group_told id = elim (cases_Bool (has_group id)) [
  | inl e ↦ rw e refl
  | inr e ↦ rw e refl
]

mapped : {X Y : Type 0} (f : X → Y) (o : Option X) → is_some (option_map f o) ≡ is_some o
mapped f None = refl
mapped f (Some x) = refl

pub grouped : {X : Type 0} (f : X → List ℕ) (o : Option X) (id : List ℕ) → option_map f o ≡ group_of id → is_some o ≡ has_group id
grouped f o id e = sym (mapped f o) ∙ (ap is_some e ∙ group_told id)

-- a group's pad leaves its list
pub off_grouped : (id : Text) (a b : Seen) (r : Result Data ApiBad) → has_group id ≡ true → Does a (take_off id) r b → Does a (off_list id) r b
off_grouped id a b r is does =
    let P : Bool → Type 0 = λ g. Does a (if_so g (take_off id) (done Nothing)) r b in
    subst P (sym is) does

-- no other pad stands on a list
pub off_lone : (id : Text) (a : Seen) → has_group id ≡ false → Does a (off_list id) (Ok Nothing) a
off_lone id a is =
    let P : Bool → Type 0 = λ g. Does a (if_so g (take_off id) (done Nothing)) (Ok Nothing) a in
    subst P (sym is) (rests a (done Nothing) (Ok Nothing) (refl, refl))
