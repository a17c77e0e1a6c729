use Rattle.std.proofs.Common.{◌≡◌, Bool, true, false, if◌then◌else◌, Option, Some, None, is_some, refl, sym, ap, ◌∙◌}
use Rattle.std.specs.Option.{option_map}
use Rattle.ep_units.specs.PadId.{has_group}
use Rattle.ep_session.proofs.entering.has_group.Goals as goal

there : {A B : Type 0} (f : A → B) (o : Option A) (b : Bool) (x : B) → option_map f o ≡ (if b then Some x else None) → is_some o ≡ b
there {A = A} {B = B} f o b x e = sym (same o) ∙ ap is_some e ∙ back b
  where
    same : (o : Option A) → is_some (option_map f o) ≡ is_some o
    same None = refl
    same (Some a) = refl

    back : (b : Bool) → is_some (if b then Some x else None) ≡ b
    back true = refl
    back false = refl

pub returns : goal.returns
returns c = c.is_some.ensures ∙ there (λ group. group.now) c.group.result (has_group c.args.pad.now) _ c.group.ensures
