-- Working words of private contracts: what operations say to a builder.
use Rattle.std.specs.Prelude.{◌≡◌, ℕ, List, [], ◌∷◌}
use Rattle.ep_units.specs.Text.{Text}
use Rattle.ep_attr.specs.AttrMap.{AttrMap, none, after}
use Rattle.ep_cs.specs.declared.op.Kind.{Kind}
use Rattle.ep_cs.specs.declared.op.Kind.TheVariants as kinds
use Rattle.ep_cs.specs.declared.op.Op.{Op}
use Rattle.std.specs.List.{AllByRecursion}
use Rattle.ep_csread.specs.Syntax.{Operation}
use Rattle.ep_cs.specs.Draft.{Draft, keeping, dropping, inserting}

abbrev pub putting : Kind → Draft → ℕ → ℕ → AttrMap → Text → Draft
putting kinds.Keep d units lines m text = keeping d units lines m
putting kinds.Drop d units lines m text = dropping d units lines
putting kinds.Insert d units lines m text = inserting d text m

-- a map on new text has no empty value
abbrev pub NewHasNoEmpty : Kind → AttrMap → Type 0
NewHasNoEmpty kinds.Keep m = Unit {0}
NewHasNoEmpty kinds.Drop m = Unit {0}
NewHasNoEmpty kinds.Insert m = m ≡ after none m

abbrev pub NewHaveNoEmpty : List Op → Type 0
NewHaveNoEmpty [] = Unit {0}
NewHaveNoEmpty (o ∷ os) = NewHasNoEmpty o.kind o.attrs × NewHaveNoEmpty os

abbrev pub AreInserts : List Operation → Type 0
AreInserts os = AllByRecursion (λ (o : Operation). o.kind ≡ kinds.Insert) os
