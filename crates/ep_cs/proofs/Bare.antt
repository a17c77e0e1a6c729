-- Runs that keep places with no attributes.
use Rattle.std.proofs.Common.{◌≡◌, true, ◌&&◌, T, refl, sym, subst}
use Rattle.ep_attr.specs.AttrMap.{AttrMap, none, is_none}
use Rattle.ep_attr.proofs.SameMap.{exact_map}
use Rattle.ep_cs.specs.declared.op.Kind.{Kind}
use Rattle.ep_cs.specs.declared.op.Kind.TheVariants as kind
use Rattle.ep_cs.specs.Normal.{is_keep}

pub bare_is : (k : Kind) (m : AttrMap) → (is_keep k && is_none m) ≡ true → (k ≡ kind.Keep) × (m ≡ none)
bare_is kind.Keep m e = (refl, exact_map m none e)
bare_is kind.Drop m e = absurd (subst T (sym e) tt)
bare_is kind.Insert m e = absurd (subst T (sym e) tt)
