use Rattle.std.proofs.Common.{ℕ, ◌<◌, List, slice_index, subst, sym}
use Rattle.ep_pool.proofs.Texts.{units_fit}
use Rattle.ep_pool.proofs.from_json.attr_of.Goals as goal

pub returns-clause-texts : goal.returns-clause-texts
returns-clause-texts c = (
  (subst (λ (us : List ℕ). (k : ℕ) → slice_index us k < 65536) (sym c.in_ok-from_str.ensures.units) (units_fit c.args.key.now c.utf8.key), c.in_ok-from_str.ensures.well_formed),
  (subst (λ (us : List ℕ). (k : ℕ) → slice_index us k < 65536) (sym c.in_ok-from_str-2.ensures.units) (units_fit c.args.value.now c.utf8.value), c.in_ok-from_str-2.ensures.well_formed),
)
