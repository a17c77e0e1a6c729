-- A code of attribute maps, by which they can be part of a model's value.
use Rattle.std.specs.Prelude.{◌≡◌, List, T}
use Rattle.std.specs.Coded.{Coded, coded_ℕ, coded_list, coded×}
use base.Stored.{coded_via}
use mathlib.Core.HLevel.{Σ_prop_path}
use lib.Dec.{T_prop}
use Rattle.std.specs.FinMap.Entries.{is_sorted}
use Rattle.ep_units.specs.Text.{text_cmp}
use Rattle.ep_attr.specs.AttrMap.{AttrMap, Pair}

-- maps with the same pairs are equal
pub same_pairs_map : (m n : AttrMap) → m.pairs ≡ n.pairs → m ≡ n
same_pairs_map m n e =
    let pairs : ◌≡◌ {A = (ps : List Pair) × T (is_sorted text_cmp ps)} (m.pairs, m.sorted) (n.pairs, n.sorted) = Σ_prop_path (λ ps. T_prop _) e in
    λ i. record { pairs = (pairs i).0; sorted = (pairs i).1 }

abbrev pub coded_map : Coded AttrMap
coded_map = coded_via (coded_list (coded× (coded_list coded_ℕ) (coded_list coded_ℕ))) (λ m. m.pairs) same_pairs_map
