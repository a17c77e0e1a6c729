-- Cells that are moved after a map.
use Rattle.std.proofs.Common.{◌≡◌, ℕ, ◌-◌, ◌≤◌, true, List, [], ◌∷◌, ◌++◌, map, length, take, drop, refl, sym, ap, ap₂, ◌∙◌, arith, append_assoc}
use Rattle.std.proofs.lemmas.List.{map-append}
use Rattle.ep_units.specs.Text.{Text}
use Rattle.ep_attr.specs.AttrMap.{AttrMap, none, after, is_none, same_map}
use Rattle.ep_attr.proofs.Maps.{after-none}
use Rattle.ep_attr.proofs.SameMap.{exact_map}
use Rattle.ep_cs.specs.Doc.{Cell, painted}
use Rattle.ep_cs.specs.Runs.{cells}
use Rattle.ep_blocks.proofs.Pieces.{length_cells, next_rest, next_taken, taken_front}

pub painted_cells : (m a : AttrMap) (us : Text) → map (λ c. painted c a) (cells m us) ≡ cells (after m a) us
painted_cells m a [] = refl
painted_cells m a (u ∷ us) = ap (λ cs. record { unit = u; attrs = after m a } ∷ cs) (painted_cells m a us)

pub painted_bare : (cs : List Cell) → map (λ c. painted c none) cs ≡ cs
painted_bare [] = refl
painted_bare (c ∷ cs) = ap₂ (λ (m : AttrMap) (ds : List Cell). record { unit = c.unit; attrs = m } ∷ ds) (after-none c.attrs) (painted_bare cs)

-- all but so many of these cells are moved, after a map
pub record ArePainted (a : AttrMap) (units left : ℕ) (start all done rest : List Cell) : Type 0 where
  pub done_is : done ≡ start ++ map (λ c. painted c a) (take (units - left) all)
  pub rest_is : rest ≡ drop (units - left) all
  pub within : left ≤ units

pub more_painted : (a : AttrMap) (units left n : ℕ) (start all done rest done' rest' : List Cell) → ArePainted a units left start all done rest → n ≤ left → done' ≡ done ++ map (λ c. painted c a) (take n rest) → rest' ≡ drop n rest
    → ArePainted a units (left - n) start all done' rest'
more_painted a units left n start all done rest done' rest' m h d r = record {
  done_is =
      d ∙ ap (λ cs. cs ++ map (λ c. painted c a) (take n rest)) m.done_is ∙ append_assoc start (map (λ c. painted c a) (take (units - left) all)) (map (λ c. painted c a) (take n rest))
      ∙ ap (λ cs. start ++ cs) (sym (map-append (λ c. painted c a) (take (units - left) all) (take n rest)) ∙ ap (map (λ c. painted c a)) (sym (next_taken units left n all rest m.within h m.rest_is)));
  rest_is = next_rest units left n all rest rest' m.within h m.rest_is r;
  within = omega (arith, m.within);
}

pub bare : (m : AttrMap) (cs : List Cell) → is_none m ≡ true → map (λ c. painted c m) cs ≡ cs
bare m cs h = ap (λ (m : AttrMap). map (λ c. painted c m) cs) (exact_map m none (no_pairs m h)) ∙ painted_bare cs
  where
    no_pairs : (m : AttrMap) → is_none m ≡ true → same_map m none ≡ true
    no_pairs m h = h

-- a piece after a map
pub piece_painted : (m a : AttrMap) (us : Text) (all rest : List Cell) → all ≡ cells m us ++ rest → map (λ c. painted c a) (take (length us) all) ≡ cells (after m a) us
piece_painted m a us all rest e = ap (map (λ c. painted c a)) (taken_front (length us) all (cells m us) rest e (length_cells m us)) ∙ painted_cells m a us
