-- The normal spelling of a change with a pool, and the pool of its wire form.
use Rattle.std.specs.Prelude.{ℕ, suc, Bool, cond, List, [], ◌∷◌, map, fold}
use Rattle.std.specs.List.{flat_map, list_all}
use Rattle.ep_units.specs.Text.{Text}
use Rattle.ep_attr.specs.AttrMap.{AttrMap, Pair, get, is_value}
use Rattle.ep_pool.specs.Pool.{has, put}
use Rattle.ep_cs.specs.Change.{Change}
use Rattle.ep_cs.specs.Spelling.{op_text, spelling}
use Rattle.ep_cs.specs.declared.op.Kind.{Kind}
use Rattle.ep_cs.specs.declared.op.Op.{Op}
use Rattle.ep_csread.specs.declared.written.Number.{Number}
use Rattle.ep_csread.specs.Syntax.{Operation}

-- the numbers, counted from i, of the pairs that a map has
abbrev pub numbers_from : ℕ → List Pair → AttrMap → List ℕ
numbers_from i [] m = []
numbers_from i (p ∷ ps) m = cond (is_value p.1 (get m p.0)) (i ∷ numbers_from (suc i) ps m) (numbers_from (suc i) ps m)

-- the numbers of a map's pairs in a pool, from the lowest to the highest
abbrev pub numbers_in : List Pair → AttrMap → List ℕ
numbers_in pool m = numbers_from 0 pool m

-- the pool has every pair of the runs
abbrev pub has_pairs : List Pair → List Op → Bool
has_pairs pool runs = list_all (λ o. list_all (has pool) o.attrs.pairs) runs

-- how a change is written with a pool that has its pairs
abbrev pub printed : List Pair → Change → Text
printed pool c = spelling (numbers_in pool) c

-- the pairs that runs name, each once, in order of appearance, within one run by key
abbrev pub pairs_named : List Op → List Pair
pairs_named runs = fold put [] (flat_map (λ o. o.attrs.pairs) runs)

-- the pairs that changes name, in one pool for all of them
abbrev pub all_named : List Change → List Pair
all_named changes = pairs_named (flat_map (λ c. c.runs) changes)

-- runs alone, without lengths and bank
abbrev pub ops_text : List Pair → List Op → Text
ops_text pool runs = flat_map (λ o. op_text (numbers_in pool o.attrs) o) runs

-- an operation in numbers
pub record Numbered : Type 0 where
  pub stars : List ℕ
  pub lines : ℕ
  pub kind : Kind
  pub units : ℕ

-- what an operation that was read says
abbrev pub said : Operation → Numbered
said o = record { stars = map (λ (n : Number). n.value) o.stars; lines = o.lines.value; kind = o.kind; units = o.units.value }
