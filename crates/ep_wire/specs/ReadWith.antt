-- Working words of private contracts: a change that was read with a pool.
use Rattle.std.specs.Prelude.{◌≡◌, true, List}
use Rattle.std.specs.List.{AllByRecursion}
use Rattle.ep_attr.specs.AttrMap.{Pair}
use Rattle.ep_pool.specs.Pool.{has}
use Rattle.ep_pool.specs.Read.{IsText}
use Rattle.ep_cs.specs.Change.{Change, bank_of}
use Rattle.ep_cs.specs.NormalRuns.{IsNormal}
use Rattle.ep_cs.specs.declared.op.Op.{Op}

-- each of its pairs is one of the pool's, and what it inserts is a text
pub record IsReadWith (pool : List Pair) (c : Change) : Type 0 where
  pub normal : IsNormal c
  pub bank : IsText (bank_of c.edit)
  pub named : AllByRecursion (λ (o : Op). AllByRecursion (λ (p : Pair). has pool p ≡ true) o.attrs.pairs) c.runs
