use Rattle.std.proofs.Common.{ℕ, List, ◌++◌, map, ap₂, ◌∙◌}
use Rattle.ep_attr.specs.AttrMap.{Pair}
use Rattle.ep_pool.specs.Pool.{number_of}
use Rattle.ep_csread.proofs.Numbering.{sorted_numbers}
use Rattle.ep_csread.proofs.printing.number_all.Goals as goal

pub returns : goal.returns
returns c =
    sorted_numbers c.args.pool.now.pairs c.args.attrs.now c.push_numbers.new.numbers.items c.sort_unstable.new.self.items c.args.pool.now.distinct c.requires
    (c.in_ok-push_numbers.ensures ∙ ap₂ (λ (before : List ℕ) (ps : List Pair). before ++ map (number_of c.args.pool.now.pairs) ps) c.clear.ensures.items c.pairs.ensures)
    c.sort_unstable.ensures.permutation c.sort_unstable.ensures.sorted
