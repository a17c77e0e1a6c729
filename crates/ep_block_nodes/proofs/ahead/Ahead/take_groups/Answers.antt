use Rattle.std.proofs.Common.{◌∙◌, ◌++◌, List, ap, sym}
use Rattle.ep_cs.specs.Doc.{Cell}
use Rattle.ep_block_nodes.specs.Blocks.{all_cells, its_own}
use Rattle.ep_block_nodes.proofs.Blocks.{no_nodes}
use Rattle.ep_block_nodes.proofs.ahead.Ahead.take_groups.Goals as goal

pub returns-clause-taken : goal.returns-clause-taken
returns-clause-taken c =
    let a = c.self.inside in
    let t = c.take_groups in
    let none = no_nodes its_own a.blocks.now (sym c.is_empty.ensures ∙ c.if-not-is_empty.false) in
    sym c.self.view_is ∙ ap (λ (cs : List Cell). cs ++ a.groups) none ∙ t.ensures.taken ∙ ap (λ (cs : List Cell). all_cells t.result.items.now ++ (cs ++ t.new.self)) (sym none)
