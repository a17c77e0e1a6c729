use Rattle.std.proofs.Common.{◌∙◌, ◌++◌, List, ap, sym}
use Rattle.ep_cs.specs.Doc.{Cell}
use Rattle.ep_block_nodes.specs.Blocks.{all_cells, its_own, made}
use Rattle.ep_block_nodes.proofs.Blocks.{one_node}
use Rattle.ep_block_nodes.proofs.stack.close.Goals as goal

pub returns-in_ok-push-clause-pages : goal.returns-in_ok-push-clause-pages
returns-in_ok-push-clause-pages c =
    let pages = c.args.pages.now.items in
    ap all_cells c.in_ok-push.ensures.items ∙ one_node its_own pages c.in-Some.page
    ∙ ap (λ (cs : List Cell). all_cells pages ++ cs) (sym (ap made c.in-Some.is) ∙ c.in_ok-page.ensures.node)
