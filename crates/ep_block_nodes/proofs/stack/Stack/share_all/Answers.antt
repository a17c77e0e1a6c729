use Rattle.std.proofs.Common.{◌∙◌, ◌++◌, List, ap, ap₂, append-nil}
use Rattle.ep_cs.specs.Doc.{Cell}
use Rattle.ep_block_nodes.specs.Blocks.{all_cells, its_own}
use Rattle.ep_block_nodes.proofs.Blocks.{shared}
use Rattle.ep_block_nodes.proofs.stack.Stack.share_all.Goals as goal

pub returns : goal.returns
returns c =
    let more = c.args.pages.now in
    ap₂ (λ (cs ds : List Cell). cs ++ ds) (shared its_own c.close.new.pages.items c.extend_with_clones.new.self.items more c.in_ok-extend_with_clones.ensures.items) c.in_ok-close.ensures.groups
    ∙ append-nil _ ∙ ap (λ (cs : List Cell). cs ++ all_cells more) (c.in_ok-close.ensures.pages ∙ c.self.view_is)
