use Rattle.std.proofs.Common.{◌≤◌, ◌++◌, ◌∙◌, List, length, ap, sym, arith, append_assoc, append-nil}
use Rattle.std.specs.Arc.{arc_value}
use Rattle.ep_units.specs.Text.{Text}
use Rattle.ep_cs.specs.Doc.{Cell, text_of}
use Rattle.ep_block_nodes.specs.Blocks.{all_cells}
use Rattle.ep_block_parts.specs.Seen.{ends_high}
use Rattle.ep_block_nodes.proofs.Blocks.{last_high, length_text, text-append}
use Rattle.ep_block_nodes.proofs.ahead.Ahead.ends_high.Goals as goal

pub returns-in-Some : goal.returns-in-Some
returns-in-Some c =
    let a = c.self.inside in
    let blocks = all_cells a.blocks.now in
    λ us. ap (λ (cs : List Cell). ends_high (us ++ text_of cs)) (sym c.self.view_is) ∙ ap (λ (vs : Text). ends_high (us ++ vs)) (text-append blocks a.groups)
    ∙ ap ends_high (sym (append_assoc us (text_of blocks) (text_of a.groups))) ∙ c.in-Some.ensures (us ++ text_of blocks)

pub returns-in-len1-up : goal.returns-in-len1-up
returns-in-len1-up c =
    let a = c.self.inside in
    let b = c.block-item.result in
    let s = c.seen.ensures.seen in
    let some : 1 ≤ length (arc_value b) = omega (arith, c.seen.ensures.some, s.units, length_text c.deref.result.now, ap length c.deref.ensures) in
    let whole = sym c.self.view_is ∙ ap (λ (cs : List Cell). all_cells a.blocks.now ++ cs) c.in_default.ensures ∙ append-nil (all_cells a.blocks.now) in
    λ us. ap (λ (cs : List Cell). ends_high (us ++ text_of cs)) whole ∙ last_high us a.blocks.now b c.in-len1-up.len_at_least c.block-item.is some
    ∙ sym (s.high ∙ ap (λ (cs : List Cell). ends_high (text_of cs)) c.deref.ensures)
