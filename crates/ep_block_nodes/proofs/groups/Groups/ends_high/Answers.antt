use Rattle.std.proofs.Common.{◌≤◌, ◌++◌, ◌∙◌, List, length, ap, sym, arith}
use Rattle.std.specs.Arc.{arc_value}
use Rattle.ep_cs.specs.Doc.{Cell, text_of}
use Rattle.ep_block_parts.specs.Seen.{ends_high}
use Rattle.ep_block_nodes.proofs.Blocks.{groups_high, blocks_high, length_text}
use Rattle.ep_block_nodes.proofs.groups.Groups.ends_high.Goals as goal

pub returns-in-len1-up : goal.returns-in-len1-up
returns-in-len1-up c =
    let a = c.self.inside in
    let g = c.page-item.result in
    let s = c.seen.ensures.seen in
    let some : 1 ≤ length (arc_value g) = omega (arith, c.seen.ensures.some, s.units, length_text c.deref.result.now, ap length c.deref.ensures) in
    λ us. ap (λ (cs : List Cell). ends_high (us ++ text_of cs)) (sym c.self.view_is) ∙ groups_high us a.groups.now a.pages.now g c.in-len1-up.len_at_least c.page-item.is some
    ∙ sym (s.high ∙ ap (λ (cs : List Cell). ends_high (text_of cs)) c.deref.ensures)

pub returns-in-len1-up-groups : goal.returns-in-len1-up-groups
returns-in-len1-up-groups c =
    let a = c.self.inside in
    let b = c.group-item.result in
    let s = c.seen-in-len1-up-groups.ensures.seen in
    let some : 1 ≤ length (arc_value b) = omega (arith, c.seen-in-len1-up-groups.ensures.some, s.units, length_text c.deref-in-len1-up-groups.result.now, ap length c.deref-in-len1-up-groups.ensures) in
    λ us. ap (λ (cs : List Cell). ends_high (us ++ text_of cs)) (sym c.self.view_is) ∙ blocks_high us a.groups.now a.pages.now b c.in_default.len_below c.in-len1-up-groups.len_at_least c.group-item.is some
    ∙ sym (s.high ∙ ap (λ (cs : List Cell). ends_high (text_of cs)) c.deref-in-len1-up-groups.ensures)
