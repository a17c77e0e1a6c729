use Rattle.std.proofs.Common.{◌≡◌, ◌∙◌, ◌-◌, ◌++◌, get_or, sym, arith}
use Rattle.ep_cs.specs.Runs.{cells}
use Rattle.ep_block_parts.specs.Spans.{left_of}
use Rattle.ep_block_parts.proofs.Spans.{piece_at, some_left}
use Rattle.ep_block_parts.proofs.within.Within.take.Goals as goal

pub returns-then-units-self : goal.returns-then-units-self
returns-then-units-self c =
    let r = c.self.inside in
    let ss = r.spans.now in
    let left = r.left in
    let us = r.text.now in
    let k = c.min-units.result in
    let s = c.span-item.result in
    let is : s ≡ get_or ss 0 s = c.span-item.is in
    let some = some_left ss left c.in-len1-up.len_at_least c.self.invariant.spans in (
      sym c.self.view_is ∙ piece_at ss s left k us c.in-len1-up.len_at_least is (omega (arith, c.if-units-self.true))
          ∙ (λ i. cells s.attrs (sym c.split_at.ensures.front i) ++ left_of ss (left - k) (sym c.split_at.ensures.back i)),
      omega (arith, c.split_at.ensures.front_len, c.min-units.ensures, some, c.requires),
      omega (arith, c.split_at.ensures.front_len, c.min-units.ensures),
    )
