use Rattle.std.proofs.Common.{◌∙◌, ◌++◌, List, sym, subst, arith}
use Rattle.ep_cs.specs.Doc.{Cell}
use Rattle.ep_block_parts.proofs.Texts.{few_lines}
use Rattle.ep_block_nodes.specs.Blocks.{all_cells, its_own, IsPassed}
use Rattle.ep_block_nodes.proofs.Blocks.{no_nodes, passed_two, passed_on}
use Rattle.ep_block_nodes.proofs.ahead.Ahead.pass.Goals as goal

pub then-groups-requires-clause-lines : goal.then-groups-requires-clause-lines
then-groups-requires-clause-lines c =
    let s = c.pass_within-begun in
    let t = c.pass in
    omega (arith, few_lines s.result _ s.ensures.passed.seen, few_lines t.result _ t.ensures.passed.seen, s.ensures.most, t.ensures.most)

pub then-requires-clause-lines : goal.then-requires-clause-lines
then-requires-clause-lines c =
    let a = c.self.inside in
    let s = c.pass_within-begun in
    let t = c.pass in
    let m = c.then-groups in
    let u = c.pass_within in
    let none = no_nodes its_own s.new.nodes.now (sym c.is_empty.ensures ∙ c.if-not-is_empty.false) in
    let two = passed_two s.result t.result m.result (all_cells a.blocks.now) (all_cells s.new.nodes.now) a.groups t.new.self s.ensures.passed none t.ensures.passed m.ensures.units m.ensures.seen in
    omega (arith, few_lines m.result _ two.seen, few_lines u.result _ u.ensures.passed.seen, m.ensures.units, s.ensures.most, t.ensures.most, u.ensures.most)

pub then-requires-clause-tail : goal.then-requires-clause-tail
then-requires-clause-tail c =
    let a = c.self.inside in
    let s = c.pass_within-begun in
    let t = c.pass in
    let m = c.then-groups in
    let none = no_nodes its_own s.new.nodes.now (sym c.is_empty.ensures ∙ c.if-not-is_empty.false) in
    let two = passed_two s.result t.result m.result (all_cells a.blocks.now) (all_cells s.new.nodes.now) a.groups t.new.self s.ensures.passed none t.ensures.passed m.ensures.units m.ensures.seen in
    omega (arith, two.seen.within, m.ensures.units, s.ensures.most, t.ensures.most, c.pass_within.ensures.most)

pub returns-clause-passed : goal.returns-clause-passed
returns-clause-passed c =
    let a = c.self.inside in
    let b = c.self-2.inside in
    let s = c.pass_within-begun in
    let t = c.pass in
    let m = c.then-groups in
    let u = c.pass_within in
    let none = no_nodes its_own s.new.nodes.now (sym c.is_empty.ensures ∙ c.if-not-is_empty.false) in
    let two = passed_two s.result t.result m.result (all_cells a.blocks.now) (all_cells s.new.nodes.now) a.groups t.new.self s.ensures.passed none t.ensures.passed m.ensures.units m.ensures.seen in
    subst (λ (all : List Cell). IsPassed c.then.result all (all_cells u.new.nodes.now ++ b.groups)) c.self.view_is
    (passed_on m.result u.result c.then.result (all_cells a.blocks.now ++ a.groups) (all_cells s.new.nodes.now ++ t.new.self) (all_cells b.blocks.now) (all_cells u.new.nodes.now) b.groups two
    (c.self-2.view_is ∙ c.begin.ensures) u.ensures.passed c.then.ensures.units c.then.ensures.seen)
