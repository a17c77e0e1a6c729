use Rattle.std.proofs.Common.{◌≡◌, ◌∙◌, ◌++◌, take, drop, ap, sym, subst, arith}
use Rattle.std.specs.Arc.{arc_value}
use Rattle.ep_units.specs.Text.{Text}
use Rattle.ep_cs.specs.Doc.{text_of}
use Rattle.ep_block_parts.specs.Seen.{Sees}
use Rattle.ep_block_parts.proofs.Texts.{few_lines}
use Rattle.ep_block_nodes.proofs.Blocks.{no_units, text_take, text_drop, text-append, front_seen, front_left}
use Rattle.ep_blocks.proofs.passing.Passing.pass_piece.Goals as goal

pub returns-then-seen-most-clause-seen : goal.returns-then-seen-most-clause-seen
returns-then-seen-most-clause-seen c =
    let p = c.self.inside in
    let s = c.pass-seen in
    let all = ap (λ (us : Text). us ++ text_of p.ahead) (sym (no_units p.here.now (sym c.is_empty.ensures ∙ c.if-not-is_empty.false))) ∙ c.self.view_is in
    subst (Sees s.result) (text_take s.result.units p.ahead ∙ ap (take s.result.units) all) s.ensures.passed.seen

pub returns-then-seen-most-clause-rest : goal.returns-then-seen-most-clause-rest
returns-then-seen-most-clause-rest c =
    let p = c.self.inside in
    let s = c.pass-seen in
    let none = no_units p.here.now (sym c.is_empty.ensures ∙ c.if-not-is_empty.false) in
    let all = ap (λ (us : Text). us ++ text_of p.ahead) (sym none) ∙ c.self.view_is in
    ap (λ (us : Text). us ++ text_of s.new.self) none ∙ ap text_of s.ensures.passed.left ∙ text_drop s.result.units p.ahead ∙ ap (drop s.result.units) all

pub then-requires-clause-lines : goal.then-requires-clause-lines
then-requires-clause-lines c =
    let s = c.pass-seen in
    let t = c.pass_front-in-Some in
    omega (arith, few_lines s.result _ s.ensures.passed.seen, few_lines t.result _ t.ensures.seen, s.ensures.most, t.ensures.most)

pub returns-in-None-clause-seen : goal.returns-in-None-clause-seen
returns-in-None-clause-seen c =
    let p = c.self.inside in
    let s = c.pass-seen in
    let all = ap (λ (us : Text). us ++ text_of p.ahead) (sym (no_units p.here.now (sym c.is_empty.ensures ∙ c.if-not-is_empty.false))) ∙ c.self.view_is in
    subst (Sees s.result) (text_take s.result.units p.ahead ∙ ap (take s.result.units) all) s.ensures.passed.seen

pub returns-in-Some-clause-seen : goal.returns-in-Some-clause-seen
returns-in-Some-clause-seen c =
    let p = c.self.inside in
    let s = c.pass-seen in
    let t = c.pass_front-in-Some in
    let here = c.text-self-inside in
    let rest = c.take.new.self in
    let all = ap (λ (us : Text). us ++ text_of p.ahead) (sym (no_units p.here.now (sym c.is_empty.ensures ∙ c.if-not-is_empty.false))) ∙ c.self.view_is in
    let mid : text_of s.new.self ≡ here.result.now ++ text_of rest =
    ap text_of c.in-Some.ensures ∙ text-append (arc_value c.in-Some.block.now) rest ∙ ap (λ (us : Text). us ++ text_of rest) (sym (here.ensures.text ∙ ap text_of c.deref.ensures)) in
    subst (λ (us : Text). Sees c.then.result (take c.then.result.units us)) all
    (front_seen s.result t.result c.then.result p.ahead s.new.self rest here.result.now s.ensures.passed mid t.ensures.seen c.then.ensures.units c.then.ensures.seen)

pub returns-in-Some-clause-rest : goal.returns-in-Some-clause-rest
returns-in-Some-clause-rest c =
    let p = c.self.inside in
    let s = c.pass-seen in
    let t = c.pass_front-in-Some in
    let here = c.text-self-inside in
    let rest = c.take.new.self in
    let all = ap (λ (us : Text). us ++ text_of p.ahead) (sym (no_units p.here.now (sym c.is_empty.ensures ∙ c.if-not-is_empty.false))) ∙ c.self.view_is in
    let mid : text_of s.new.self ≡ here.result.now ++ text_of rest =
    ap text_of c.in-Some.ensures ∙ text-append (arc_value c.in-Some.block.now) rest ∙ ap (λ (us : Text). us ++ text_of rest) (sym (here.ensures.text ∙ ap text_of c.deref.ensures)) in
    front_left s.result t.result c.then.result p.ahead s.new.self rest here.result.now t.new.text.now s.ensures.passed mid t.ensures.seen t.ensures.rest c.then.ensures.units ∙ ap (drop c.then.result.units) all
