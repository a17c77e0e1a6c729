use Rattle.std.proofs.Common.{◌≡◌, length, vec_len, subst, arith}
use Rattle.ep_undo.specs.Stacks.{HasRoom}
use Rattle.ep_undo.proofs.Stacks.{alike-at, can-top, heard-at, heard-none, on-err, on-ok}
use Rattle.ep_undo.proofs.stack.Stack.hear.Goals as goal

pub returns-in_default-clause-heard : goal.returns-in_default-clause-heard
returns-in_default-clause-heard c =
    let n : length c.args.self.now.records.items ≡ 0 = grind (arith, c.in_default.ensures.cases) in
    let m : length c.pop_back.new.self.items ≡ 0 = grind (arith, c.in_default.ensures.cases) in
    heard-none c.args.self.now.records.items c.pop_back.new.self.items c.args.changes.now.items n m

pub returns-clause-heard : goal.returns-clause-heard
returns-clause-heard c =
    on-ok c.hear-heard.result
    (λ h. heard-at c.args.self.now.records.items c.push_back_reserved.new.self.items c.pop_back.new.self.items c.in-Some.top c.hear-heard.new.self c.args.changes.now.items
    c.in-Some.ensures.items c.push_back_reserved.ensures.items c.hear-heard.ensures.change h)
    c.hear-heard.ensures.heard

pub returns-clause-kept : goal.returns-clause-kept
returns-clause-kept c =
    on-err c.hear-heard.result
    (λ h. alike-at c.args.self.now.records.items c.push_back_reserved.new.self.items c.pop_back.new.self.items c.in-Some.top c.hear-heard.new.self
    c.in-Some.ensures.items c.push_back_reserved.ensures.items c.hear-heard.ensures.change h)
    c.hear-heard.ensures.kept

pub returns-clause-succeeds : goal.returns-clause-succeeds
returns-clause-succeeds c can =
    c.hear-heard.ensures.succeeds
    (can-top (vec_len c.args.changes.now) c.pop_back.new.self.items c.in-Some.top (subst (HasRoom (vec_len c.args.changes.now)) c.in-Some.ensures.items can))
