use Rattle.ep_verify.proofs.Telling.{names_step, told_step}
use Rattle.ep_verify.proofs.window.Window.finish_first.Goals as goal

pub returns-clause-names : goal.returns-clause-names
returns-clause-names g c =
    names_step c.args.self.now.verdicts.items c.push.new.self.items c.pop_front.new.self.items c.args.self.now.running.items c.in-Some.first c.in_ok-verdict.verdict
    c.in_ok-push.ensures.items c.in_ok-verdict.ensures c.in-Some.ensures.items

pub returns-clause-told : goal.returns-clause-told
returns-clause-told g c told h =
    told_step told c.args.self.now.verdicts.items c.push.new.self.items c.pop_front.new.self.items c.args.self.now.running.items c.in-Some.first c.in_ok-verdict.verdict
    c.in_ok-push.ensures.items c.in_ok-verdict.ensures c.in-Some.ensures.items h
