use Rattle.ep_verify.proofs.Telling.{told_put}
use Rattle.ep_verify.proofs.window.Window.judge_here.Goals as goal

pub returns-clause-told : goal.returns-clause-told
returns-clause-told c told h k =
    told_put told c.args.self.now.verdicts.items c.push.new.self.items c.args.self.now.running.items _ c.args.bytes.now c.in_ok-push.ensures.items k c.in_ok-what.ensures h
