use Rattle.std.proofs.Common.{ap, subst}
use Rattle.ep_verify.specs.Verdicts.{IsWhat}
use Rattle.ep_verify.proofs.Telling.{told_put}
use Rattle.ep_verify.proofs.window.Window.start.Goals as goal

pub returns-in_ok-push-in-Err-clause-told : goal.returns-in_ok-push-in-Err-clause-told
returns-in_ok-push-in-Err-clause-told g c told h k =
    let what = c.in_ok-what-in-Err.ensures in
    told_put told c.finish_all.new.self.verdicts.items c.push.new.self.items c.finish_all.new.self.running.items _ c.args.bytes.items c.in_ok-push-in-Err.ensures.items k (subst (λ bs. IsWhat bs c.in_ok-what-in-Err.what) (ap (λ p. p.1.items) c.in-Err.ensures.err) what) (c.in_ok-finish_all-in-Err.ensures.told told h)
