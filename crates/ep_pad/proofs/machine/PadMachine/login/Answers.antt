use Rattle.std.proofs.Common.{Ok, refl, sym, subst}
use Rattle.std.proofs.lemmas.Result.{err_from_is_err_and}
use Rattle.ep_history.specs.Entries.Answer.{LoginAnswer}
use Rattle.ep_history.specs.Entries.Entry.{Login}
use Rattle.ep_history.specs.Entries.{outcome}
use Rattle.ep_pad_state.specs.Answering.{LogsIn, welcome_of}
use Rattle.ep_pad.specs.Crashes.{Comes}
use Rattle.ep_pad.proofs.Crashing.{steps-over}
use Rattle.ep_pad.proofs.Stepping.{asleep, changes, comes-with, keeps, opened, unready}
use Rattle.ep_pad.proofs.machine.PadMachine.login.Goals as goal

pub returns-in_err-wake-clause-steps : goal.returns-in_err-wake-clause-steps
returns-in_err-wake-clause-steps g c st k s =
    let p = err_from_is_err_and c.from_residual.result c.from_residual.ensures.1 in
    rw (p.1, p.2) (steps-over g.D.Disk.told g.D.Device.failures g.D.Disk.moment g.D.Disk.since g.D.Device.is_steady g.D.Disk.stops_alone g.D.Disk.left st _ _ c.args.self.now _ (asleep g.D.Disk.told g.D.Device.failures g.D.Disk.moment g.D.Disk.since g.D.Device.is_steady g.D.Disk.stops_alone g.D.Disk.left st c.args.self.now _ _ _ (c.in_err-wake.ensures.wakes st k s)))

pub returns-in_err-welcome-clause-steps : goal.returns-in_err-welcome-clause-steps
returns-in_err-welcome-clause-steps g c st k s =
    let p = err_from_is_err_and c.from_residual-in_err-welcome.result c.from_residual-in_err-welcome.ensures.1 in
    let w = c.in_ok-wake.ensures.wakes st k s in
    let m = subst (λ m. Comes g.D.Disk.told g.D.Device.failures g.D.Disk.moment g.D.Disk.since g.D.Device.is_steady g.D.Disk.stops_alone g.D.Disk.left c.args.self.now st m w.0) (sym c.self.view_is) w.2 in
    let a = c.in_err-welcome.ensures.answer w.0.pad (opened g.D.Disk.told g.D.Device.failures st w.0 _ w.1 m.0).pad in
    rw (p.1, p.2) (steps-over g.D.Disk.told g.D.Device.failures g.D.Disk.moment g.D.Disk.since g.D.Device.is_steady g.D.Disk.stops_alone g.D.Disk.left st _ _ c.args.self.now _ (unready g.D.Disk.told g.D.Device.failures g.D.Disk.moment g.D.Disk.since g.D.Device.is_steady g.D.Disk.stops_alone g.D.Disk.left st w.0 c.args.self.now _ _ _ _ w.1 m a.1 a.0))

pub returns-in-Entered-clause-steps : goal.returns-in-Entered-clause-steps
returns-in-Entered-clause-steps g c st k s =
    let w = c.in_ok-wake.ensures.wakes st k s in
    let m = subst (λ m. Comes g.D.Disk.told g.D.Device.failures g.D.Disk.moment g.D.Disk.since g.D.Device.is_steady g.D.Disk.stops_alone g.D.Disk.left c.args.self.now st m w.0) (sym c.self.view_is) w.2 in
    steps-over g.D.Disk.told g.D.Device.failures g.D.Disk.moment g.D.Disk.since g.D.Device.is_steady g.D.Disk.stops_alone g.D.Disk.left st _ _ c.args.self.now _ (changes g.D.Disk.told g.D.Device.failures g.D.Disk.moment g.D.Disk.since g.D.Device.is_steady g.D.Disk.stops_alone g.D.Disk.left st w.0 c.args.self.now _ _ _ (λ x. LoginAnswer (welcome_of x)) (Ok c.in-Entered.welcome) k w.1 m
    (λ p is. subst (LogsIn p (outcome p (Login c.args.grant.now c.args.now)) c.login.new.self) c.in-Entered.is (c.in_ok-welcome.ensures.answer p is)))

pub returns-in-Makes-clause-steps : goal.returns-in-Makes-clause-steps
returns-in-Makes-clause-steps g c st k s =
    let w = c.in_ok-wake.ensures.wakes st k s in
    let m = subst (λ m. Comes g.D.Disk.told g.D.Device.failures g.D.Disk.moment g.D.Disk.since g.D.Device.is_steady g.D.Disk.stops_alone g.D.Disk.left c.args.self.now st m w.0) (sym c.self.view_is) w.2 in
    let is = (opened g.D.Disk.told g.D.Device.failures st w.0 _ w.1 m.0).pad in
    let a = subst (LogsIn w.0.pad (outcome w.0.pad (Login c.args.grant.now c.args.now)) c.login.new.self) c.in-Makes.is (c.in_ok-welcome.ensures.answer w.0.pad is) in
    let now = comes-with g.D.Disk.told g.D.Device.failures g.D.Disk.moment g.D.Disk.since g.D.Device.is_steady g.D.Disk.stops_alone g.D.Disk.left st w.0 c.args.self.now _ _ w.0.pad w.1 m a.1 refl in
    steps-over g.D.Disk.told g.D.Device.failures g.D.Disk.moment g.D.Disk.since g.D.Device.is_steady g.D.Disk.stops_alone g.D.Disk.left st _ _ c.args.self.now _ (keeps g.D.Disk.told g.D.Device.failures g.D.Disk.moment g.D.Disk.since g.D.Device.is_steady g.D.Disk.stops_alone g.D.Disk.left st w.0 c.args.self.now _ _ _ _ c.in-Makes.ready _ w.1 now a.0 refl (c.keep.ensures.keeps w.0 now.0))
