use Rattle.std.proofs.Common.{◌≡◌, Err, subst}
use Rattle.ep_world.specs.declared.bad.WorldBad.TheVariants as world_bad
use Rattle.ep_world.specs.Standing.{Plays}
use Rattle.ep_world.proofs.Leading.{no-text, stays, unknown}
use Rattle.ep_world.proofs.schedule.play.Goals as goal

pub returns-in-Ok : goal.returns-in-Ok
returns-in-Ok g c = λ alone first es s.
    stays g.D.Disk.told g.D.Device.failures g.D.Disk.stops_alone alone c.args.world.now c.step.new.self first es (c.args.now, c.args.event) c.in-Ok._shown s
    (subst (λ r. Plays g.D.Disk.told g.D.Device.failures g.D.Disk.stops_alone c.args.world.now c.args.now c.args.event r c.step.new.self) c.in-Ok.is c.step.ensures.plays)

pub returns-in-Err-Unknown : goal.returns-in-Err-Unknown
returns-in-Err-Unknown g c = λ alone first es s.
    let e : c.step.result ≡ Err world_bad.Unknown = cc (c.in-Err-Unknown.is, c.in-Err-Unknown.field-0-is) in
    unknown g.D.Disk.told g.D.Device.failures g.D.Disk.stops_alone alone c.args.world.now c.step.new.self first es (c.args.now, c.args.event) s
    (subst (λ r. Plays g.D.Disk.told g.D.Device.failures g.D.Disk.stops_alone c.args.world.now c.args.now c.args.event r c.step.new.self) e c.step.ensures.plays)

pub returns-in-Err-NoText : goal.returns-in-Err-NoText
returns-in-Err-NoText g c = λ alone first es s.
    let e : c.step.result ≡ Err world_bad.NoText = cc (c.in-Err-NoText.is, c.in-Err-NoText.field-0-is) in
    no-text g.D.Disk.told g.D.Device.failures g.D.Disk.stops_alone alone c.args.world.now c.step.new.self first es (c.args.now, c.args.event) s
    (subst (λ r. Plays g.D.Disk.told g.D.Device.failures g.D.Disk.stops_alone c.args.world.now c.args.now c.args.event r c.step.new.self) e c.step.ensures.plays)
