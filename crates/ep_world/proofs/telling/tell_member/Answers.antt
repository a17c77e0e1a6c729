use Rattle.std.proofs.Common.{sym, ◌∙◌, arith}
use Rattle.ep_world.proofs.Pushes.{tells-member}
use Rattle.ep_world.proofs.telling.tell_member.Goals as goal

pub returns-clause-told : goal.returns-clause-told
returns-clause-told g c = λ alone rs pad a.
    tells-member g.D.Disk.told g.D.Device.failures g.D.Disk.stops_alone alone rs c.tell.new.machine pad c.args.member.now c.tell.new.conn c.tell.result (sym c.may_be_told.ensures ∙ c.if-not-may_be_told.false) (c.tell.ensures.told alone rs pad a)

pub returns-then-not-may_be_told-clause-counts : goal.returns-then-not-may_be_told-clause-counts
returns-then-not-may_be_told-clause-counts g c = λ alone rs pad a. omega arith

pub returns-clause-counts : goal.returns-clause-counts
returns-clause-counts g c = λ alone rs pad a. c.tell.ensures.counts alone rs pad a
