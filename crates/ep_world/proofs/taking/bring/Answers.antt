use Rattle.std.proofs.Common.{ap, arith, if◌then◌else◌, None}
use Rattle.ep_world.specs.Journal.{full_in}
use Rattle.ep_schedule.specs.World.Reason.{Unread}
use Rattle.ep_event.specs.declared.shown.Reason.TheVariants as why
use Rattle.ep_world.proofs.Brought.{reason-unread, sent-read, sent-unread}
use Rattle.ep_world.proofs.taking.bring.Goals as goal

pub returns-in-Ok-clause-brings : goal.returns-in-Ok-clause-brings
returns-in-Ok-clause-brings g c = λ alone rs pad msg e s.
    let r = sent-read c.args.sent msg c.in-Ok.change e c.in-Ok.is in
    c.accept.ensures.brings alone rs pad msg r.base r.change r.edit s

pub returns-in-Err-clause-brings : goal.returns-in-Err-clause-brings
returns-in-Err-clause-brings g c = λ alone rs pad msg e s.
    let r = sent-unread c.args.sent msg c.in-Err.why e c.in-Err.is in
    (Unread msg.unread, reason-unread pad c.args.session msg r.0, ap (λ x. why.Read x) r.1, s, ap (λ t. if t then full_in rs pad None else None) r.0)

pub returns-in-Ok-clause-counts : goal.returns-in-Ok-clause-counts
returns-in-Ok-clause-counts g c = λ alone rs pad a. c.accept.ensures.counts alone rs pad a

pub returns-in-Err-clause-counts : goal.returns-in-Err-clause-counts
returns-in-Err-clause-counts g c = λ alone rs pad a. omega arith
