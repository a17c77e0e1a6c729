use Rattle.std.proofs.Common.{◌≡◌, Err}
use Rattle.ep_history.specs.declared.pad_bad.PadBad.TheVariants as bad
use Rattle.ep_world.proofs.Pushes.{read-conn, tells-dead, tells-fetched}
use Rattle.ep_world.proofs.Counting.{fetched-counts, unfetched-counts}
use Rattle.ep_world.proofs.telling.tell.Goals as goal

pub returns-in_ok-tell_next-in-Ok-clause-told : goal.returns-in_ok-tell_next-in-Ok-clause-told
returns-in_ok-tell_next-in-Ok-clause-told g c = λ alone rs pad a.
    let p = c.in_ok-tell_next-in-Ok in
    tells-fetched g.D.Disk.told g.D.Device.failures g.D.Disk.stops_alone alone rs c.args.machine.now c.fetch_first.new.self pad c.args.conn.now (record c.args.conn.now { session = c.session.result; sent = c.sent.result; nops = c.nops.result }) c.tell_next.new.self c.fetch_first.result c.in-Ok.fetched p.field-0
    (read-conn c.args.conn.now c.session.result c.sent.result c.nops.result c.session.ensures c.sent.ensures c.nops.ensures) a (λ st k x. let y = c.fetch_first.ensures st k x in (y.0, y.1, y.2, y.4.alone)) c.in-Ok.is p.ensures.pushed p.ensures.told

pub returns-in_ok-tell_end-in-Err-Dead-clause-told : goal.returns-in_ok-tell_end-in-Err-Dead-clause-told
returns-in_ok-tell_end-in-Err-Dead-clause-told g c = λ alone rs pad a.
    let p = c.in_ok-tell_end-in-Err-Dead in
    let dead : c.fetch_first.result ≡ Err (bad.Dead c.in-Err-Dead.why) = cc (c.in-Err-Dead.is, c.in-Err-Dead.field-0-is, c.in-Err-Dead.why-is) in
    tells-dead g.D.Disk.told g.D.Device.failures g.D.Disk.stops_alone alone rs c.args.machine.now c.fetch_first.new.self pad c.args.conn.now (record c.args.conn.now { session = c.session.result; sent = c.sent.result; nops = c.nops.result }) c.tell_end.new.self c.fetch_first.result c.in-Err-Dead.why p.field-0
    (read-conn c.args.conn.now c.session.result c.sent.result c.nops.result c.session.ensures c.sent.ensures c.nops.ensures) a (λ st k x. let y = c.fetch_first.ensures st k x in (y.0, y.1, y.2, y.4.alone)) dead p.ensures.pushed p.ensures.told

pub returns-in_ok-tell_next-in-Ok-clause-counts : goal.returns-in_ok-tell_next-in-Ok-clause-counts
returns-in_ok-tell_next-in-Ok-clause-counts g c = λ alone rs pad a.
    fetched-counts g.D.Disk.told g.D.Device.failures g.D.Disk.stops_alone alone rs c.args.machine.now c.fetch_first.new.self pad c.session.result c.sent.result c.nops.result 1 c.fetch_first.result c.in-Ok.fetched a
    (λ st k x. let y = c.fetch_first.ensures st k x in (y.0, y.1, y.2, y.4.alone)) c.in-Ok.is

pub returns-in_ok-tell_end-in-Err-Dead-clause-counts : goal.returns-in_ok-tell_end-in-Err-Dead-clause-counts
returns-in_ok-tell_end-in-Err-Dead-clause-counts g c = λ alone rs pad a.
    let dead : c.fetch_first.result ≡ Err (bad.Dead c.in-Err-Dead.why) = cc (c.in-Err-Dead.is, c.in-Err-Dead.field-0-is, c.in-Err-Dead.why-is) in
    (unfetched-counts g.D.Disk.told g.D.Device.failures g.D.Disk.stops_alone alone rs c.args.machine.now c.fetch_first.new.self pad c.session.result c.sent.result c.nops.result 1 c.fetch_first.result (bad.Dead c.in-Err-Dead.why) a
    (λ st k x. let y = c.fetch_first.ensures st k x in (y.0, y.1, y.2, y.4.alone)) dead).0

pub returns-in-Err-clause-counts : goal.returns-in-Err-clause-counts
returns-in-Err-clause-counts g c = λ alone rs pad a.
    rw c.failure.ensures
    ((unfetched-counts g.D.Disk.told g.D.Device.failures g.D.Disk.stops_alone alone rs c.args.machine.now c.fetch_first.new.self pad c.session.result c.sent.result c.nops.result 1 c.fetch_first.result c.in-Err.bad a
    (λ st k x. let y = c.fetch_first.ensures st k x in (y.0, y.1, y.2, y.4.alone)) c.in-Err.is).1)
