use Rattle.std.proofs.Common.{subst, ◌/◌}
use Rattle.ep_groups.specs.Asking.{AsksOrLacks}
use Rattle.ep_groups.specs.History.{IsLegal}
use Rattle.ep_groups.specs.declared.entries.DirEntry.TheVariants as dir
use Rattle.ep_groups.specs.declared.entries.DirReply.TheVariants as dirs
use Rattle.ep_session.specs.Passing.{own_of}
use Rattle.ep_session.proofs.Passes.{desk_legal, fresh_own}
use Rattle.ep_session.proofs.Coming.{came_granted, came_denied}
use Rattle.ep_session.proofs.serve.at_desk.Goals as goal

pub returns-in-Ok-clause-came : goal.returns-in-Ok-clause-came
returns-in-Ok-clause-came g c =
    let t = g.L.Link.traffic in
    let d = g.G.DirPort.known in
    let n = c.in_house-hall.new in
    let r = c.in_house-hall.result in
    came_granted (IsLegal g.G.Store.Keeper.always_tells (g.G.DirPort.begun c.args.dir.now)) (g.C.Clock.may_show c.args.clock.now) (t c.args.link.now) (t n.link) (d c.pass-desk.result) (d c.grant.new.pass) _ (own_of g.P.PadPort.known r.pass) c.args.place.now n.place c.args.drawn c.args.ready c.now_ms-now.result c.grant.result c.in-Ok.grant r.end
    (fresh_own _ c.pass-desk.ensures.fresh)
    (subst (λ sessions. AsksOrLacks (IsLegal g.G.Store.Keeper.always_tells (g.G.DirPort.begun c.args.dir.now)) (d c.pass-desk.result) (dir.Grant (record { asked = c.args.ready.pad; sessions = sessions; token = c.args.ready.token; at = c.now_ms-now.result / 1000; drawn = c.args.drawn })) dirs.Grant c.grant.result (d c.grant.new.pass)) c.looked_at.ensures c.grant.ensures.asks)
    c.now_ms-now.ensures c.in-Ok.is c.in_house-hall.ensures.came

pub returns-in-Err-clause-came : goal.returns-in-Err-clause-came
returns-in-Err-clause-came g c =
    let t = g.L.Link.traffic c.args.link.now in
    let d = g.G.DirPort.known in
    came_denied (IsLegal g.G.Store.Keeper.always_tells (g.G.DirPort.begun c.args.dir.now)) (g.C.Clock.may_show c.args.clock.now) t (d c.pass-desk.result) (d c.grant.new.pass) c.args.place.now c.args.drawn c.args.ready c.now_ms-now.result c.grant.result c.in-Err.bad c.from.result
    (fresh_own _ c.pass-desk.ensures.fresh)
    (subst (λ sessions. AsksOrLacks (IsLegal g.G.Store.Keeper.always_tells (g.G.DirPort.begun c.args.dir.now)) (d c.pass-desk.result) (dir.Grant (record { asked = c.args.ready.pad; sessions = sessions; token = c.args.ready.token; at = c.now_ms-now.result / 1000; drawn = c.args.drawn })) dirs.Grant c.grant.result (d c.grant.new.pass)) c.looked_at.ensures c.grant.ensures.asks)
    c.now_ms-now.ensures c.in-Err.is c.from.ensures

pub returns-in-Ok-clause-asked : goal.returns-in-Ok-clause-asked
returns-in-Ok-clause-asked g c = desk_legal (IsLegal g.G.Store.Keeper.always_tells (g.G.DirPort.begun c.args.dir.now)) (g.G.DirPort.known c.pass-desk.result) (g.G.DirPort.known c.grant.new.pass)
    (dir.Grant (record { asked = c.args.ready.pad; sessions = c.looked_at.result.now; token = c.args.ready.token; at = c.now_ms-now.result / 1000; drawn = c.args.drawn })) dirs.Grant c.grant.result c.grant.ensures.asks c.pass-desk.ensures.legal
