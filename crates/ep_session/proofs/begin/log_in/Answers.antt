use Rattle.std.proofs.Common.{refl, sym, ap, subst, [], ◌∷◌}
use Rattle.ep_pad.specs.Lazy.{IsLegalFrom}
use Rattle.ep_pad.specs.declared.entries.PadEntry.TheVariants as entry
use Rattle.ep_pad.specs.declared.entries.PadReply.TheVariants as reply
use Rattle.ep_wire_words.specs.declared.server.ServerMsg.TheVariants as msg
use Rattle.ep_session.specs.Says.{SendsAs}
use Rattle.ep_session.specs.Session.{Called, Login, Fetch, Hear, Say, Then, welcomed, welcome_place, vars}
use Rattle.ep_session.proofs.Passes.{answered, asked_legal}
use Rattle.ep_session.proofs.Running.{err_is, called_say, called_short, asked_failed}
use Rattle.ep_session.proofs.begin.log_in.Goals as goal

pub returns-in_err-welcome-clause-done : goal.returns-in_err-welcome-clause-done
returns-in_err-welcome-clause-done g c =
    let at = c.args.place.now in
    let grant = c.args.grant.now in
    asked_failed (IsLegalFrom g.P.Store.Disk.told g.P.Store.Device.failures (g.P.PadPort.begun c.args.pass.now)) (g.C.Clock.may_show c.args.clock.now) (g.L.Link.traffic c.args.link.now) _ _ at (Login grant) (entry.Login grant c.now_ms.result) (λ r. reply.Welcome r) c.login.result c.in_err-welcome.field-0.0 c.from_residual.result (λ _. Fetch ∷ Hear ∷ [])
    c.login.ensures.asks c.in_err-welcome.was (err_is _ _ c.from_residual.ensures.1) (c.now_ms.ensures, tt)
    (c.now_ms.result, c.login.result, refl, sym (ap (welcomed at grant) c.in_err-welcome.was))

pub returns-in_err-copy-clause-done : goal.returns-in_err-copy-clause-done
returns-in_err-copy-clause-done g c =
    let at = c.args.place.now in
    let grant = c.args.grant.now in
    let w = c.in_ok-welcome.welcome in
    called_short {X = Unit {0}} (g.C.Clock.may_show c.args.clock.now) (g.L.Link.traffic c.args.link.now) _ _ at (welcome_place w) (Login grant) (entry.Login grant c.now_ms.result) (reply.Welcome c.login.result) (Say (vars grant w) ∷ Fetch ∷ Hear ∷ []) c.from_residual-in_err-copy.result (λ _. Fetch ∷ Hear ∷ [])
    (err_is _ _ c.from_residual-in_err-copy.ensures.1) (c.now_ms.result, c.login.result, refl, sym (ap (welcomed at grant) c.in_ok-welcome.was)) (answered (IsLegalFrom g.P.Store.Disk.told g.P.Store.Device.failures (g.P.PadPort.begun c.args.pass.now)) _ _ _ (λ r. reply.Welcome r) c.login.result w c.login.ensures.asks c.in_ok-welcome.was) (c.now_ms.ensures, tt)

pub returns-clause-done : goal.returns-clause-done
returns-clause-done g c =
    let at = c.args.place.now in
    let grant = c.args.grant.now in
    let w = c.in_ok-welcome.welcome in
    called_say (g.C.Clock.may_show c.args.clock.now) (g.L.Link.traffic c.args.link.now) (g.L.Link.traffic c.say.new.link) _ _ at (welcome_place w)
    (Login grant) (entry.Login grant c.now_ms.result) (reply.Welcome c.login.result) (vars grant w) c.say.result (Fetch ∷ Hear ∷ [])
    (c.now_ms.result, c.login.result, refl, sym (ap (welcomed at grant) c.in_ok-welcome.was)) (answered (IsLegalFrom g.P.Store.Disk.told g.P.Store.Device.failures (g.P.PadPort.begun c.args.pass.now)) _ _ _ (λ r. reply.Welcome r) c.login.result w c.login.ensures.asks c.in_ok-welcome.was) (c.now_ms.ensures, tt)
    (subst (λ asked. SendsAs (msg.Vars asked w.author w.read_only w.session w.birth w.rev w.doc w.time) (g.L.Link.traffic c.args.link.now) (g.L.Link.traffic c.say.new.link) c.say.result) c.in_ok-copy.ensures c.say.ensures.sent)

pub returns-clause-legal : goal.returns-clause-legal
returns-clause-legal g c = asked_legal g.P.Store.Disk.told g.P.Store.Device.failures _ _ _ _ (λ r. reply.Welcome r) _ _ c.login.ensures.pad.2 c.login.ensures.asks

pub returns-in_err-welcome-clause-legal : goal.returns-in_err-welcome-clause-legal
returns-in_err-welcome-clause-legal g c = asked_legal g.P.Store.Disk.told g.P.Store.Device.failures _ _ _ _ (λ r. reply.Welcome r) _ _ c.login.ensures.pad.2 c.login.ensures.asks

pub returns-in_err-copy-clause-legal : goal.returns-in_err-copy-clause-legal
returns-in_err-copy-clause-legal g c = asked_legal g.P.Store.Disk.told g.P.Store.Device.failures _ _ _ _ (λ r. reply.Welcome r) _ _ c.login.ensures.pad.2 c.login.ensures.asks
