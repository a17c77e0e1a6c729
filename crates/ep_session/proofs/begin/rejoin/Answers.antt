use Rattle.std.proofs.Common.{refl, sym, ap, subst, [], ◌∷◌}
use Rattle.ep_pad.specs.Asking.{AsksOrLacks}
use Rattle.ep_pad.specs.Lazy.{IsLegalFrom}
use Rattle.ep_pad.specs.declared.entries.PadEntry.TheVariants as entry
use Rattle.ep_pad.specs.declared.entries.PadReply.TheVariants as reply
use Rattle.ep_wire_words.specs.declared.server.ServerMsg.TheVariants as msg
use Rattle.ep_session.specs.Session.{Called, Rejoin, Fetch, Hear, rejoined, rejoin_place}
use Rattle.ep_session.proofs.Passes.{answered, asked_legal}
use Rattle.ep_session.proofs.Running.{one_then, err_is, called, called_say, asked_failed, rejoined_none, rejoined_some, same_true, other_false}
use Rattle.ep_session.proofs.begin.rejoin.Goals as goal

pub returns-in_err-caught-clause-done : goal.returns-in_err-caught-clause-done
returns-in_err-caught-clause-done g c =
    let at = c.args.place.now in
    let a = c.args.again.now in
    let grant = c.args.grant.now in
    let u = g.P.PadPort.known c.args.pass.now in
    let v = g.P.PadPort.known c.resume.new.pass in
    asked_failed (IsLegalFrom g.P.Store.Disk.told g.P.Store.Device.failures (g.P.PadPort.begun c.args.pass.now)) (g.C.Clock.may_show c.args.clock.now) (g.L.Link.traffic c.args.link.now) u v at (Rejoin grant a) (entry.Resume grant a.rev a.birth a.author c.now_ms.result) (λ r. reply.CatchUp r) c.resume.result c.in_err-caught.field-0.0 c.from_residual.result (λ _. Fetch ∷ Hear ∷ [])
    (subst (λ who. AsksOrLacks (IsLegalFrom g.P.Store.Disk.told g.P.Store.Device.failures (g.P.PadPort.begun c.args.pass.now)) u (entry.Resume grant a.rev a.birth who c.now_ms.result) (λ r. reply.CatchUp r) c.resume.result v) c.as_ref.ensures.value c.resume.ensures.asks)
    c.in_err-caught.was (err_is _ _ c.from_residual.ensures.1) (c.now_ms.ensures, tt)
    (c.now_ms.result, c.resume.result, refl, sym (ap (rejoined at a.rev) c.in_err-caught.was))

pub returns-then-again-caught-clause-done : goal.returns-then-again-caught-clause-done
returns-then-again-caught-clause-done g c =
    let at = c.args.place.now in
    let a = c.args.again.now in
    let grant = c.args.grant.now in
    let u = g.P.PadPort.known c.args.pass.now in
    let v = g.P.PadPort.known c.resume.new.pass in
    let e = entry.Resume grant a.rev a.birth a.author c.now_ms.result in
    let w = c.in_ok-caught.caught in
    called {X = Unit {0}} (g.C.Clock.may_show c.args.clock.now) (g.L.Link.traffic c.args.link.now) u v at (rejoin_place a.rev w) (Rejoin grant a ∷ []) e (reply.CatchUp c.resume.result) _ (λ _. Fetch ∷ Hear ∷ [])
    (answered (IsLegalFrom g.P.Store.Disk.told g.P.Store.Device.failures (g.P.PadPort.begun c.args.pass.now)) u v e (λ r. reply.CatchUp r) c.resume.result w
    (subst (λ who. AsksOrLacks (IsLegalFrom g.P.Store.Disk.told g.P.Store.Device.failures (g.P.PadPort.begun c.args.pass.now)) u (entry.Resume grant a.rev a.birth who c.now_ms.result) (λ r. reply.CatchUp r) c.resume.result v) c.as_ref.ensures.value c.resume.ensures.asks) c.in_ok-caught.was)
    (c.now_ms.ensures, tt)
    (one_then at (rejoin_place a.rev w) (Rejoin grant a) (Called e (reply.CatchUp c.resume.result)) (Fetch ∷ Hear ∷ []) (tt {0}) (λ _. Fetch ∷ Hear ∷ [])
    (c.now_ms.result, c.resume.result, refl, rejoined_some at a.rev w c.resume.result c.in_ok-caught.was (other_false a.rev w.head c.if-again-caught.true)) refl)

pub returns-clause-done : goal.returns-clause-done
returns-clause-done g c =
    let at = c.args.place.now in
    let a = c.args.again.now in
    let grant = c.args.grant.now in
    let t = g.L.Link.traffic in
    let u = g.P.PadPort.known c.args.pass.now in
    let v = g.P.PadPort.known c.resume.new.pass in
    let e = entry.Resume grant a.rev a.birth a.author c.now_ms.result in
    let w = c.in_ok-caught.caught in
    called_say (g.C.Clock.may_show c.args.clock.now) (t c.args.link.now) (t c.say.new.link) u v at (rejoin_place a.rev w) (Rejoin grant a) e (reply.CatchUp c.resume.result) (msg.ReconnectNone w.session w.birth w.head w.head) c.say.result (Fetch ∷ Hear ∷ [])
    (c.now_ms.result, c.resume.result, refl, rejoined_none at a.rev w c.resume.result c.in_ok-caught.was (same_true a.rev w.head c.if-again-caught.false))
    (answered (IsLegalFrom g.P.Store.Disk.told g.P.Store.Device.failures (g.P.PadPort.begun c.args.pass.now)) u v e (λ r. reply.CatchUp r) c.resume.result w
    (subst (λ who. AsksOrLacks (IsLegalFrom g.P.Store.Disk.told g.P.Store.Device.failures (g.P.PadPort.begun c.args.pass.now)) u (entry.Resume grant a.rev a.birth who c.now_ms.result) (λ r. reply.CatchUp r) c.resume.result v) c.as_ref.ensures.value c.resume.ensures.asks) c.in_ok-caught.was)
    (c.now_ms.ensures, tt) c.say.ensures.sent

pub returns-in_err-caught-clause-legal : goal.returns-in_err-caught-clause-legal
returns-in_err-caught-clause-legal g c = asked_legal g.P.Store.Disk.told g.P.Store.Device.failures _ _ _ _ (λ r. reply.CatchUp r) _ _ c.resume.ensures.pad.2 c.resume.ensures.asks

pub returns-then-again-caught-clause-legal : goal.returns-then-again-caught-clause-legal
returns-then-again-caught-clause-legal g c = asked_legal g.P.Store.Disk.told g.P.Store.Device.failures _ _ _ _ (λ r. reply.CatchUp r) _ _ c.resume.ensures.pad.2 c.resume.ensures.asks

pub returns-clause-legal : goal.returns-clause-legal
returns-clause-legal g c = asked_legal g.P.Store.Disk.told g.P.Store.Device.failures _ _ _ _ (λ r. reply.CatchUp r) _ _ c.resume.ensures.pad.2 c.resume.ensures.asks
