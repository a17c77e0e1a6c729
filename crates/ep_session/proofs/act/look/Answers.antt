use Rattle.std.proofs.Common.{refl, sym, ap, ◌∙◌, ◌*◌, [], ◌∷◌}
use Rattle.ep_pad.specs.declared.entries.PadEntry.TheVariants as entry
use Rattle.ep_pad.specs.declared.entries.PadReply.TheVariants as reply
use Rattle.ep_session.specs.Ends.{end_of}
use Rattle.ep_session.specs.Says.{no_moment}
use Rattle.ep_session.specs.Session.{Called, Look, looked}
use Rattle.ep_session.proofs.Passes.{goes_of, legal_on}
use Rattle.ep_session.proofs.Running.{one_ends, err_is, called, look_failed, look_done}
use Rattle.ep_session.proofs.act.look.Goals as goal

pub returns-in_err-piece-clause-done : goal.returns-in_err-piece-clause-done
returns-in_err-piece-clause-done g c =
    let at = c.args.place.now in
    let a = c.args.asked in
    let e = entry.History at.me a.0 (100 * a.1) in
    let r = reply.Piece c.history.result in
    let d = Look a.0 a.1 a.2 in
    called no_moment _ _ _ at at (d ∷ []) e r c.from_residual.result (λ _. []) (goes_of _ _ _ _ c.history.ensures.asks.makes) (tt {0})
    (one_ends at d (Called e r) (end_of c.in_err-piece.field-0.0) c.from_residual.result (λ _. []) (err_is _ _ c.from_residual.ensures.1)
    (c.history.result, refl, sym (ap (looked at a.0 a.1 a.2) c.in_err-piece.was)))

pub returns-in_err-steps-clause-done : goal.returns-in_err-steps-clause-done
returns-in_err-steps-clause-done g c =
    let a = c.args.asked in
    let p = g.P.PadPort.known in
    look_failed (g.L.Link.traffic c.args.link.now) (p c.args.pass.now) (p c.history.new.pass) c.args.place.now a.0 a.1 a.2 c.in_ok-piece.piece c.history.result c.in_err-steps.field-0.0 c.from_residual-in_err-steps.result
    c.in_ok-piece.was c.in_err-steps.ensures (err_is _ _ c.from_residual-in_err-steps.ensures.1) (goes_of _ _ _ _ c.history.ensures.asks.makes)

pub returns-clause-done : goal.returns-clause-done
returns-clause-done g c =
    let a = c.args.asked in
    let t = g.L.Link.traffic in
    let p = g.P.PadPort.known in
    look_done (t c.args.link.now) (t c.show.new.link) (p c.args.pass.now) (p c.history.new.pass) c.args.place.now a.0 a.1 a.2 c.in_ok-piece.piece c.history.result c.in_ok-steps.steps c.show.result
    c.in_ok-piece.was c.in_ok-steps.ensures (goes_of _ _ _ _ c.history.ensures.asks.makes) (c.show.ensures.done c.args.place.now)

pub returns-in_err-piece-clause-legal : goal.returns-in_err-piece-clause-legal
returns-in_err-piece-clause-legal g c = λ _. legal_on _ c.history.ensures.pad.2 c.history.ensures.asks.legal

pub returns-in_err-steps-clause-legal : goal.returns-in_err-steps-clause-legal
returns-in_err-steps-clause-legal g c = λ _. legal_on _ c.history.ensures.pad.2 c.history.ensures.asks.legal

pub returns-clause-legal : goal.returns-clause-legal
returns-clause-legal g c = λ _. legal_on _ c.history.ensures.pad.2 c.history.ensures.asks.legal
