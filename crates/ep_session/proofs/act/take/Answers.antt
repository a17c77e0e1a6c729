use Rattle.std.proofs.Common.{refl, sym, ap, ◌∙◌, [], ◌∷◌}
use Rattle.ep_pad.specs.declared.entries.PadEntry.TheVariants as entry
use Rattle.ep_pad.specs.declared.entries.PadReply.TheVariants as reply
use Rattle.ep_session.specs.Ends.{end_of}
use Rattle.ep_session.specs.Session.{Called, Take, Then, took}
use Rattle.ep_session.proofs.Running.{one_then, one_ends, err_is, called}
use Rattle.ep_session.proofs.Passes.{goes_of, legal_on}
use Rattle.ep_session.proofs.act.take.Goals as goal

pub returns-in_err-accept-clause-done : goal.returns-in_err-accept-clause-done
returns-in_err-accept-clause-done g c sent =
    let at = c.args.place.now in
    let e = entry.Accept at.me c.args.base c.args.change c.now_ms-now.result in
    let r = reply.Committed c.accept.result in
    called (g.C.Clock.may_show c.args.clock.now) sent _ _ at at (Take c.args.base c.args.change ∷ []) e r c.from_residual.result (λ _. []) (goes_of _ _ _ _ c.accept.ensures.asks.makes) (c.now_ms-now.ensures, tt)
    (one_ends at (Take c.args.base c.args.change) (Called e r) (end_of c.in_err-accept.field-0.0) c.from_residual.result (λ _. []) (err_is _ _ c.from_residual.ensures.1)
    (c.now_ms-now.result, c.accept.result, refl, sym (ap (took at) c.in_err-accept.was)))

pub returns-clause-done : goal.returns-clause-done
returns-clause-done g c sent =
    let at = c.args.place.now in
    let e = entry.Accept at.me c.args.base c.args.change c.now_ms-now.result in
    let r = reply.Committed c.accept.result in
    let to = record at { taken = c.counted-place.result } in
    called {X = Unit {0}} (g.C.Clock.may_show c.args.clock.now) sent _ _ at to (Take c.args.base c.args.change ∷ []) e r _ (λ _. []) (goes_of _ _ _ _ c.accept.ensures.asks.makes) (c.now_ms-now.ensures, tt)
    (one_then at to (Take c.args.base c.args.change) (Called e r) [] (tt {0}) (λ _. [])
    (c.now_ms-now.result, c.accept.result, refl, ap (λ t. Then (record at { taken = t }) []) c.counted-place.ensures ∙ sym (ap (took at) c.in_ok-accept.was))
    refl)

pub returns-in_err-accept-clause-legal : goal.returns-in_err-accept-clause-legal
returns-in_err-accept-clause-legal g c = λ _. legal_on _ c.accept.ensures.pad.2 c.accept.ensures.asks.legal

pub returns-clause-legal : goal.returns-clause-legal
returns-clause-legal g c = λ _. legal_on _ c.accept.ensures.pad.2 c.accept.ensures.asks.legal
