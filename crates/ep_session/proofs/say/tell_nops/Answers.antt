use Rattle.std.proofs.Common.{◌≡◌, ◌-◌, ◌+◌, ◌∙◌, ap, refl, [], ◌∷◌, ◌++◌, arith}
use Rattle.std.specs.Prelude.{Ok}
use Rattle.ep_session.specs.Session.{nops_due}
use Rattle.ep_session.proofs.Running.{link_ended, link_as, err_is}
use Rattle.ep_session.proofs.Telling.{nothing_sent, nop_on}
use Rattle.ep_session.proofs.say.tell_nops.Goals as goal

pub loop-told-init : goal.loop-told-init
loop-told-init g c = record { done = nothing_sent (g.L.Link.traffic c.args.link.now) c.args.place.now (nops_due c.args.count) (nops_due (c.args.count - 0)) (ap nops_due (omega arith)); rev = refl; later = omega arith }

pub returns-in_err-tell_nop-clause-done : goal.returns-in_err-tell_nop-clause-done
returns-in_err-tell_nop-clause-done g c =
    let l = c.loop-told in
    let n = c.tell_nop.new in
    let t = g.L.Link.traffic in
    link_ended (t c.args.link.now) (t n.link) c.args.place.now n.place (nops_due c.args.count) c.tell_nop.result (λ _. [] ++ nops_due (c.args.count - (l.told + 1))) c.from_residual.result (λ _. []) c.in_err-tell_nop.field-0.0
    c.in_err-tell_nop.was (err_is _ _ c.from_residual.ensures.1)
    (nop_on (t c.args.link.now) (t l.link) (t n.link) c.args.place.now l.place n.place (nops_due c.args.count) c.args.count l.told c.tell_nop.result (omega arith) l.invariant.done c.tell_nop.ensures.sent c.tell_nop.ensures.ok c.tell_nop.ensures.err)

pub loop-told-preserved : goal.loop-told-preserved
loop-told-preserved g c =
    let l = c.loop-told in
    let n = c.tell_nop.new in
    let i = c.in_ok-tell_nop in
    let t = g.L.Link.traffic in
    record {
      done = nop_on (t c.args.link.now) (t l.link) (t n.link) c.args.place.now l.place n.place (nops_due c.args.count) c.args.count l.told (Ok i.field-0) (omega arith) l.invariant.done i.ensures.sent i.ensures.ok i.ensures.err;
      rev = ap (λ p. p.rev) i.ensures.ok ∙ l.invariant.rev;
      later = omega (arith, l.invariant.later, c.tell_nop.ensures.later);
    }

pub returns-clause-done : goal.returns-clause-done
returns-clause-done g c =
    let l = c.loop-told in
    let t = g.L.Link.traffic in
    let none : c.args.count - l.told ≡ 0 = omega arith in
    link_as {X = Unit {0}} {Y = Unit {0}} (t c.args.link.now) (t l.link) c.args.place.now l.place (nops_due c.args.count) tt tt (λ _. nops_due (c.args.count - l.told)) (λ _. []) (ap nops_due none) l.invariant.done
