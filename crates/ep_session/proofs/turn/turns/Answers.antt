use Rattle.std.proofs.Common.{refl, ◌∙◌, [], ◌∷◌, arith}
use Rattle.std.specs.Prelude.{Ok, Err}
use Rattle.ep_session.specs.Session.{Hear}
use Rattle.ep_session.proofs.Running.{nothing_yet, turns_on, done_ended}
use Rattle.ep_session.proofs.turn.turns.Goals as goal

pub turns-init : goal.turns-init
turns-init g c = record { next = tt; finite = tt; done = nothing_yet (g.C.Clock.may_show c.args.clock.now) (g.L.Link.traffic c.args.link.now) (g.P.PadPort.known c.args.pass.now) c.args.place.now (Hear ∷ []); of = c.requires.of; pad = (refl, refl, refl); legal = λ h. h; later = omega arith }

pub returns-in-Err-clause-done : goal.returns-in-Err-clause-done
returns-in-Err-clause-done g c =
    let t = g.L.Link.traffic in
    let p = g.P.PadPort.known in
    let l = c.turns in
    let n = c.turn.new in
    let e = c.in-Err.end in
    let shows = g.C.Clock.may_show c.args.clock.now in
    done_ended {X = Unit {0}} {Y = Unit {0}} shows (t c.args.link.now) (t n.link) (p c.args.pass.now) (p n.pass) c.args.place.now n.place (Hear ∷ []) (Err e) (λ _. Hear ∷ []) (Err e) (λ _. []) e refl refl
    (turns_on shows (t c.args.link.now) (t l.link) (t n.link) (p c.args.pass.now) (p l.pass) (p n.pass) c.args.place.now l.place n.place (Err e) l.invariant.done c.in-Err.ensures.done)

pub turns-preserved : goal.turns-preserved
turns-preserved g c =
    let t = g.L.Link.traffic in
    let p = g.P.PadPort.known in
    let l = c.turns in
    let n = c.turn.new in
    let shows = g.C.Clock.may_show c.args.clock.now in
    record {
      next = tt;
      finite = tt;
      done = turns_on shows (t c.args.link.now) (t l.link) (t n.link) (p c.args.pass.now) (p l.pass) (p n.pass) c.args.place.now l.place n.place (Ok (tt {0})) l.invariant.done c.in-Ok.ensures.done;
      of = c.turn.ensures.of;
      pad = (c.turn.ensures.pad.0 ∙ l.invariant.pad.0, c.turn.ensures.pad.1 ∙ l.invariant.pad.1, c.turn.ensures.pad.2 ∙ l.invariant.pad.2);
      legal = λ h. c.turn.ensures.legal (l.invariant.legal h);
      later = omega (arith, l.invariant.later, c.turn.ensures.later);
    }
