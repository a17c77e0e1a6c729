use Rattle.std.proofs.Common.{refl, sym, ap, subst, ◌∙◌, Bool}
use Rattle.std.specs.Prelude.{◌&&◌}
use Rattle.ep_session.specs.Ends.{leaves}
use Rattle.ep_session.specs.Passing.{own_of}
use Rattle.ep_session.specs.Says.{IsFault}
use Rattle.ep_session.specs.Served.{LeavesBy}
use Rattle.ep_session.specs.declared.end.End.{End}
use Rattle.ep_session.proofs.Coming.{last_caused, none_left, one_kept}
use Rattle.ep_session.proofs.session.serve_session.Goals as goal

pub returns-clause-served : goal.returns-clause-served
returns-clause-served g c =
    let s = c.seat-hall.result in
    let at = c.seat-hall.new.place in
    let known = g.P.PadPort.known in
    let last = c.last-leaves in (
      c.draw-drawn.result,
      c.draw-drawn.ensures,
      record {
        at = at;
        reason = s.end;
        sent = g.L.Link.traffic c.seat-hall.new.link;
        before = own_of known s.pass;
        closed = c.close-closed.result;
        came = c.seat-hall.ensures.came;
        closes = c.close-closed.ensures.closes;
        end_is = last.ensures.end;
        leaves = subst (λ (b : Bool). LeavesBy b at (own_of known s.pass) (own_of known c.leave-pass.result))
            (c.both.ensures ∙ ap (λ (b : Bool). at.inside && b) (last.ensures.leaves ∙ ap (λ (e : End). leaves s.end e) (sym last.ensures.end)))
            c.leave-pass.ensures.left;
        session_is = c.session.ensures;
        start_is = refl;
        cursor_is = refl;
        taken_is = refl;
      },
    )

pub returns-clause-cause : goal.returns-clause-cause
returns-clause-cause g c =
    let f = g.L.Device.failures in
    let s = c.seat-hall in
    let l = c.close-closed in
    subst (λ (e : End). IsFault e (f c.args.link.now) (f l.new.link)) (sym c.last-leaves.ensures.end)
    (last_caused s.result.end l.result (f c.args.link.now) (f s.new.link) (f l.new.link) s.ensures.later l.ensures.stays s.ensures.cause l.ensures.cause)

pub leave-pass-requires-clause-none : goal.leave-pass-requires-clause-none
leave-pass-requires-clause-none g c = λ none. none_left c.seat-hall.result.pass c.seat-hall.new.place.inside c.last-leaves.result.0 c.both.result c.both.ensures c.seat-hall.ensures.stays none

pub returns-clause-one : goal.returns-clause-one
returns-clause-one g c =
    let s = c.seat-hall.result in
    one_kept g.P.PadPort.name_of g.P.PadPort.cell_of g.P.PadPort.begun (own_of g.P.PadPort.hall_known s.hall) s.pass c.leave-pass.result c.seat-hall.ensures.one c.leave-pass.ensures.pad
