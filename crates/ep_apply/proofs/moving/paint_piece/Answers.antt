use Rattle.std.proofs.Common.{◌∙◌, ◌++◌, sym, ap}
use Rattle.ep_attr.specs.AttrMap.{AttrMap}
use Rattle.ep_cs.specs.Runs.{cells}
use Rattle.ep_apply.proofs.Painted.{piece_painted}
use Rattle.ep_apply.proofs.moving.paint_piece.Goals as goal

pub returns-in_ok-push-in-Some-clause-done : goal.returns-in_ok-push-in-Some-clause-done
returns-in_ok-push-in-Some-clause-done c =
    let s = c.in-Some.stretch in
    let out = c.args.out.now in
    c.in_ok-push-in-Some.ensures ∙ ap (λ (m : AttrMap). out ++ cells m s.text.now) c.in_ok-painted-in-Some.ensures
    ∙ ap (λ cs. out ++ cs) (sym (piece_painted s.attrs.now c.args.attrs.now s.text.now c.args.rest.now c.take.new.self c.in-Some.ensures.0))
