use Rattle.std.proofs.Common.{[], ◌∷◌, ◌++◌, ap, ◌∙◌}
use Rattle.ep_wire_words.proofs.Commas.{begin, comma_passed, unit_passed}
use Rattle.ep_wire_words.proofs.session.pieces.Goals as goal
use Rattle.ep_wire_words.proofs.session.pieces.Goals.{then-unit-eq44+in_ok-push, else-unit-eq44+in_ok-push-2}

pub loop-unit-init : goal.loop-unit-init
loop-unit-init c = rw (c.new-ids.ensures, c.new-id.ensures) (begin c.args.text.now)

pub loop-unit-preserved : goal.loop-unit-preserved
loop-unit-preserved c =
    elim c.if-unit-eq44.branch [
      | then-unit-eq44+in_ok-push w ↦
          comma_passed c.args.text.now c.loop-unit.unit-index c.loop-unit.ids c.if-unit-eq44.ids c.loop-unit.id c.if-unit-eq44.id _ c.loop-unit-test.true w.if-unit-eq44.true
          (w.ids-is ∙ w.in_ok-push.ensures ∙ ap (λ x. c.loop-unit.ids ++ x ∷ []) w.replace.ensures.value) (w.id-is ∙ w.replace.ensures.after ∙ w.new.ensures) c.loop-unit.invariant
      | else-unit-eq44+in_ok-push-2 w ↦
          unit_passed c.args.text.now c.loop-unit.unit-index c.loop-unit.ids c.if-unit-eq44.ids c.loop-unit.id c.if-unit-eq44.id _ c.loop-unit-test.true w.if-unit-eq44.false
          w.ids-is (w.id-is ∙ w.in_ok-push-2.ensures.ok) c.loop-unit.invariant
    ]
