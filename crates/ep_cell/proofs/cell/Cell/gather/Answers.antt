use Rattle.std.proofs.Common.{◌∙◌, ap, sym, ◌++◌, [], ◌∷◌, append_assoc, append-nil, subst, All}
use Rattle.std.proofs.lemmas.List.Elements.{All-push}
use Rattle.ep_cell.specs.History.{StartsWith}
use Rattle.ep_cell.proofs.Histories.{starts_on, no_length}
use Rattle.ep_cell.proofs.cell.Cell.gather.Goals as goal

pub loop-pass-preserved : goal.loop-pass-preserved
loop-pass-preserved g c =
    let i = c.loop-pass.invariant in (
      c.join.ensures.of ∙ i.0,
      c.join.ensures.idle.1 ∙ i.1,
      c.join.ensures.idle.0,
      i.3 ∙ (ap (λ l. c.loop-pass.yielded ++ l) c.in-Some.ensures.steps.0 ∙ sym (append_assoc c.loop-pass.yielded (c.in-Some.pass ∷ []) c.next.new.self.rest.items)),
      All-push (λ p. StartsWith c.join.new.seat.me.0.seen p.seat.me.0.seen) c.loop-pass.yielded c.in-Some.pass (λ k d lt. starts_on _ _ _ c.join.ensures.begins.0 (i.4 k d lt)) c.join.ensures.begins.1,
      c.join.ensures.begun ∙ i.5,
    )

pub returns-clause-begins : goal.returns-clause-begins
returns-clause-begins g c =
    let i = c.loop-pass.invariant in
    let e = i.3 ∙ (ap (λ l. c.loop-pass.yielded ++ l) (no_length c.loop-pass.pass-iterator.rest.items (sym c.loop-pass.pass-iterator.rest.ok.0 ∙ c.in-None.ensures.steps.0)) ∙ append-nil c.loop-pass.yielded) in
    subst (All (λ p. StartsWith c.loop-pass.seat.me.0.seen p.seat.me.0.seen)) (sym e) i.4
