use Rattle.std.proofs.Common.{◌∙◌, ◌∷◌, ◌+◌, drop, refl, sym, ap, subst, true, arith}
use Rattle.std.proofs.lemmas.List.{drop_all, drop_more}
use Rattle.sqlite.specs.Effect.{Database}
use Rattle.sqlite.specs.Held.{state}
use Rattle.sqlite.specs.State.{HasCleanDisk}
use Rattle.ep_outside.specs.Kept.{after, put_in}
use Rattle.ep_keep_sql.specs.Inside.{StepsInside}
use Rattle.ep_keep_sql.specs.Told.{Holds}
use Rattle.ep_keep_sql.proofs.Commits.{steps_then}
use Rattle.ep_keep_sql.proofs.table.put_each.Goals as goal

pub loop-put-preserved : goal.loop-put-preserved
loop-put-preserved g c =
    let before = state g.S.Store c.loop-put.transaction.conn.now in
    let now = state g.S.Store c.put_one.new.transaction.conn.now in
    let one : StepsInside before now true = c.in_ok-put_one.ensures.steps in
    record {
      same_reference = c.put_one.ensures.same_reference ∙ c.loop-put.invariant.same_reference;
      steps = steps_then _ before now true c.loop-put.invariant.steps one;
      makes = λ clean inside m holds.
          let was : HasCleanDisk before = omega (arith, one.clean) in
          let earlier = c.loop-put.invariant.makes was inside m holds in
          let made = c.in_ok-put_one.ensures.makes clean (c.loop-put.invariant.steps.goes_on was inside refl) earlier.0 earlier.1 in
          let put = c.put-item.result in
          let next = drop_more c.args.puts.now c.loop-put.put-index put c.loop-put-test.true in
          (put_in earlier.0 put.key put.value, made, earlier.2 ∙ (ap (after earlier.0) next ∙ ap (λ p. after earlier.0 (p ∷ drop (c.loop-put.put-index + 1) c.args.puts.now)) (sym c.put-item.is)));
    }

pub returns-clause-makes : goal.returns-clause-makes
returns-clause-makes g c = λ clean inside m holds.
    let now : Database = (state g.S.Store c.loop-put.transaction.conn.now).now in
    let all = c.loop-put.invariant.makes clean inside m holds in
    let none = drop_all c.loop-put.put-index c.args.puts.now c.loop-put-test.false in
    subst (Holds now) (sym (all.2 ∙ ap (after all.0) none)) all.1
