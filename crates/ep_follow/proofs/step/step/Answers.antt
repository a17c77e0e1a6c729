use Rattle.std.proofs.Common.{◌≡◌, ◌+◌, ◌<◌, ◌||◌, List, length, sym, ap, arith}
use Rattle.std.proofs.lemmas.Result.{on_ok_weaker}
use Rattle.ep_cs.specs.Edit.{Step}
use Rattle.ep_cursor.specs.Left.{steps_left}
use Rattle.ep_follow.specs.Follows.{is_a}
use Rattle.ep_follow.specs.Gaps.{behind, begins_with_insert}
use Rattle.ep_follow.specs.Writing.{said}
use Rattle.ep_follow.proofs.Results.{both_ok}
use Rattle.ep_follow.proofs.Fronts.{gap_less, without_piece}
use Rattle.ep_follow.proofs.Steps.{kept_run, inserted_run}
use Rattle.ep_follow.proofs.step.step.Goals as goal

fewer : (a a' b b' : List Step) → a' ≡ behind a → b' ≡ behind b → length (behind a) + length (behind b) < length a + length b → length a' + length b' < length a + length b
fewer a a' b b' e f h = omega (arith, ap length e, ap length f, h)

pub returns-in-true-true-clause-less : goal.returns-in-true-true-clause-less
returns-in-true-true-clause-less c =
    let u = c.requires.go.1.way in
    both_ok c.gap.result
    (λ first second. fewer (steps_left c.args.a.now) (steps_left c.gap.new.a) (steps_left c.args.b.now) (steps_left c.gap.new.b) first second
    (gap_less c.args.a.now c.args.b.now u.text (ap (λ x. x || begins_with_insert c.args.b.now.ops) (sym c.in-true-true.ensures.is)) u.first u.second))
    c.gap.ensures.first c.gap.ensures.second

pub returns-in-true-false-clause-same : goal.returns-in-true-false-clause-same
returns-in-true-false-clause-same c =
    on_ok_weaker c.keep_run.result
    (λ moves. kept_run (is_a c.args.first) (said c.args.out.now).steps (said c.keep_run.new.out).steps (steps_left c.args.a.now) (steps_left c.keep_run.new.a) (steps_left c.args.b.now) moves
    (without_piece c.args.b.now (sym c.in-true-false.ensures'.is) c.in-true-false.ensures'.written) c.requires.go.1.way.level)
    c.keep_run.ensures.moves

pub returns-in-false-true-clause-same : goal.returns-in-false-true-clause-same
returns-in-false-true-clause-same c =
    on_ok_weaker c.insert_run.result
    (λ moves. inserted_run (is_a c.args.first) (said c.args.out.now).steps (said c.insert_run.new.out).steps (steps_left c.args.a.now) (steps_left c.args.b.now) (steps_left c.insert_run.new.b) moves
    (without_piece c.args.a.now (sym c.in-false-true.ensures.is) c.in-false-true.ensures.written) c.requires.go.1.way.level)
    c.insert_run.ensures.moves

pub returns-in-true-false-clause-go : goal.returns-in-true-false-clause-go
returns-in-true-false-clause-go c = on_ok_weaker c.keep_run.result (λ go. λ made g. go c.args.b.now made g) c.keep_run.ensures.go

pub returns-in-false-true-clause-go : goal.returns-in-false-true-clause-go
returns-in-false-true-clause-go c = on_ok_weaker c.insert_run.result (λ go. λ made g. go c.args.a.now made g) c.insert_run.ensures.go
