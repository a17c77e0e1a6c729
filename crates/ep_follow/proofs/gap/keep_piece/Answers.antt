use Rattle.std.proofs.Common.{◌∙◌, refl, sym}
use Rattle.ep_cs.specs.Follow.{passes}
use Rattle.ep_cursor.specs.Left.{steps_left}
use Rattle.ep_follow.specs.Writing.{said}
use Rattle.ep_follow.proofs.Fronts.{without_piece, without_front}
use Rattle.ep_follow.proofs.Steps.{all_taken}
use Rattle.ep_follow.proofs.gap.keep_piece.Goals as goal

pub keep_run-requires-clause-go : goal.keep_run-requires-clause-go
keep_run-requires-clause-go c = (c.requires.0, c.requires.1, c.runs.invariant.go c.requires.0 c.requires.1 c.requires.2)

pub returns-clause-out : goal.returns-clause-out
returns-clause-out c =
    let none_there = sym c.inserts.ensures.is ∙ c.runs-test.false in
    (all_taken passes refl (said c.args.out.now).steps (steps_left c.args.a.now) (said c.runs.out).steps (steps_left c.runs.a) c.runs.invariant.moves
    (without_piece c.runs.a none_there c.inserts.ensures.written) (without_front c.runs.a none_there c.inserts.ensures.written)).0

pub returns-clause-behind : goal.returns-clause-behind
returns-clause-behind c =
    let none_there = sym c.inserts.ensures.is ∙ c.runs-test.false in
    (all_taken passes refl (said c.args.out.now).steps (steps_left c.args.a.now) (said c.runs.out).steps (steps_left c.runs.a) c.runs.invariant.moves
    (without_piece c.runs.a none_there c.inserts.ensures.written) (without_front c.runs.a none_there c.inserts.ensures.written)).1

pub runs-preserved : goal.runs-preserved
runs-preserved c = record {
  moves = record {
    same = c.in_ok-keep_run.ensures.moves.same ∙ c.runs.invariant.moves.same;
    behind = c.in_ok-keep_run.ensures.moves.behind ∙ c.runs.invariant.moves.behind;
  };
  go = λ b made g. c.in_ok-keep_run.ensures.go b made (c.runs.invariant.go b made g);
}
