use Rattle.std.proofs.Common.{◌∙◌, sym}
use Rattle.std.proofs.lemmas.Result.{on_ok_weaker}
use Rattle.ep_cursor.specs.Left.{steps_left}
use Rattle.ep_follow.specs.Follows.{is_a}
use Rattle.ep_follow.specs.Writing.{said}
use Rattle.ep_follow.proofs.Results.{both_ok}
use Rattle.ep_follow.proofs.Fronts.{has_units}
use Rattle.ep_follow.proofs.Steps.{first_then_second, second_then_first}
use Rattle.ep_follow.proofs.gap.gap.Goals as goal

pub goes_first-requires : goal.goes_first-requires
goes_first-requires c = record {
  first = has_units c.args.a.now.ops c.args.a.now.bank c.requires.1.way.text c.requires.1.way.first;
  second = has_units c.args.b.now.ops c.args.b.now.bank c.requires.1.way.text c.requires.1.way.second;
}

pub insert_piece-requires : goal.insert_piece-requires
insert_piece-requires c = (c.keep_piece.new.a, c.requires.0, c.in_ok-keep_piece.ensures.go c.args.b.now c.requires.0 c.requires.1)

pub keep_piece-requires-else-goes_first : goal.keep_piece-requires-else-goes_first
keep_piece-requires-else-goes_first c = (c.insert_piece-else-goes_first.new.b, c.requires.0, c.in_ok-insert_piece.ensures.go c.args.a.now c.requires.0 c.requires.1)

pub returns-in_ok-keep_piece-clause-same : goal.returns-in_ok-keep_piece-clause-same
returns-in_ok-keep_piece-clause-same c =
    both_ok c.insert_piece.result
    (λ out behind. first_then_second (is_a c.args.first) (said c.args.out.now).steps (said c.keep_piece.new.out).steps (said c.insert_piece.new.out).steps (steps_left c.args.a.now) (steps_left c.keep_piece.new.a) (steps_left c.args.b.now) (steps_left c.insert_piece.new.b)
    (sym c.goes_first.ensures ∙ c.if-goes_first.true) c.requires.1.way.level c.in_ok-keep_piece.ensures.out c.in_ok-keep_piece.ensures.behind out behind)
    c.insert_piece.ensures.out c.insert_piece.ensures.behind

pub returns-in_ok-insert_piece-clause-same : goal.returns-in_ok-insert_piece-clause-same
returns-in_ok-insert_piece-clause-same c =
    both_ok c.keep_piece-else-goes_first.result
    (λ out behind. second_then_first (is_a c.args.first) (said c.args.out.now).steps (said c.insert_piece-else-goes_first.new.out).steps (said c.keep_piece-else-goes_first.new.out).steps (steps_left c.args.a.now) (steps_left c.keep_piece-else-goes_first.new.a) (steps_left c.args.b.now) (steps_left c.insert_piece-else-goes_first.new.b)
    (sym c.goes_first.ensures ∙ c.if-goes_first.false) c.requires.1.way.level c.in_ok-insert_piece.ensures.out c.in_ok-insert_piece.ensures.behind out behind)
    c.keep_piece-else-goes_first.ensures.out c.keep_piece-else-goes_first.ensures.behind

pub returns-in_ok-keep_piece-clause-go : goal.returns-in_ok-keep_piece-clause-go
returns-in_ok-keep_piece-clause-go c =
    on_ok_weaker c.insert_piece.result (λ go. λ made g. go c.keep_piece.new.a made (c.in_ok-keep_piece.ensures.go c.args.b.now made g)) c.insert_piece.ensures.go

pub returns-in_ok-insert_piece-clause-go : goal.returns-in_ok-insert_piece-clause-go
returns-in_ok-insert_piece-clause-go c =
    on_ok_weaker c.keep_piece-else-goes_first.result (λ go. λ made g. go c.insert_piece-else-goes_first.new.b made (c.in_ok-insert_piece.ensures.go c.args.a.now made g)) c.keep_piece-else-goes_first.ensures.go
