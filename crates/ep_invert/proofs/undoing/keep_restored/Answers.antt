use Rattle.ep_blocks.proofs.Pieces.{not_over}
use Rattle.ep_invert.proofs.Pieces.{IsPiece, more_restored, restored_room}
use Rattle.ep_invert.proofs.undoing.keep_restored.Goals as goal

pub returns-in_default-clause-written : goal.returns-in_default-clause-written
returns-in_default-clause-written c = absurd (not_over c.args.units c.pieces.left c.args.rest.now c.pieces.rest c.requires.inside c.pieces.invariant.within c.pieces-test.true c.pieces.invariant.rest_is c.in_default.ensures.0)

pub returns-in_default-clause-rest : goal.returns-in_default-clause-rest
returns-in_default-clause-rest c = absurd (not_over c.args.units c.pieces.left c.args.rest.now c.pieces.rest c.requires.inside c.pieces.invariant.within c.pieces-test.true c.pieces.invariant.rest_is c.in_default.ensures.0)

pub keep_text-requires-clause-inside : goal.keep_text-requires-clause-inside
keep_text-requires-clause-inside c =
    restored_room c.args.attrs.now c.args.units c.pieces.left c.args.rest.now c.args.out.now c.pieces.out c.pieces.rest _ c.pieces.invariant c.requires.inside c.requires.room c.in-Some.ensures.2

pub pieces-preserved : goal.pieces-preserved
pieces-preserved c =
    let s = c.in-Some.stretch in
    let p : IsPiece c.args.units c.pieces.left c.args.rest.now c.pieces.rest c.take.new.self s.attrs.now s.text.now =
    record { rest_is = c.pieces.invariant.rest_is; piece = c.in-Some.ensures.0; some = c.in-Some.ensures.1; most = c.in-Some.ensures.2; within = c.pieces.invariant.within } in
    more_restored c.args.attrs.now c.in_ok-back.back c.args.units c.pieces.left c.args.rest.now c.args.out.now c.pieces.out c.keep_text.new.out c.pieces.rest c.take.new.self s.attrs.now s.text.now
    c.pieces.invariant p c.in_ok-back.ensures c.in_ok-keep_text.ensures
