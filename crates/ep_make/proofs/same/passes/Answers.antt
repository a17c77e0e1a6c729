use Rattle.std.proofs.Common.{◌<◌, length, ap, ◌∙◌, sym, arith, rules}
use Rattle.ep_make.specs.Same.{doc_eq}
use Rattle.ep_make.proofs.Stretches.{none_left, piece_of_others, piece_passed, piece_with_others}
use Rattle.ep_make.proofs.same.passes.Goals as goal
use Rattle.ep_make.proofs.same.passes.Goals.{then-ne-via-then-ne, then-ne-via-else-ne+then-ne-2}

pub returns-in_default : goal.returns-in_default
returns-in_default c = λ behind.
    let some : 0 < length c.pieces.left.now = search rules in
    c.pieces.invariant.same behind ∙ ap (doc_eq _) c.in_default.ensures.0 ∙ none_left _ c.pieces.left.now behind some

pub returns-then-ne : goal.returns-then-ne
returns-then-ne c = λ behind.
    let split = c.split_at.ensures in
    let taken = c.in-Some.ensures in
    let at = piece_of_others c.args.stretch.now.attrs.now c.in-Some.piece.attrs.now c.pieces.left.now _ _ _ _ c.take.new.self split.by_index.0 taken.0 behind in
    let with = piece_with_others c.args.stretch.now.attrs.now c.in-Some.piece.attrs.now c.pieces.left.now _ _ _ _ c.take.new.self split.by_index.0 taken.0 behind in
    c.pieces.invariant.same behind ∙ elim c.then-ne.branch [
      | then-ne-via-then-ne w ↦ at split.front_len (sym c.ne.ensures ∙ w.if-ne.true)
      | then-ne-via-else-ne+then-ne-2 w ↦ with split.front_len taken.1 (sym w.ne-else-ne.ensures ∙ w.if-ne-2.true)
    ]

pub pieces-preserved : goal.pieces-preserved
pieces-preserved c =
    let split = c.split_at.ensures in record {
      short = omega (arith, split.back_len, c.pieces.invariant.short);
      same = λ behind. c.pieces.invariant.same behind
          ∙ piece_passed c.args.stretch.now.attrs.now c.in-Some.piece.attrs.now c.pieces.left.now _ _ _ _ c.take.new.self split.by_index.0 c.in-Some.ensures.0 behind (sym c.ne.ensures ∙ c.if-ne.false) (sym c.ne-else-ne.ensures ∙ c.if-ne-2.false);
    }
