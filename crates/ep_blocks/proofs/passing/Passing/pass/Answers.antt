use Rattle.std.proofs.Common.{◌≡◌, ◌∙◌, ℕ, take, drop, ap, sym, subst, arith, drop-drop}
use Rattle.std.proofs.Math.Seq.{take-add}
use Rattle.ep_block_parts.specs.Seen.{Sees}
use Rattle.ep_block_parts.proofs.Texts.{few_lines}
use Rattle.ep_blocks.proofs.passing.Passing.pass.Goals as goal

pub then-seen-requires-clause-lines : goal.then-seen-requires-clause-lines
then-seen-requires-clause-lines c =
    let s = c.pieces.seen in
    let t = c.pass_piece.result in
    omega (arith, few_lines s (take s.units c.args.self.now) c.pieces.invariant.seen, few_lines t (take t.units c.pieces.self) c.pass_piece.ensures.seen, c.pieces.invariant.within, c.pass_piece.ensures.units.1)

pub pieces-preserved : goal.pieces-preserved
pieces-preserved c =
    let all = c.args.self.now in
    let s = c.pieces.seen in
    let t = c.pass_piece.result in
    let n = c.then-seen.ensures.units in
    let next : take t.units c.pieces.self ≡ take t.units (drop s.units all) = ap (take t.units) c.pieces.invariant.rest in
    record {
      seen =
          subst (Sees c.then-seen.result) (sym (take-add s.units t.units all) ∙ ap (λ (k : ℕ). take k all) (sym n))
          (c.then-seen.ensures.seen (take s.units all) (take t.units (drop s.units all)) c.pieces.invariant.seen (subst (Sees t) next c.pass_piece.ensures.seen));
      rest = c.pass_piece.ensures.rest ∙ ap (drop t.units) c.pieces.invariant.rest ∙ drop-drop t.units s.units all ∙ ap (λ (k : ℕ). drop k all) (sym n);
      within = omega (arith, n, c.pieces.invariant.within, c.pass_piece.ensures.units.1);
    }
