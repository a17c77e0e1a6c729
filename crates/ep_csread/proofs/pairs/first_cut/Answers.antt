use Rattle.std.proofs.Common.{◌∙◌, ◌+◌, ◌≤◌, drop, length, sym, ap, ap₂, subst, ℕ, List, Option}
use Rattle.std.proofs.lemmas.List.{take_rest}
use Rattle.ep_cs.specs.Runs.{all_inserted}
use Rattle.ep_csread.specs.Before.{map_before, cuts, first_cut}
use Rattle.ep_csread.proofs.Walking.{cut_step, room_step}
use Rattle.ep_csread.proofs.pairs.first_cut.Goals as goal

pub loop-i-preserved : goal.loop-i-preserved
loop-i-preserved c =
    let ops = c.args.ops.now in
    let bank = c.args.bank.now in
    record {
      same =
          ap₂ (λ (n : ℕ) (b : Option ℕ). first_cut (c.loop-i.used + n) (map_before ops b) (drop (c.loop-i.i + 1) ops) (drop (c.loop-i.used + n) bank)) c.inserted.ensures.is c.after-before.ensures
          ∙ cut_step ops bank c.loop-i.used c.loop-i.i c.loop-i.before c.index-ops-i.result _ c.loop-i-test.true c.index-ops-i.is (ap (λ (b : List ℕ). cuts (map_before ops c.loop-i.before) c.index-ops-i.result b) (sym (take_rest bank c.loop-i.used)) ∙ sym c.if-cuts.ensures) c.loop-i.invariant.same;
      room = subst (λ (n : ℕ). c.loop-i.used + n + all_inserted (drop (c.loop-i.i + 1) ops) ≤ length bank) (sym c.inserted.ensures.is) (room_step ops c.loop-i.used c.loop-i.i c.index-ops-i.result (length bank) c.loop-i-test.true c.index-ops-i.is c.loop-i.invariant.room);
    }
