use Rattle.ep_dir_records.proofs.Chains.{reads_as, reads_still, reads_stop, reads_then}
use Rattle.ep_dir_records.proofs.Lists.{behind, behind_none, each_cons, each_end}
use Rattle.ep_dir_records.specs.Readings.{each, pad_at}
use Rattle.ep_outside.specs.declared.keeper.Pair.{Pair}
use Rattle.std.proofs.Common.{ap, arith, sym, ◌∙◌}
use Rattle.std.proofs.lemmas.List.{append-nil}
use Rattle.std.proofs.lemmas.Result.{err_from_is_err_and}
use Rattle.std.specs.Prelude.{List, Ok, [], drop, length, ◌++◌, ◌+◌, ◌<◌, ◌∷◌}
use Rattle.ep_dir_records.proofs.records.Records.pads_in.Goals as goal

pub loop-pair-init : goal.loop-pair-init
loop-pair-init g c = λ r a. reads_as (λ m. each pad_at c.args.pairs.now) (λ m. behind_none (each pad_at c.args.pairs.now) ∙ ap (λ z. behind z (each pad_at c.args.pairs.now)) (sym c.new-pads.ensures)) a

pub returns-in_err-pad : goal.returns-in_err-pad
returns-in_err-pad g c =
    let ps = c.args.pairs.now in
    let i = c.loop-pair.pair-index in
    let below : i < length ps = omega arith in
    let p = err_from_is_err_and c.from_residual.result c.from_residual.ensures.1 in
    rw (p.1, p.2) (c.loop-pair.invariant _ (reads_as (λ m. behind c.loop-pair.pads (each pad_at (drop i ps))) (λ m. each_cons pad_at c.loop-pair.pads ps i c.pair-item.result below c.pair-item.is)
    (reads_stop (λ x (m : List Pair). behind (c.loop-pair.pads ++ x ∷ []) (each pad_at (drop (i + 1) ps))) c.in_err-pad.ensures)))

pub loop-pair-preserved : goal.loop-pair-preserved
loop-pair-preserved g c =
    let ps = c.args.pairs.now in
    let i = c.loop-pair.pair-index in
    let below : i < length ps = omega arith in
    λ r a. c.loop-pair.invariant r (reads_as (λ m. behind c.loop-pair.pads (each pad_at (drop i ps))) (λ m. each_cons pad_at c.loop-pair.pads ps i c.pair-item.result below c.pair-item.is)
    (reads_then (λ x (m : List Pair). behind (c.loop-pair.pads ++ x ∷ []) (each pad_at (drop (i + 1) ps))) c.in_ok-pad.ensures
    (reads_as (λ m. behind (c.loop-pair.pads ++ c.in_ok-pad.pad ∷ []) (each pad_at (drop (i + 1) ps))) (λ m. ap (λ z. behind z (each pad_at (drop (i + 1) ps))) (sym c.in_ok-push.ensures)) a)))

pub returns : goal.returns
returns g c = c.loop-pair.invariant _ (reads_still (λ m. behind c.loop-pair.pads (each pad_at (drop c.loop-pair.pair-index c.args.pairs.now))) (Ok c.loop-pair.pads) tt (λ m. each_end pad_at c.loop-pair.pads c.args.pairs.now c.loop-pair.pair-index (omega arith) ∙ ap (λ z. Ok z) (append-nil c.loop-pair.pads)))
