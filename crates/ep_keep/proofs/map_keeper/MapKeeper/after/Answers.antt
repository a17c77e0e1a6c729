use Rattle.std.proofs.Common.{◌∙◌, ap}
use Rattle.ep_outside.specs.Kept.{after, rises}
use Rattle.ep_outside.proofs.Rising.{after_rises}
use Rattle.ep_keep.proofs.map_keeper.MapKeeper.after.Goals as goal

pub returns-clause-rising : goal.returns-clause-rising
returns-clause-rising c =
    let m = c.args.self.now.pairs.items in
    let puts = c.args.puts.now in
    ap rises (c.in_ok-put_pairs.ensures ∙ ap (λ x. after x puts) (c.in_ok-pairs.ensures ∙ c.as_slice.ensures.value)) ∙ after_rises m puts c.args.self.now.rising
