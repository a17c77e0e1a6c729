use Rattle.ep_dir_records.specs.Keys.{key}
use Rattle.ep_dir_records.proofs.Chains.{reads_at}
use Rattle.ep_outside.specs.Kept.{listed}
use Rattle.std.proofs.Common.{ap, ◌∙◌}
use Rattle.std.specs.Prelude.{Ok}
use Rattle.ep_dir_records.specs.declared.keys.Kind.TheVariants as kind
use Rattle.ep_dir_records.proofs.records.Records.pairs_of_group.Goals as goal

pub returns : goal.returns
returns g c = reads_at (λ k m. Ok (listed m k)) (c.as_str.ensures ∙ (c.in_ok-key.ensures ∙ ap (λ s. key kind.GroupPad s) c.in_ok-start.ensures)) c.pairs.ensures
