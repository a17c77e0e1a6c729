use Rattle.std.proofs.Common.{[]}
use Rattle.ep_groups.proofs.Steps.{empty_is_ours, runs_stay}
use Rattle.ep_groups.proofs.laws.kept_never.Goals as goal

pub returns : goal.returns
returns c = record {
  from_ours = runs_stay;
  from_empty = λ first last h n began run told calls. runs_stay first last h [] n began empty_is_ours run told calls;
}
