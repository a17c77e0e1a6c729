use Rattle.ep_history.specs.Records.{unopened}
use Rattle.ep_history.proofs.Recorded.{next-less, next-more, told-more}
use Rattle.ep_history.proofs.record_laws.one_record_more.Goals as goal

pub returns : goal.returns
returns c = record {
  legal = λ limits rs r. (next-less (unopened limits) rs r, λ n. next-more (unopened limits) rs r n.0 n.1);
  told = λ limits. told-more (unopened limits);
}
