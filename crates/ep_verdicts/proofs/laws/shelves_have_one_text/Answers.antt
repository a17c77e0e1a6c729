use Rattle.std.proofs.Common.{ap}
use Rattle.ep_verdicts.specs.Lines.{lines_of}
use Rattle.ep_verdicts.proofs.Same.{same_verdicts}
use Rattle.ep_verdicts.proofs.laws.shelves_have_one_text.Goals as goal

pub returns : goal.returns
returns c = λ names told vs ws all a b. ap lines_of (same_verdicts told names vs ws all a.named b.named a.judged b.judged)
