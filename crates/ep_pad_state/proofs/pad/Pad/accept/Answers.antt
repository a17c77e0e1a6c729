use Rattle.std.proofs.Common.{subst}
use Rattle.ep_cs.specs.Change.{Change}
use Rattle.ep_history.specs.Entries.Entry.{Accept}
use Rattle.ep_history.specs.Entries.Answer.{CommitAnswer}
use Rattle.ep_step.specs.Telling.{told_by}
use Rattle.ep_pad_state.specs.Answering.{Readies}
use Rattle.ep_pad_state.proofs.pad.Pad.accept.Goals as goal

pub returns-clause-answer : goal.returns-clause-answer
returns-clause-answer c =
    subst (λ (change : Change). Readies c.args.self.now (Accept c.args.session c.args.base change c.args.now) (λ x. CommitAnswer (told_by x)) c.take.result c.take.new.self) c.share_maps.ensures c.take.ensures.answer
