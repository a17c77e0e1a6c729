-- What is told of an edit that was taken.
use Rattle.ep_history.specs.Readings.{Committed as CommittedAt}
use Rattle.ep_step.specs.declared.telling.Committed.{Committed}

-- what a program tells, as the definitions say it
abbrev pub told_by : Committed → CommittedAt
told_by c = record { rev = c.rev; fixed = c.fixed; nop = c.nop; change = c.change }
