use Rattle.ep_history.proofs.Answered.{admitted, commit-nop, commit-rebased, normal-edit}
use Rattle.ep_history.proofs.machine_laws.admissible_edits_are_committed.Goals as goal

pub returns : goal.returns
returns c = record { commits = admitted; rebased = commit-rebased; nop = commit-nop; edit = normal-edit }
