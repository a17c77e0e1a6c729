use Rattle.ep_dir_records.specs.Answers.{Reads, Seen}
use Rattle.ep_groups.specs.Policy.{member}
use Rattle.ep_dir_records.specs.declared.dir_bad.DirBad.{DirBad}
use Rattle.std.specs.Prelude.{List, Option, Result, drop, length, ℕ, ◌-◌, ◌≤◌}
use Rattle.ep_groups.proofs.grants.member.Given as goal

abbrev pub invariant-loop-at : goal.invariant-loop-at
invariant-loop-at g l = (l.at ≤ length l.sessions) × ((now : Seen) (r : Result (Option (List ℕ)) DirBad) → Reads l.records now (member l.group l.now (drop l.at l.sessions)) r → Reads l.fn.records now (member l.group l.now l.sessions) r)

abbrev pub decreases-loop-at : goal.decreases-loop-at
decreases-loop-at g l = length l.sessions - l.at
