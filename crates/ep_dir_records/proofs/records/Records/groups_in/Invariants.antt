use Rattle.ep_dir_records.proofs.Lists.{behind}
use Rattle.ep_dir_records.specs.Answers.{Reads}
use Rattle.ep_dir_records.specs.Readings.{each, group_at}
use Rattle.ep_dir_records.specs.declared.dir_bad.DirBad.{DirBad}
use Rattle.ep_outside.specs.declared.keeper.Pair.{Pair}
use Rattle.std.specs.Prelude.{List, Result, drop, ℕ}
use Rattle.ep_dir_records.proofs.records.Records.groups_in.Given as goal

abbrev pub invariant-loop-pair : goal.invariant-loop-pair
invariant-loop-pair g l = (r : Result (List (List ℕ)) DirBad) → Reads l.self l.self (λ (m : List Pair). behind l.groups (each group_at (drop l.pair-index l.pairs))) r → Reads l.self l.self (λ (m : List Pair). each group_at l.pairs) r
