use Rattle.ep_dir_records.specs.declared.values.SessionInfo.{SessionInfo}
use Rattle.ep_dir_records.proofs.Lists.{behind}
use Rattle.ep_dir_records.specs.Answers.{Reads}
use Rattle.ep_dir_records.specs.Readings.{each, session_at}
use Rattle.ep_dir_records.specs.declared.dir_bad.DirBad.{DirBad}
use Rattle.ep_outside.specs.declared.keeper.Pair.{Pair}
use Rattle.std.specs.Prelude.{List, Result, drop}
use Rattle.ep_dir_records.proofs.records.Records.sessions_in.Given as goal

abbrev pub invariant-loop-pair : goal.invariant-loop-pair
invariant-loop-pair g l = (r : Result (List SessionInfo) DirBad) → Reads l.self l.self (λ (m : List Pair). behind l.infos (each session_at (drop l.pair-index l.pairs))) r → Reads l.self l.self (λ (m : List Pair). each session_at l.pairs) r
