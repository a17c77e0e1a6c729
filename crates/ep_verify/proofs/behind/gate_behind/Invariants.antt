use Rattle.std.proofs.Common.{◌≡◌, take}
use Rattle.ep_journal.specs.File.{end_of}
use Rattle.ep_verify.proofs.behind.gate_behind.Given as goal

abbrev pub invariant-loop-i : goal.invariant-loop-i
invariant-loop-i l = l.gate ≡ end_of 8 (take l.i l.records)
