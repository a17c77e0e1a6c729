use Rattle.std.proofs.Common.{◌≡◌, ◌≤◌, ◌+◌, drop, length}
use Rattle.ep_cs.specs.Runs.{all_passed}
use Rattle.ep_cs.specs.Fitting.{first_untrue}
use Rattle.ep_apply.specs.PairEnds.{first_end, first_of}
use Rattle.ep_apply.proofs.fitting.follow_runs.Given as goal

abbrev pub invariant-loop-i : goal.invariant-loop-i
invariant-loop-i l = record {
  untrue : first_untrue l.i (drop l.i l.ops) l.rest ≡ first_untrue 0 l.ops l.initial.rest;
  ends : first_of l.cut (first_end l.at (drop l.i l.ops) l.rest) ≡ first_end 0 l.ops l.initial.rest;
  room : all_passed (drop l.i l.ops) ≤ length l.rest;
  all : l.at + length l.rest ≡ length l.initial.rest;
}
