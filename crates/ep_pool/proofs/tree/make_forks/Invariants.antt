use Rattle.std.proofs.Common.{◌≤◌, ◌-◌, vec_len}
use Rattle.ep_pool.proofs.tree.make_forks.Given as goal

abbrev pub invariant-forks : goal.invariant-forks
invariant-forks l = (vec_len l.initial.forks ≤ vec_len l.forks) × (vec_len l.initial.forks ≤ l.wanted → vec_len l.forks ≤ l.wanted)

abbrev pub decreases-forks : goal.decreases-forks
decreases-forks l = l.wanted - vec_len l.forks
