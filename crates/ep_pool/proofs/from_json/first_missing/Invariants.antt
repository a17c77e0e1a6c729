use Rattle.std.proofs.Common.{◌<◌, ℕ, IsSome}
use Rattle.serde_json.specs.View.{view}
use Rattle.ep_pool.specs.Read.{entry_in}
use Rattle.ep_pool.proofs.from_json.first_missing.Given as goal

abbrev pub invariant-loop-n : goal.invariant-loop-n
invariant-loop-n l = (k : ℕ) → k < l.n → IsSome (entry_in (view l.attribs) k)
