use Rattle.std.proofs.Common.{◌≡◌, ◌≤◌, ◌<◌, ◌+◌, ℕ, length, slice_get}
use Rattle.serde_json.specs.View.{view}
use Rattle.ep_pool.specs.Read.{AreTexts, entry_in}
use Rattle.ep_pool.proofs.from_json.gather.Given as goal

abbrev pub invariant-loop-n : goal.invariant-loop-n
invariant-loop-n l = record {
  len : length l.pool.pairs ≡ l.n;
  room : l.next ≤ l.n + l.pool.spare;
  texts : AreTexts l.pool.pairs;
  entries : (k : ℕ) → k < l.n → entry_in (view l.attribs) k ≡ slice_get l.pool.pairs k;
}
