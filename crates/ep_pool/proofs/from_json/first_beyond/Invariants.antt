use Rattle.std.proofs.Common.{◌≡◌, ◌≤◌, ◌++◌, ℕ, List, true, decimal, IfSome, IsSome}
use Rattle.serde_json.specs.Find.{get_member}
use Rattle.serde_json.specs.View.{members_view}
use Rattle.serde_json.proofs.Views.{Entry}
use Rattle.ep_pool.specs.Read.{most_number}
use Rattle.ep_pool.specs.Searching.{is_before}
use Rattle.ep_pool.proofs.from_json.first_beyond.Given as goal

abbrev pub invariant-loop-key : goal.invariant-loop-key
invariant-loop-key l = record {
  walked : (done : List Entry) × (l.members.entries ≡ done ++ l.key-iterator);
  found : IfSome l.least (λ m. (l.next ≤ m) × (m ≤ most_number) × IsSome (get_member (decimal m) (members_view l.members.entries)));
  passed : (k : ℕ) → l.next ≤ k → k ≤ most_number → is_before k l.least ≡ true → get_member (decimal k) (members_view l.members.entries) ≡ get_member (decimal k) (members_view l.key-iterator);
}
