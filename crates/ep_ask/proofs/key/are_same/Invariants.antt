use Rattle.std.proofs.Common.{◌≡◌, ℕ, ◌<◌, true, length, get_or}
use Rattle.ep_ask.proofs.key.are_same.Given as goal

-- so far both are the same, exactly where they may be the same as a whole
abbrev pub invariant-loop-i : goal.invariant-loop-i
invariant-loop-i l = record {
  tells : l.same ≡ true → (length l.given ≡ length l.key) × ((k : ℕ) → k < l.i → get_or l.given k 0 ≡ get_or l.key k 0);
  told : l.given ≡ l.key → l.same ≡ true;
}
