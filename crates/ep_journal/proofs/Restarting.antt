-- An opening of the image that a restart left.
use Rattle.std.proofs.Common.{inl, inr, ⊎_elim, ℕ, List, Result, Ok, Err}
use Rattle.std.specs.Prelude.{MatchResult}
use Rattle.ep_outside.specs.Moments.{LeavesOnly, LeavesFirst, MayLeaveFirst}
use Rattle.ep_outside.proofs.Moments.{joined, weaker}
use Rattle.ep_journal.specs.declared.journal_bad.JournalBad.{JournalBad}

module _ {D : Type 0} (moment : D → ℕ) (since : D → ℕ → List ℕ → Type 0) (old mid new : D) (A P Q : List ℕ → Type 0)
    (start : LeavesOnly moment since old mid P) (to : (c : List ℕ) → A c → P c) where
  first : LeavesFirst moment since mid new A Q → LeavesFirst moment since old new P Q
  first h = (h.0, joined moment since old mid h.0 P start (weaker moment since mid h.0 A P to h.1), h.2)

  pub opens_after : (r : Result (Unit {0}) JournalBad)
      → MatchResult r (λ u. LeavesFirst moment since mid new A Q) (λ e. MayLeaveFirst moment since mid new A Q)
      → MatchResult r (λ u. LeavesFirst moment since old new P Q) (λ e. MayLeaveFirst moment since old new P Q)
  opens_after (Ok u) h = first h
  opens_after (Err e) h = ⊎_elim (λ whole. inl (joined moment since old mid new P start (weaker moment since mid new A P to whole))) (λ parts. inr (first parts)) h
