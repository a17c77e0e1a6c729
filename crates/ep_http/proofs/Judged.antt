-- What the parser's answers say of the bytes of a head.
use Rattle.std.proofs.Common.{◌≡◌, ◌<◌, ◌≤◌, inl, inr, ℕ, List, [], true, false, sym, subst, arith, append-nil}
use Rattle.std.specs.Prelude.{nat_le}
use Rattle.httparse.specs.Grammar.{EndsInTarget, HasNoRequest, NeverHasRequest, ReadsRequest}
use Rattle.httparse.specs.Spans.{RequestExceeds, RequestOverflows}
use Rattle.ep_http.specs.Heads.{HasManyLines, IsUnfinished, lines_in}
use Rattle.ep_http.specs.Looking.{IsRefused}
use Rattle.ep_http.proofs.Lines.{exceeding_has_many}

as_it_is : (bytes : List ℕ) → NeverHasRequest bytes → HasNoRequest bytes
as_it_is bytes never h rest reads = never [] h rest (subst (λ b. ReadsRequest b h rest) (sym (append-nil bytes)) reads)

pub at_least : (m n : ℕ) → nat_le m n ≡ true → m ≤ n
at_least m n h = grind (arith, h)

pub below : (m n : ℕ) → nat_le m n ≡ false → n < m
below m n h = grind (arith, h)

-- the head has too many fields
pub overflowing : (bytes : List ℕ) → RequestOverflows 64 bytes → RequestExceeds 64 bytes → IsRefused bytes
overflowing bytes over exceeds = record {
  none = λ h rest reads. over [] h rest (subst (λ b. ReadsRequest b h rest) (sym (append-nil bytes)) reads);
  why = inr (exceeding_has_many bytes exceeds);
}

-- nothing can make the bytes a head, and they don't end in the target
pub cannot_begin : (bytes : List ℕ) → NeverHasRequest bytes → ¬ (EndsInTarget bytes) → IsRefused bytes
cannot_begin bytes never not = record {
  none = λ h rest reads. absurd (as_it_is bytes never h rest reads);
  why = inl (never, not);
}

-- nothing can make the bytes a head, and too many lines have ended
pub too_many_lines : (bytes : List ℕ) → NeverHasRequest bytes → HasManyLines bytes → IsRefused bytes
too_many_lines bytes never many = record {
  none = λ h rest reads. absurd (as_it_is bytes never h rest reads);
  why = inr many;
}

-- they end in the target
pub still_in_target : (bytes : List ℕ) → NeverHasRequest bytes → EndsInTarget bytes → lines_in bytes < 66 → IsUnfinished bytes
still_in_target bytes never at few = record {
  none = as_it_is bytes never;
  may = inr at;
  few = few;
}
