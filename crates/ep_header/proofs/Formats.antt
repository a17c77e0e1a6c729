-- A file has one format, or is foreign.
use Rattle.std.proofs.Common.{◌≡◌, ◌⊎◌, inl, inr, ℕ, ◌<◌, Bool, true, false, not, ◌&&◌, List, length, take, get_or, Option, Some, None, refl, sym, ap, ◌∙◌, unwrap_or, arith}
use Rattle.std.specs.Prelude.{◌↔◌, ◌==◌, nat_lt, bytes_eq, if◌then◌else◌}
use Rattle.std.proofs.lemmas.Bool.{lt-ltb, ltb-false, false_from_ne_true}
use Rattle.std.proofs.lemmas.Slice.Eq.{bytes_eq-Decides}
use Rattle.ep_header.specs.Header.{header_of, format_named, format_in, is_foreign, IsFormat, IsIn}

-- what is read of a file: whether it is long, and whether it begins with either header
abbrev read : Bool → Bool → Bool → Option ℕ
read long first second = if long then (if first then Some 1 else (if second then Some 2 else None)) else Some 2

foreign_by : (long first second : Bool) → (read long first second ≡ None) ↔ ((long && (not first && not second)) ≡ true)
foreign_by false first second = (λ e. cc, λ e. cc)
foreign_by true true second = (λ e. cc, λ e. cc)
foreign_by true false true = (λ e. cc, λ e. cc)
foreign_by true false false = (λ e. refl, λ e. refl)

pub foreign : (file : List ℕ) → (format_in file ≡ None) ↔ (is_foreign file ≡ true)
foreign file = foreign_by (nat_lt 9 (length file)) (bytes_eq (take 8 file) (header_of 1)) (bytes_eq (take 8 file) (header_of 2))

same : {a b : ℕ} → ◌≡◌ {A = Option ℕ} (Some a) (Some b) → a ≡ b
same {b = b} e = ap (λ o. unwrap_or o b) e

begins : (file : List ℕ) (format : ℕ) → bytes_eq (take 8 file) (header_of format) ≡ true → take 8 file ≡ header_of format
begins file format e = (bytes_eq-Decides (take 8 file) (header_of format)).0 e

pub in_its_format : (file : List ℕ) (format : ℕ) → format_in file ≡ Some format → IsFormat format × IsIn format file
in_its_format file format = by (nat_lt 9 (length file)) (bytes_eq (take 8 file) (header_of 1)) (bytes_eq (take 8 file) (header_of 2)) refl refl refl
  where
    by : (long first second : Bool) → nat_lt 9 (length file) ≡ long → bytes_eq (take 8 file) (header_of 1) ≡ first → bytes_eq (take 8 file) (header_of 2) ≡ second
        → read long first second ≡ Some format → IsFormat format × IsIn format file
    by false first second l a b e = (inr (sym (same e)), inl (ltb-false 9 (length file) l))
    by true true second l a b e = (inl (sym (same e)), inr (begins file 1 a ∙ ap header_of (same e)))
    by true false true l a b e = (inr (sym (same e)), inr (begins file 2 b ∙ ap header_of (same e)))
    by true false false l a b e = cc

-- ---- one format alone

two_headers : header_of 1 ≡ header_of 2 → ⊥
two_headers e = let last : 49 ≡ 50 = ap (λ (l : List ℕ). get_or l 7 0) e in omega (arith, last)

named_first : (front : List ℕ) → front ≡ header_of 1 → format_named front ≡ Some 1
named_first front e = rw ((bytes_eq-Decides front (header_of 1)).1 e) refl

named_second : (front : List ℕ) → front ≡ header_of 2 → format_named front ≡ Some 2
named_second front e =
    let other : bytes_eq front (header_of 1) ≡ false = false_from_ne_true (bytes_eq front (header_of 1)) (λ t. two_headers (sym ((bytes_eq-Decides front (header_of 1)).0 t) ∙ e)) in
    rw (other, (bytes_eq-Decides front (header_of 2)).1 e) refl

long_in : (file : List ℕ) (format : ℕ) → 9 < length file → format_named (take 8 file) ≡ Some format → format_in file ≡ Some format
long_in file format long e = rw (lt-ltb 9 (length file) long) e

pub in_one_format : (file : List ℕ) (format : ℕ) → 9 < length file → IsFormat format → IsIn format file → format_in file ≡ Some format
in_one_format file format long is (inl short) = absurd (omega (arith, long, short))
in_one_format file format long (inl one) (inr e) =
    long_in file format long (named_first (take 8 file) (e ∙ ap header_of one) ∙ ap Some (sym one))
in_one_format file format long (inr two) (inr e) =
    long_in file format long (named_second (take 8 file) (e ∙ ap header_of two) ∙ ap Some (sym two))
