-- What a file of just some records stands for.
use Rattle.std.proofs.Common.{◌≡◌, inl, inr, ℕ, ◌+◌, ◌≤◌, ◌<◌, ◌^◌, Bool, true, false, nat_lt, if◌then◌else◌, List, [], ◌∷◌, ◌++◌, length, map, get_or, take, drop, refl, sym, ◌∙◌, ap, subst, arith, append_assoc, length-append, Option, Some, None}
use Rattle.std.specs.Prelude.{sum_by}
use Rattle.std.specs.List.{AllByRecursion}
use Rattle.std.specs.Int.{w32, to_be_bytes, from_be_bytes}
use Rattle.std.proofs.lemmas.List.{take_at, drop_all, drop_at, drop_more}
use Rattle.std.proofs.lemmas.List.Sums.{sum_by-cons}
use Rattle.std.proofs.lemmas.Bool.{cases_Bool, cond-true, cond-false}
use Rattle.std.proofs.lemmas.Bool.Decides.{nat_tests}
use Rattle.std.proofs.lemmas.Nat.{from_be_bytes-to_be_bytes_4}
use Rattle.ep_journal.specs.File.{record_at, records_from, size_at}
use Rattle.ep_journal.proofs.File.{is_open_by, none_shut, one_open, shut_gate, skipped}
use Rattle.ep_journal.proofs.Append.{stands}
use Rattle.ep_history.specs.Machine.{file_bytes, most_bytes}
use Rattle.ep_history.specs.declared.record.Record.{Record}
use Rattle.ep_pad_file.specs.Standing.{size, StandsFor}
use Rattle.ep_record.specs.Bytes.{IsRecord, bytes_of}
use Rattle.ep_put.specs.Whole.{first_large, full_with, gated, gated_all, or_large, whole_file}
use Rattle.ep_history.specs.History.{newline}
use Rattle.ep_history.specs.declared.rev.Rev.{Rev}
use Rattle.ep_put.specs.Putting.{IsTaken, StandsForHistory, first_long, history_records}
use Rattle.ep_put.specs.Steps.{HistoryRefused, IsFull, IsTooLong}
use Rattle.ep_put.specs.declared.bad.PutBad.{PutBad}
use Rattle.ep_put.specs.declared.bad.PutBad.TheVariants as bad

abbrev front : List ℕ → List ℕ
front rec = to_be_bytes w32 (length rec)

size_gated : (rec tail : List ℕ) → length rec < 2 ^ 32 → size_at (gated rec ++ tail) ≡ length rec
unfolding size_at
size_gated rec tail small = ap (λ (l : List ℕ). from_be_bytes w32 (take 4 l)) (append_assoc (front rec) rec tail) ∙ ap (λ (l : List ℕ). from_be_bytes w32 l) (take_at (front rec) (rec ++ tail) 4 refl) ∙ from_be_bytes-to_be_bytes_4 (length rec) small

record_gated : (rec tail : List ℕ) → length rec < 2 ^ 32 → record_at (gated rec ++ tail) ≡ rec
unfolding record_at
record_gated rec tail small =
    ap (λ (l : List ℕ). take (size_at (gated rec ++ tail)) (drop 4 l)) (append_assoc (front rec) rec tail)
    ∙ (λ i. take (size_gated rec tail small i) (drop_at (front rec) (rec ++ tail) 4 refl i)) ∙ take_at rec tail (length rec) refl

-- a record behind an open gate, and what stands behind it
one_gated : (rec tail : List ℕ) → length rec ≤ 67108864 → 1 ≤ length tail → records_from 0 (gated rec ++ tail) ≡ rec ∷ records_from 0 tail
one_gated rec tail small some =
    let bytes = (front rec ++ rec) ++ tail in
    let n = size_gated rec tail (omega arith) in
    let long : length (gated rec ++ tail) ≡ 5 + length rec + length tail = omega (arith, length-append (front rec ++ rec) tail, length-append (front rec) rec) in
    let open_gate = is_open_by (gated rec ++ tail) (record { gate = refl; small = omega (arith, n); whole = omega (arith, n, long) }) in
    let behind : drop (size_at (gated rec ++ tail) + 4) bytes ≡ tail =
    ap (λ (k : ℕ). drop k bytes) (ap (λ (k : ℕ). k + 4) n) ∙ drop_at (front rec ++ rec) tail (length rec + 4) (omega (arith, length-append (front rec) rec)) in
    one_open 1 bytes open_gate
    ∙ (λ i. record_gated rec tail (omega arith) i ∷ skipped (size_at (gated rec ++ tail) + 4) bytes i)
    ∙ ap (λ (l : List ℕ). rec ∷ records_from 0 l) behind

pub some_gated : (rs : List Record) → 1 ≤ length (gated_all rs)
some_gated [] = omega arith
some_gated (r ∷ rs) = omega arith

-- ---- records that aren't too long

pub record NoneLarge (r : Record) (rs : List Record) : Type 0 where
  pub small : nat_lt most_bytes (size r) ≡ false
  pub rest : first_large rs ≡ None

pub none_large : (r : Record) (rs : List Record) → first_large (r ∷ rs) ≡ None → NoneLarge r rs
none_large r rs e = elim (cases_Bool (nat_lt most_bytes (size r))) [
  | inl large ↦ let some : Some (size r) ≡ None = sym (cond-true (nat_lt most_bytes (size r)) (Some (size r)) (first_large rs) large) ∙ e in absurd (cc)
  | inr small ↦ record { small = small; rest = sym (cond-false (nat_lt most_bytes (size r)) (Some (size r)) (first_large rs) small) ∙ e }
]

all_gated : (rs : List Record) → first_large rs ≡ None → records_from 0 (gated_all rs) ≡ map bytes_of rs
all_gated [] e = none_shut (0 ∷ []) (shut_gate (0 ∷ []) (λ one. omega arith))
all_gated (r ∷ rs) e =
    let n = none_large r rs e in
    one_gated (bytes_of r) (gated_all rs) (few n.small) (some_gated rs) ∙ ap (λ (l : List (List ℕ)). bytes_of r ∷ l) (all_gated rs n.rest)
  where
    few : nat_lt most_bytes (size r) ≡ false → size r ≤ 67108864
    few small = grind (arith, nat_tests)

-- a file of just these records stands for them
pub whole_stands : (rs : List Record) → AllByRecursion IsRecord rs → first_large rs ≡ None → StandsFor rs (whole_file rs)
whole_stands rs are small = record { bytes = stands (whole_file rs) refl ∙ ap (λ (l : List (List ℕ)). Some l) (all_gated rs small); records = are }

-- ---- its length

gated_length : (rs : List Record) → length (gated_all rs) ≡ 1 + sum_by (λ r. size r + 5) rs
gated_length [] = refl
gated_length (r ∷ rs) =
    omega (arith, length-append (gated (bytes_of r)) (gated_all rs), length-append (front (bytes_of r)) (bytes_of r), gated_length rs, sum_by-cons (λ q. size q + 5) r rs)

pub whole_length : (rs : List Record) → length (gated_all rs) + 8 ≡ file_bytes size rs
whole_length rs = omega (arith, gated_length rs)

-- ---- one record after another

-- what is left of records, and what was made of those before
pub record IsFramed (rs : List Record) (out : List ℕ) (rest : List Record) : Type 0 where
  pub bytes : out ++ gated_all rest ≡ gated_all rs
  pub are : AllByRecursion IsRecord rest → AllByRecursion IsRecord rs
  pub large : first_large rest ≡ first_large rs

pub framed_at : (rs : List Record) (out : List ℕ) (i : ℕ) (r : Record) → IsFramed rs out (drop i rs) → i < length rs → r ≡ get_or rs i r → IsFramed rs out (r ∷ drop (i + 1) rs)
framed_at rs out i r f l e = subst (λ (rest : List Record). IsFramed rs out rest) (drop_more rs i r l ∙ ap (λ (x : Record). x ∷ drop (i + 1) rs) (sym e)) f

pub framed_more : (rs : List Record) (out more : List ℕ) (r : Record) (rest : List Record) → IsFramed rs out (r ∷ rest) → more ≡ out ++ gated (bytes_of r) → IsRecord r → nat_lt most_bytes (size r) ≡ false → IsFramed rs more rest
framed_more rs out more r rest f made is small = record {
  bytes = ap (λ (l : List ℕ). l ++ gated_all rest) made ∙ append_assoc out (gated (bytes_of r)) (gated_all rest) ∙ f.bytes;
  are = λ later. f.are (is, later);
  large = sym (cond-false (nat_lt most_bytes (size r)) (Some (size r)) (first_large rest) small) ∙ f.large;
}

-- all of them
pub record IsAllFramed (rs : List Record) (all : List ℕ) : Type 0 where
  pub bytes : all ≡ gated_all rs
  pub are : AllByRecursion IsRecord rs
  pub small : first_large rs ≡ None

pub framed_all : (rs : List Record) (out all : List ℕ) (i : ℕ) → IsFramed rs out (drop i rs) → length rs ≤ i → all ≡ out ++ 0 ∷ [] → IsAllFramed rs all
framed_all rs out all i f l made =
    let g = subst (λ (rest : List Record). IsFramed rs out rest) (drop_all i rs l) f in
    record { bytes = made ∙ g.bytes; are = g.are tt; small = sym g.large }

pub framed_stop : (rs : List Record) (out : List ℕ) (r : Record) (rest : List Record) (why : PutBad) → IsFramed rs out (r ∷ rest) → IsFull (first_large (r ∷ [])) why → IsFull (first_large rs) why
framed_stop rs out r rest bad.Exists f is = absurd is
framed_stop rs out r rest (bad.TooLong n) f is = absurd is
framed_stop rs out r rest (bad.Full n) f is = sym f.large ∙ go (nat_lt most_bytes (size r)) is
  where
    go : (b : Bool) → (if b then Some (size r) else None) ≡ Some n → (if b then Some (size r) else first_large rest) ≡ Some n
    go true e = e
    go false e = absurd (cc)
framed_stop rs out r rest (bad.Disk n) f is = absurd is
framed_stop rs out r rest bad.NoMemory f is = tt

-- ---- why a file takes them, or doesn't

by_length : (rs : List Record) (limit n : ℕ) → first_large rs ≡ None → n ≡ file_bytes size rs → full_with limit rs ≡ (if nat_lt limit n then Some n else None)
by_length rs limit n small e = ap (λ (o : Option ℕ). or_large o limit (file_bytes size rs)) small ∙ ap (λ (k : ℕ). if nat_lt limit k then Some k else None) (sym e)

length_is : (rs : List Record) (bytes : List ℕ) (n : ℕ) → bytes ≡ gated_all rs → n ≡ length bytes + 8 → n ≡ file_bytes size rs
length_is rs bytes n is e = e ∙ ap (λ (l : List ℕ). length l + 8) is ∙ whole_length rs

is_within : (rs : List Record) (bytes : List ℕ) (limit n : ℕ) → bytes ≡ gated_all rs → first_large rs ≡ None → n ≡ length bytes + 8 → n ≤ limit → full_with limit rs ≡ None
is_within rs bytes limit n f small e le = let test : nat_lt limit n ≡ false = grind (arith, nat_tests) in by_length rs limit n small (length_is rs bytes n f e) ∙ cond-false (nat_lt limit n) (Some n) None test

is_past : (rs : List Record) (bytes : List ℕ) (limit n : ℕ) → bytes ≡ gated_all rs → first_large rs ≡ None → n ≡ length bytes + 8 → limit < n → full_with limit rs ≡ Some n
is_past rs bytes limit n f small e lt = let test : nat_lt limit n ≡ true = grind (arith, nat_tests) in by_length rs limit n small (length_is rs bytes n f e) ∙ cond-true (nat_lt limit n) (Some n) None test

-- ---- what is to be written

pub refused_long : (limit : ℕ) (vs : List Rev) (public : Bool) (why : PutBad) → IsTooLong (first_long newline vs) why → HistoryRefused limit vs public why
refused_long limit vs public bad.Exists is = is
refused_long limit vs public (bad.TooLong n) is = is
refused_long limit vs public (bad.Full n) is = absurd is
refused_long limit vs public (bad.Disk n) is = is
refused_long limit vs public bad.NoMemory is = tt

pub refused_large : (limit : ℕ) (vs : List Rev) (public : Bool) (rs : List Record) (why : PutBad) → rs ≡ history_records vs public → first_long newline vs ≡ None → IsFull (first_large rs) why → HistoryRefused limit vs public why
refused_large limit vs public rs bad.Exists e short is = is
refused_large limit vs public rs (bad.TooLong n) e short is = absurd is
refused_large limit vs public rs (bad.Full n) e short is =
    (short, ap (λ (l : List Record). or_large (first_large l) limit (file_bytes size (history_records vs public))) (sym e) ∙ ap (λ (o : Option ℕ). or_large o limit (file_bytes size (history_records vs public))) is)
refused_large limit vs public rs (bad.Disk n) e short is = is
refused_large limit vs public rs bad.NoMemory e short is = tt

pub refused_past : (limit n : ℕ) (vs : List Rev) (public : Bool) (rs : List Record) (bytes : List ℕ) → rs ≡ history_records vs public → first_long newline vs ≡ None → bytes ≡ gated_all rs → first_large rs ≡ None → n ≡ length bytes + 8 → limit < n
    → HistoryRefused limit vs public (bad.Full n)
refused_past limit n vs public rs bytes e short is small long lt = (short, ap (λ (l : List Record). full_with limit l) (sym e) ∙ is_past rs bytes limit n is small long lt)

pub taken_within : (limit n : ℕ) (vs : List Rev) (public : Bool) (rs : List Record) (bytes : List ℕ) → rs ≡ history_records vs public → first_long newline vs ≡ None → bytes ≡ gated_all rs → first_large rs ≡ None → n ≡ length bytes + 8 → n ≤ limit
    → IsTaken limit vs public
taken_within limit n vs public rs bytes e short is small long le = record { short = short; small = ap (λ (l : List Record). full_with limit l) (sym e) ∙ is_within rs bytes limit n is small long le }

pub stands_for_it : (vs : List Rev) (public : Bool) (rs : List Record) → rs ≡ history_records vs public → AllByRecursion IsRecord rs → first_large rs ≡ None → StandsForHistory vs public (whole_file (history_records vs public))
stands_for_it vs public rs e are small = subst (λ (l : List Record). StandsFor l (whole_file l)) e (whole_stands rs are small)
