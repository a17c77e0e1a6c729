-- What stands for records.
use Rattle.std.proofs.Common.{◌≡◌, inl, inr, ⊎_elim, ℕ, zero, suc, ◌+◌, ◌<◌, ◌==◌, nat_lt, Bool, true, false, cond, List, [], ◌∷◌, ◌++◌, length, map, get_or, refl, sym, ◌∙◌, ap, arith, Some, None, Option, subst}
use Rattle.std.specs.Prelude.{sum_by}
use Rattle.std.specs.List.{AllByRecursion}
use Rattle.std.proofs.lemmas.List.{map-append, length-map}
use Rattle.std.proofs.lemmas.List.Sums.{sum_by-cons, sum_by_push}
use Rattle.std.proofs.lemmas.Option.{same_Some}
use Rattle.ep_journal.specs.File.{stands_for, records_of, is_foreign, end_of, IsBeforeOrAfter}
use Rattle.ep_journal.specs.File as journal
use Rattle.ep_record.specs.Bytes.{bytes_of, IsRecord, IsEncoding}
use Rattle.ep_record.specs.Reading.{record_at}
use Rattle.ep_record.proofs.Again.{again}
use Rattle.ep_history.specs.declared.record.Record.TheVariants.{Open}
use Rattle.ep_history.specs.Lists.{at, or_else}
use Rattle.ep_history.specs.Refusals.{first_fault, fault_if}
use Rattle.ep_history.specs.Machine.{MachineState, most_bytes, file_bytes, journal_fault, longest_with}
use Rattle.ep_history.specs.declared.pad_bad.PadBad.TheVariants.{JournalFull}
use Rattle.ep_history.specs.declared.record.Record.{Record}
use Rattle.ep_pad_file.specs.Standing.{size, record_in, StandsFor, IsOldOrMore, IsByGate}
use Rattle.ep_pad_file.specs.PadFile.{file_fault}

-- ---- lists of records

pub all_more : (rs qs : List Record) → AllByRecursion IsRecord rs → AllByRecursion IsRecord qs → AllByRecursion IsRecord (rs ++ qs)
all_more [] qs a b = b
all_more (r ∷ rs) qs a b = (a.0, all_more rs qs a.1 b)

-- the record of an index, and its bytes
pub record_at_index : (rs : List Record) (i : ℕ) → AllByRecursion IsRecord rs → i < length rs → (r : Record) × (at rs i ≡ Some r) × IsEncoding (get_or (map bytes_of rs) i []) r
record_at_index [] i all lt = absurd (omega arith)
record_at_index (r ∷ rs) zero all lt = (r, refl, record { is = all.0; same = refl })
record_at_index (r ∷ rs) (suc i) all lt = record_at_index rs i all.1 (omega arith)

-- ---- what a file stands for

abbrev StandsBy : Bool → List (List ℕ) → List (List ℕ) → Type 0
StandsBy foreign records bytes = cond foreign None (Some records) ≡ Some bytes

native_by : (foreign : Bool) (records bytes : List (List ℕ)) → StandsBy foreign records bytes → (foreign ≡ false) × (records ≡ bytes)
native_by true records bytes is = absurd (cc)
native_by false records bytes is = (refl, same_Some _ _ is)

pub native : (rs : List Record) (file : List ℕ) → StandsFor rs file → is_foreign file ≡ false
native rs file s = (native_by (is_foreign file) (records_of file) (map bytes_of rs) s.bytes).0

pub records_are : (rs : List Record) (file : List ℕ) → StandsFor rs file → records_of file ≡ map bytes_of rs
records_are rs file s = (native_by (is_foreign file) (records_of file) (map bytes_of rs) s.bytes).1

pub stands_same : (rs : List Record) (file image : List ℕ) → StandsFor rs file → stands_for image ≡ Some (records_of file) → StandsFor rs image
stands_same rs file image s is = record { bytes = is ∙ ap (λ (l : List (List ℕ)). Some l) (records_are rs file s); records = s.records }

pub stands_more : (rs : List Record) (r : Record) (file image rec : List ℕ) → StandsFor rs file → IsEncoding rec r → stands_for image ≡ Some (records_of file ++ rec ∷ []) → StandsFor (rs ++ r ∷ []) image
stands_more rs r file image rec s enc is =
    let old = records_are rs file s in
    let new = enc.same in
    record {
      bytes = is ∙ (λ i. Some (old i ++ new i ∷ [])) ∙ ap (λ (l : List (List ℕ)). Some l) (sym (map-append bytes_of rs (r ∷ [])));
      records = all_more rs (r ∷ []) s.records (enc.is, tt);
    }

pub one_or_other : (rs : List Record) (r : Record) (file image rec : List ℕ) → StandsFor rs file → IsEncoding rec r → IsBeforeOrAfter (records_of file) rec image → IsOldOrMore rs (r ∷ []) image
one_or_other rs r file image rec s enc is = ⊎_elim (λ old. inl (stands_same rs file image s old)) (λ new. inr (stands_more rs r file image rec s enc new)) is

pub by_gate : (gate : ℕ) (rs : List Record) (r : Record) (file image rec : List ℕ) → StandsFor rs file → IsEncoding rec r → journal.IsByGate gate (records_of file) rec image → IsByGate gate rs r image
by_gate gate rs r file image rec s enc is = by (get_or image gate 0 == 1) is
  where
    by : (b : Bool) → stands_for image ≡ Some (cond b (records_of file ++ rec ∷ []) (records_of file)) → StandsFor (cond b (rs ++ r ∷ []) rs) image
    by true new = stands_more rs r file image rec s enc new
    by false old = stands_same rs file image s old

-- ---- its length

end_is : (first : ℕ) (rs : List Record) → end_of first (map bytes_of rs) ≡ first + sum_by (λ r. size r + 5) rs
end_is first [] = omega arith
end_is first (r ∷ rs) = omega (arith, end_is (first + (5 + size r)) rs, sum_by-cons (λ q. size q + 5) r rs)

pub length_is : (rs : List Record) (file : List ℕ) → StandsFor rs file → journal.closed_gate file + 1 ≡ file_bytes size rs
length_is rs file s =
    let end : journal.closed_gate file ≡ end_of 8 (map bytes_of rs) = ap (λ (l : List (List ℕ)). end_of 8 l) (records_are rs file s) in
    omega (arith, end, end_is 8 rs)

pub same_fault : (st : MachineState) (r : Record) (length most : ℕ) → length ≡ file_bytes size st.records → longest_with st.pad.limits r ≡ most → file_fault length most r ≡ journal_fault size st r
same_fault st r length most long same =
    let with : length + (size r + 5) ≡ file_bytes size (st.records ++ r ∷ []) = omega (arith, long, sum_by_push (λ q. size q + 5) st.records r) in
    let back = sym same in
    (λ i. first_fault (fault_if (nat_lt most_bytes (size r)) (JournalFull (size r)) ∷ fault_if (nat_lt (back i) (with i)) (JournalFull (with i)) ∷ []))

pub count_is : (rs : List Record) (file : List ℕ) (n : ℕ) → StandsFor rs file → n ≡ length (records_of file) → n ≡ length rs
count_is rs file n s is = is ∙ ap (λ (l : List (List ℕ)). length l) (records_are rs file s) ∙ length-map rs bytes_of

-- no bytes are two records', so no file stands for two lists
pub one_list : ((bytes : List ℕ) (r q : Record) → IsEncoding bytes r → IsEncoding bytes q → r ≡ q) → (rs qs : List Record) → AllByRecursion IsRecord rs → AllByRecursion IsRecord qs → map bytes_of rs ≡ map bytes_of qs → rs ≡ qs
one_list unique [] [] all each same = refl
one_list unique [] (q ∷ qs) all each same = absurd (cc)
one_list unique (r ∷ rs) [] all each same = absurd (cc)
one_list unique (r ∷ rs) (q ∷ qs) all each same =
    let first : bytes_of r ≡ bytes_of q = cc in
    let rest : map bytes_of rs ≡ map bytes_of qs = cc in
    let one = unique (bytes_of r) r q (record { is = all.0; same = refl }) (record { is = each.0; same = first }) in
    let more = one_list unique rs qs all.1 each.1 rest in
    (λ i. one i ∷ more i)

-- the record that its bytes are
pub record_in_bytes : (bytes : List ℕ) (r : Record) → IsEncoding bytes r → record_in bytes ≡ r
record_in_bytes bytes r enc = ap (λ (found : Option Record). or_else found (Open 0)) (ap record_at enc.same ∙ again r enc.is)

pub is_record_in : (bytes : List ℕ) (r : Record) → IsEncoding bytes r → IsEncoding bytes (record_in bytes)
is_record_in bytes r enc = subst (IsEncoding bytes) (sym (record_in_bytes bytes r enc)) enc
