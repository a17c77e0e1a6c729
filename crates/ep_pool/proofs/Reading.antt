-- Entries under numbers.
use Rattle.std.proofs.Common.{◌≡◌, ℕ, ◌<◌, ◌≤◌, ◌^◌, List, [], ◌∷◌, ◌++◌, true, false, not, nat_lt, Option, Some, None, is_some, option_and_then, IfSome, IsSome, Ordering, Less, Equal, Greater, refl, sym, ap, ◌∙◌, subst, decimal, string_bytes, inl, inr, ◌⊎◌, arith, rules}
use Rattle.std.specs.Ordering.{nat_cmp, match_ordering}
use Rattle.std.specs.Cmp.Lexicographic.{slice_cmp}
use Rattle.std.proofs.lemmas.Fmt.{decimal_injective}
use Rattle.std.proofs.lemmas.Option.{none-some, same_Some}
use Rattle.serde_json.specs.Data.{Data, null, boolean, number, string, array, object, Members, no_members, member}
use Rattle.serde_json.specs.Find.{get, get_member, as_object}
use Rattle.serde_json.specs.View.{view, members_view}
use Rattle.std.proofs.lemmas.Bool.{cases_lt}
use Rattle.serde_json.proofs.Views.{Entry, member_here}
use Rattle.ep_pool.specs.Read.{AreEntries, IsLeast, entry_in, most_number, pair_read}
use Rattle.ep_pool.specs.Searching.{is_before}

pub same_number : (key : List ℕ) (n k : ℕ) → n ≤ most_number → k ≤ most_number → key ≡ decimal n → key ≡ decimal k → n ≡ k
same_number key n k small_n small_k is_n is_k = decimal_injective n k (omega arith) (omega arith) (sym is_n ∙ is_k)

pub get_in_object : (a : Data) (ms : Members) (q : List ℕ) → as_object a ≡ Some ms → get q a ≡ get_member q ms
get_in_object null ms q is = absurd (none-some ms is)
get_in_object (boolean b) ms q is = absurd (none-some ms is)
get_in_object (number n) ms q is = absurd (none-some ms is)
get_in_object (string s) ms q is = absurd (none-some ms is)
get_in_object (array ds) ms q is = absurd (none-some ms is)
get_in_object (object os) ms q is = ap (get_member q) (same_Some os ms is)

read_at : (o : Ordering) (g : Option Data) (d : Data) → IsSome (pair_read d) → (IsSome g → IsSome (option_and_then pair_read g))
    → IsSome (match_ordering o g (Some d) g) → IsSome (option_and_then pair_read (match_ordering o g (Some d) g))
read_at Less g d here later = later
read_at Equal g d here later = λ _. here
read_at Greater g d here later = later

-- a member that is there is a pair
pub entry_of_member : (ms : Members) (q : List ℕ) → AreEntries ms → IsSome (get_member q ms) → IsSome (option_and_then pair_read (get_member q ms))
entry_of_member no_members q all there = absurd (search rules)
entry_of_member (member k d ms) q all there = read_at (slice_cmp nat_cmp q k) (get_member q ms) d all.1 (entry_of_member ms q all.2) there

some_at : (o : Ordering) (g : Option Data) (d : Data) → IsSome g → IsSome (match_ordering o g (Some d) g)
some_at Less g d there = there
some_at Equal g d there = refl
some_at Greater g d there = there

-- a member that is there is there behind others too
pub member_behind : (q : List ℕ) (es more : List Entry) → IsSome (get_member q (members_view more)) → IsSome (get_member q (members_view (es ++ more)))
member_behind q [] more there = there
member_behind q (e ∷ es) more there = some_at _ _ (view e.1) (member_behind q es more there)

-- where all below `next` are there, the least that is there beyond it is the first gap
pub least_beyond : (a : Data) (ms : Members) (next : ℕ) (r : Option ℕ) → as_object a ≡ Some ms → AreEntries ms → ((k : ℕ) → k < next → IsSome (entry_in a k))
    → IfSome r (λ n. (next ≤ n) × (n ≤ most_number) × IsSome (get_member (decimal n) ms))
    → ((k : ℕ) → next ≤ k → k ≤ most_number → is_before k r ≡ true → get_member (decimal k) ms ≡ None)
    → IfSome r (IsLeast (λ n. (n ≤ most_number) × (nat_lt n next ≡ not (is_some (entry_in a n)))))
least_beyond a ms next None is all below found rest = tt
least_beyond a ms next (Some n) is all below found rest =
    let there : IsSome (entry_in a n) = rw (get_in_object a ms (decimal n) is) (entry_of_member ms (decimal n) all found.2) in
    let beyond : nat_lt n next ≡ false = grind (arith, found.0) in (
      (found.1, beyond ∙ sym (ap not there)),
      least,
    )
  where
    gone : (k : ℕ) → next ≤ k → k < n → is_some (entry_in a k) ≡ false
    gone k beyond lower =
        ap (λ o. is_some (option_and_then pair_read o)) (get_in_object a ms (decimal k) is ∙ rest k beyond (omega (arith, lower, found.1)) (grind (arith, lower)))

    least : (k : ℕ) → k < n → ((k ≤ most_number) × (nat_lt k next ≡ not (is_some (entry_in a k)))) → ⊥
    least k lower (small, gap) =
        elim (cases_lt k next) [ inl h ↦ (let e = below k h in grind (arith, h, e, gap)) | inr h ↦ (let e = gone k h lower in grind (arith, h, e, gap)) ]

-- the least number so far is that of a member
pub nearer_found : (all done left : List Entry) (e : Entry) (key : List ℕ) (next : ℕ) (least r : Option ℕ) → all ≡ done ++ e ∷ left → key ≡ string_bytes e.0
    → IfSome least (λ m. (next ≤ m) × (m ≤ most_number) × IsSome (get_member (decimal m) (members_view all)))
    → IfSome r (λ m. (least ≡ Some m) ⊎ ((next ≤ m) × (m ≤ most_number) × (key ≡ decimal m)))
    → IfSome r (λ m. (next ≤ m) × (m ≤ most_number) × IsSome (get_member (decimal m) (members_view all)))
nearer_found all done left e key next least None walked named before found = tt
nearer_found all done left e key next least (Some m) walked named before (inl is) = subst (λ o. IfSome o (λ m. (next ≤ m) × (m ≤ most_number) × IsSome (get_member (decimal m) (members_view all)))) is before
nearer_found all done left e key next least (Some m) walked named before (inr h) = (
  h.0,
  h.1,
  subst (λ es. IsSome (get_member (decimal m) (members_view es))) (sym walked) (member_behind (decimal m) done (e ∷ left) (ap is_some (member_here (decimal m) e left (sym h.2 ∙ named)))),
)
