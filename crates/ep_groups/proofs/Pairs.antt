-- Pairs that a directory puts, and what puts make of a map of them.
use Rattle.std.proofs.Common.{◌≡◌, ℕ, ◌+◌, ◌*◌, ◌≤◌, ◌==◌, List, [], ◌∷◌, ◌++◌, map, codes, get_or, Option, Some, None, IsTrue, if◌then◌else◌, nat_eq, All, decimal, refl, sym, ap, ◌∙◌, subst, Less, Equal, Greater, Ordering}
use Rattle.std.specs.List.{starts_with}
use Rattle.std.proofs.lemmas.List.{append_cancel_left}
use Rattle.std.proofs.lemmas.List.Elements.{All-cons, All-head, All-tail, All-filter, filter_passes}
use Rattle.std.proofs.lemmas.Map.Lookups.{exact_bytes}
use Rattle.std.proofs.lemmas.Slice.Eq.{starts_is}
use Rattle.std.proofs.lemmas.Bool.Decides.{Decides-eqb}
use Rattle.ep_outside.specs.declared.keeper.Pair.{Pair}
use Rattle.ep_outside.specs.declared.keeper.Put.{Put}
use Rattle.ep_outside.specs.Kept.{key_cmp, by_order, value_at, with, without, put_in, after, listed}
use Rattle.ep_dir_records.specs.Ids.{most_ids}
use Rattle.ep_dir_records.specs.Keys.{prefix, count_put}
use Rattle.ep_dir_records.specs.declared.keys.Kind.{Kind}
use Rattle.ep_dir_records.specs.declared.keys.Kind.TheVariants.{Group, GroupMapper, GroupPad, Author, AuthorMapper, Token, Session, ReadOnly, Pad}
use Rattle.ep_groups.specs.Ours.{has_form, IsOurs, AreOurs}
use Rattle.ep_groups.proofs.Texts.{count_is_read}

-- KINDS
-- the first two bytes of a key tell its kind
mark : List ℕ → ℕ
mark k = get_or k 0 0 * 1000 + get_or k 1 0

kind_by : ℕ → Kind
kind_by n =
    if n == 103047 then Group else if n == 103109 then GroupMapper else if n == 103112 then GroupPad else if n == 97047 then Author else if n == 97109 then AuthorMapper else if n == 116047 then Token else if n == 115047 then Session else if n == 114047 then ReadOnly else Pad

kind_back : (kind : Kind) (name : List ℕ) → kind_by (mark (prefix kind ++ name)) ≡ kind
unfolding kind_by mark
kind_back Group name = refl
kind_back GroupMapper name = refl
kind_back GroupPad name = refl
kind_back Author name = refl
kind_back AuthorMapper name = refl
kind_back Token name = refl
kind_back Session name = refl
kind_back ReadOnly name = refl
kind_back Pad name = refl

not_count : (kind : Kind) (name : List ℕ) → prefix kind ++ name ≡ codes "n" → ⊥
not_count Group name e = cc e
not_count GroupMapper name e = cc e
not_count GroupPad name e = cc e
not_count Author name e = cc e
not_count AuthorMapper name e = cc e
not_count Token name e = cc e
not_count Session name e = cc e
not_count ReadOnly name e = cc e
not_count Pad name e = cc e

-- one key is of one kind and name
one_key : (kind other : Kind) (name text value : List ℕ) → prefix kind ++ name ≡ prefix other ++ text → IsTrue (has_form kind name value) → IsTrue (has_form other text value)
one_key kind other name text value e h =
    let same : kind ≡ other = sym (kind_back kind name) ∙ ap (λ k. kind_by (mark k)) e ∙ kind_back other text in
    go other same e
  where
    go : (k : Kind) → kind ≡ k → prefix kind ++ name ≡ prefix k ++ text → IsTrue (has_form k text value)
    go k same at =
        let P : Kind → Type 0 = λ x. prefix kind ++ name ≡ prefix x ++ text → IsTrue (has_form x text value) in
        subst P same (λ d. subst (λ t. IsTrue (has_form kind t value)) (append_cancel_left (prefix kind) name text d) h) at

abbrev pub pair_of : List ℕ → List ℕ → Pair
pair_of k value = record { key = k; value = value }

pub pair_is_ours : (kind : Kind) (name value : List ℕ) → IsTrue (has_form kind name value) → IsOurs (pair_of (prefix kind ++ name) value)
pair_is_ours kind name value h = record {
  count = λ e. absurd (not_count kind name e);
  form = λ other text e. one_key kind other name text value e h;
}

count_is_ours : (n : ℕ) → n ≤ most_ids → IsOurs (pair_of (codes "n") (decimal n))
count_is_ours n l = record {
  count = λ e. count_is_read n l;
  form = λ kind name e. absurd (not_count kind name (sym e));
}

-- PUTS
abbrev pub ValueIsOurs : List ℕ → Option (List ℕ) → Type 0
ValueIsOurs k None = Unit {0}
ValueIsOurs k (Some value) = IsOurs (pair_of k value)

abbrev pub PutsAreOurs : List Put → Type 0
PutsAreOurs [] = Unit {0}
PutsAreOurs (p ∷ ps) = ValueIsOurs p.key p.value × PutsAreOurs ps

pub count_put_is_ours : (n : ℕ) (ps : List Put) → n ≤ most_ids → PutsAreOurs ps → PutsAreOurs (count_put n ∷ ps)
count_put_is_ours n ps l rest = (count_is_ours n l, rest)

pub puts_append : (ps qs : List Put) → PutsAreOurs ps → PutsAreOurs qs → PutsAreOurs (ps ++ qs)
puts_append [] qs a b = b
puts_append (p ∷ ps) qs a b = (a.0, puts_append ps qs a.1 b)

pub gone_are_ours : {A : Type 0} (f : A → List ℕ) (xs : List A) → PutsAreOurs (map (λ x. record { key = f x; value = None }) xs)
gone_are_ours f [] = tt
gone_are_ours f (x ∷ xs) = (tt, gone_are_ours f xs)

-- THE MAP
with_ours : (m : List Pair) (k value : List ℕ) → IsOurs (pair_of k value) → AreOurs m → AreOurs (with m k value)
with_ours [] k value new ours = All-cons IsOurs (pair_of k value) [] new ours
with_ours (p ∷ ps) k value new ours = go (with_ours ps k value new (All-tail IsOurs p ps ours)) (key_cmp k p.key)
  where
    go : AreOurs (with ps k value) → (o : Ordering) → AreOurs (by_order o (pair_of k value ∷ p ∷ ps) (pair_of k value ∷ ps) (p ∷ with ps k value))
    go more Less = All-cons IsOurs (pair_of k value) (p ∷ ps) new ours
    go more Equal = All-cons IsOurs (pair_of k value) ps new (All-tail IsOurs p ps ours)
    go more Greater = All-cons IsOurs p (with ps k value) (All-head IsOurs p ps ours) more

without_ours : (m : List Pair) (k : List ℕ) → AreOurs m → AreOurs (without m k)
without_ours [] k ours = ours
without_ours (p ∷ ps) k ours = go (without_ours ps k (All-tail IsOurs p ps ours)) (key_cmp k p.key)
  where
    go : AreOurs (without ps k) → (o : Ordering) → AreOurs (by_order o (p ∷ ps) ps (p ∷ without ps k))
    go more Less = ours
    go more Equal = All-tail IsOurs p ps ours
    go more Greater = All-cons IsOurs p (without ps k) (All-head IsOurs p ps ours) more

put_ours : (m : List Pair) (k : List ℕ) (value : Option (List ℕ)) → ValueIsOurs k value → AreOurs m → AreOurs (put_in m k value)
put_ours m k None new ours = without_ours m k ours
put_ours m k (Some value) new ours = with_ours m k value new ours

pub after_ours : (m : List Pair) (ps : List Put) → PutsAreOurs ps → AreOurs m → AreOurs (after m ps)
after_ours m [] new ours = ours
after_ours m (p ∷ ps) new ours = after_ours (put_in m p.key p.value) ps new.1 (put_ours m p.key p.value new.0 ours)

-- READINGS
-- what stands under a key is nothing, or the value of a pair of the map
pub at_key : (Q : Option (List ℕ) → Type 0) (k : List ℕ) → Q None → ((value : List ℕ) → IsOurs (pair_of k value) → Q (Some value)) → (m : List Pair) → AreOurs m → Q (value_at m k)
at_key Q k none some [] ours = none
at_key Q k none some (p ∷ ps) ours = go (at_key Q k none some ps (All-tail IsOurs p ps ours)) (key_cmp k p.key) refl
  where
    go : Q (value_at ps k) → (o : Ordering) → key_cmp k p.key ≡ o → Q (by_order o None (Some p.value) (value_at ps k))
    go more Less e = none
    go more Equal e = some p.value (subst (λ t. IsOurs (pair_of t p.value)) (sym (exact_bytes k p.key e)) (All-head IsOurs p ps ours))
    go more Greater e = more

pub listed_ours : (m : List Pair) (start : List ℕ) → AreOurs m → All (λ p. IsOurs p × ((rest : List ℕ) × (p.key ≡ start ++ rest))) (listed m start)
listed_ours m start ours =
    let kept = All-filter (λ p. starts_with nat_eq p.key start) IsOurs m ours in
    let begin = filter_passes (λ p. starts_with nat_eq p.key start) m in
    λ i d l. let p = get_or (listed m start) i d in (kept i d l, (_, (starts_is Decides-eqb p.key start (starts_with nat_eq p.key start) refl).0 (begin i d l)))
