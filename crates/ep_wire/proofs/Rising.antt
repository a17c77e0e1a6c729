-- The entries of a pool's JSON stand in the order of their names, so they are read back one after another.
use Rattle.std.proofs.Common.{◌≡◌, ℕ, suc, ◌<◌, ◌≤◌, ◌^◌, List, [], ◌∷◌, length, decimal, Some, Ordering, Less, Equal, Greater, refl, ap, ◌∙◌, arith}
use Rattle.std.specs.Ordering.{nat_cmp, match_ordering, ordering_reverse}
use Rattle.std.specs.Cmp.Lexicographic.{nat_list_cmp_total, slice_cmp}
use Rattle.json.specs.Tree.{depth, members_depth}
use Rattle.serde_json.specs.Data.{Data, Members, no_members, member, put}
use Rattle.serde_json.specs.Read.{of_json, of_members}
use Rattle.serde_json.specs.Written.{members_outline, outline}
use Rattle.serde_json.proofs.Numbers.{number_of-decimal}
use Rattle.ep_attr.specs.AttrMap.{Pair}
use Rattle.ep_pool.specs.Json.{numbered, pair_json, pool_json}

-- one name is before another
abbrev IsBefore : List ℕ → List ℕ → Type 0
IsBefore k l = slice_cmp nat_cmp k l ≡ Less

after : (k l : List ℕ) → IsBefore k l → slice_cmp nat_cmp l k ≡ Greater
after k l before = nat_list_cmp_total.antisymm l k ∙ ap ordering_reverse before

before : (k l : List ℕ) → slice_cmp nat_cmp k l ≡ Greater → IsBefore l k
before k l after = nat_list_cmp_total.antisymm l k ∙ ap ordering_reverse after

-- a name before all of these
abbrev IsFirst : List ℕ → Members → Type 0
IsFirst k no_members = Unit {0}
IsFirst k (member l d ms) = IsBefore k l × IsFirst k ms

-- a name behind all of these
abbrev IsLast : List ℕ → Members → Type 0
IsLast k no_members = Unit {0}
IsLast k (member l d ms) = IsBefore l k × IsLast k ms

-- it is read back, and is a list of texts at most
abbrev IsLow : Data → Type 0
IsLow d = (of_json (outline d) ≡ Some d) × (depth (outline d) ≤ 1)

-- the names rise, and each value is read back
abbrev AreRising : Members → Type 0
AreRising no_members = Unit {0}
AreRising (member k d ms) = IsFirst k ms × IsLow d × AreRising ms

further : (k l : List ℕ) (ms : Members) → IsBefore k l → IsFirst l ms → IsFirst k ms
further k l no_members near far = tt
further k l (member m d ms) near far = (nat_list_cmp_total.trans k l m near far.0, further k l ms near far.1)

put_first : (x k : List ℕ) (d : Data) (ms : Members) → IsBefore x k → IsFirst x ms → IsFirst x (put k d ms)
put_first x k d no_members near far = (near, tt)
put_first x k d (member l e ms) near far = by (slice_cmp nat_cmp k l) (put_first x k d ms near far.1)
  where
    by : (o : Ordering) → IsFirst x (put k d ms) → IsFirst x (match_ordering o (member k d (member l e ms)) (member l d ms) (member l e (put k d ms)))
    by Less rest = (near, far)
    by Equal rest = (far.0, far.1)
    by Greater rest = (far.0, rest)

put_rising : (k : List ℕ) (d : Data) (ms : Members) → IsLow d → AreRising ms → AreRising (put k d ms)
put_rising k d no_members read are = (tt, read, tt)
put_rising k d (member l e ms) read are = by (slice_cmp nat_cmp k l) refl (put_rising k d ms read are.2)
  where
    by : (o : Ordering) → slice_cmp nat_cmp k l ≡ o → AreRising (put k d ms) → AreRising (match_ordering o (member k d (member l e ms)) (member l d ms) (member l e (put k d ms)))
    by Less is rest = ((is, further k l ms is are.0), read, are)
    by Equal is rest = (are.0, read, are.2)
    by Greater is rest = (put_first l k d ms (before k l is) are.0, are.1, rest)

abbrev joined : Members → Members → Members
joined no_members ms = ms
joined (member k d xs) ms = member k d (joined xs ms)

joined-more : (xs : Members) (k : List ℕ) (d : Data) (ms : Members) → joined (joined xs (member k d no_members)) ms ≡ joined xs (member k d ms)
joined-more no_members k d ms = refl
joined-more (member l e xs) k d ms = ap (member l e) (joined-more xs k d ms)

put_end : (k : List ℕ) (d : Data) (xs : Members) → IsLast k xs → put k d xs ≡ joined xs (member k d no_members)
put_end k d no_members last = refl
put_end k d (member l e xs) last = rw (after l k last.0) (ap (member l e) (put_end k d xs last.1))

-- each of these names is behind all of those
abbrev AreLast : Members → Members → Type 0
AreLast no_members xs = Unit {0}
AreLast (member k d ms) xs = IsLast k xs × AreLast ms xs

last_more : (k l : List ℕ) (d : Data) (xs : Members) → IsLast k xs → IsBefore l k → IsLast k (joined xs (member l d no_members))
last_more k l d no_members last near = (near, tt)
last_more k l d (member m e xs) last near = (last.0, last_more k l d xs last.1 near)

are_more : (l : List ℕ) (d : Data) (ms xs : Members) → AreLast ms xs → IsFirst l ms → AreLast ms (joined xs (member l d no_members))
are_more l d no_members xs last first = tt
are_more l d (member k e ms) xs last first = (last_more k l d xs last.0 first.0, are_more l d ms xs last.1 first.1)

rising_read : (xs ms : Members) → AreLast ms xs → AreRising ms → of_members (members_outline ms) xs ≡ Some (joined xs ms)
rising_read xs no_members last are = ap Some (nothing xs)
  where
    nothing : (ys : Members) → ys ≡ joined ys no_members
    nothing no_members = refl
    nothing (member k d ys) = ap (member k d) (nothing ys)
rising_read xs (member k d ms) last are =
    let rest = rising_read (joined xs (member k d no_members)) ms (are_more k d ms xs last.1 are.0) are.2 in
    rw (are.1.0, put_end k d xs last.0) (rest ∙ ap Some (joined-more xs k d ms))

none_last : (ms : Members) → AreLast ms no_members
none_last no_members = tt
none_last (member k d ms) = (tt, none_last ms)

numbered_rising : (ms : Members) (n : ℕ) (ps : List Pair) → AreRising ms → AreRising (numbered ms n ps)
numbered_rising ms n [] are = are
numbered_rising ms n (p ∷ ps) are = numbered_rising (put (decimal n) (pair_json p) ms) (suc n) ps (put_rising (decimal n) (pair_json p) ms (refl, omega arith) are)

entries_read : (ps : List Pair) → of_members (members_outline (numbered no_members 0 ps)) no_members ≡ Some (numbered no_members 0 ps)
entries_read ps = rising_read no_members (numbered no_members 0 ps) (none_last _) (numbered_rising no_members 0 ps tt)

low : (ms : Members) → AreRising ms → members_depth (members_outline ms) ≤ 1
low no_members are = omega arith
low (member k d ms) are = omega (arith, are.1.1, low ms are.2)

pub entries_low : (ps : List Pair) → members_depth (members_outline (numbered no_members 0 ps)) ≤ 1
entries_low ps = low (numbered no_members 0 ps) (numbered_rising no_members 0 ps tt)

pub pool_read : (ps : List Pair) → length ps < 2 ^ 64 → of_json (outline (pool_json ps)) ≡ Some (pool_json ps)
pool_read ps few = rw (number_of-decimal (length ps) few, entries_read ps)
