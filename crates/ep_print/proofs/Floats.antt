-- The JSON of a pool has no float.
use Rattle.std.proofs.Common.{◌≡◌, ℕ, suc, ◌||◌, Bool, true, false, List, [], ◌∷◌, refl}
use Rattle.std.specs.Prelude.{decimal}
use Rattle.std.specs.declared.cmp.Ordering.{Ordering}
use Rattle.std.specs.declared.cmp.Ordering.TheVariants.{Less, Equal, Greater}
use Rattle.std.specs.Ordering.{nat_cmp, match_ordering}
use Rattle.std.specs.Cmp.Lexicographic.{slice_cmp}
use Rattle.serde_json.specs.Data.{Data, Members, no_members, member, put}
use Rattle.serde_json.specs.Written.{has_float, members_have_float}
use Rattle.ep_attr.specs.AttrMap.{Pair}
use Rattle.ep_pool.specs.Json.{pair_json, numbered, pool_json}

or_false : (a b : Bool) → (a || b) ≡ false → (a ≡ false) × (b ≡ false)
or_false true b h = cc
or_false false b h = (refl, h)

members_have_float-match_ordering : (o : Ordering) (a b c : Members) → members_have_float a ≡ false → members_have_float b ≡ false → members_have_float c ≡ false
    → members_have_float (match_ordering o a b c) ≡ false
members_have_float-match_ordering Less a b c p q r = p
members_have_float-match_ordering Equal a b c p q r = q
members_have_float-match_ordering Greater a b c p q r = r

members_have_float-put : (k : List ℕ) (d : Data) (ms : Members) → has_float d ≡ false → members_have_float ms ≡ false → members_have_float (put k d ms) ≡ false
members_have_float-put k d no_members plain others = rw plain
members_have_float-put k d (member l e ms) plain others =
    let p = or_false (has_float e) (members_have_float ms) others in
    members_have_float-match_ordering (slice_cmp nat_cmp k l) (member k d (member l e ms)) (member l d ms) (member l e (put k d ms))
    (rw plain others) (rw plain p.1) (rw p.0 (members_have_float-put k d ms plain p.1))

members_have_float-numbered : (ms : Members) (n : ℕ) (ps : List Pair) → members_have_float ms ≡ false → members_have_float (numbered ms n ps) ≡ false
members_have_float-numbered ms n [] h = h
members_have_float-numbered ms n (p ∷ ps) h = members_have_float-numbered (put (decimal n) (pair_json p) ms) (suc n) ps (members_have_float-put (decimal n) (pair_json p) ms refl h)

pub has_float-pool_json : (ps : List Pair) → has_float (pool_json ps) ≡ false
has_float-pool_json ps = rw (members_have_float-numbered no_members 0 ps refl)

pub ruleset no_floats = (has_float-pool_json)
