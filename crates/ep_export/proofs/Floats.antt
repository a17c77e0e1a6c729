-- An exported history has no float.
use Rattle.std.proofs.Common.{◌≡◌, ℕ, suc, ◌||◌, Bool, true, false, List, [], ◌∷◌, refl}
use Rattle.std.specs.Prelude.{decimal}
use Rattle.std.specs.declared.cmp.Ordering.{Ordering}
use Rattle.std.specs.declared.cmp.Ordering.TheVariants.{Less, Equal, Greater}
use Rattle.std.specs.Ordering.{nat_cmp, match_ordering}
use Rattle.std.specs.Cmp.Lexicographic.{slice_cmp}
use Rattle.serde_json.specs.Data.{Data, Members, no_members, member, put}
use Rattle.serde_json.specs.Written.{has_float, members_have_float}
use Rattle.ep_units.specs.Text.{Text}
use Rattle.ep_attr.specs.AttrMap.{Pair}
use Rattle.ep_pool.specs.Json.{pair_json, numbered, pool_json}
use Rattle.ep_cs.specs.Doc.{Doc}
use Rattle.ep_history.specs.declared.rev.Rev.{Rev}
use Rattle.ep_export.specs.Keys.{pad_key, rev_key}
use Rattle.ep_export.specs.Exported.{exported, head_of, last_doc, pad_json, pool_of, put_revs, rev_json}

or_false : (a b : Bool) → (a || b) ≡ false → (a ≡ false) × (b ≡ false)
or_false true b h = cc
or_false false b h = (refl, h)

one_of : (o : Ordering) (a b c : Members) → members_have_float a ≡ false → members_have_float b ≡ false → members_have_float c ≡ false
    → members_have_float (match_ordering o a b c) ≡ false
one_of Less a b c p q r = p
one_of Equal a b c p q r = q
one_of Greater a b c p q r = r

put_plain : (k : List ℕ) (d : Data) (ms : Members) → has_float d ≡ false → members_have_float ms ≡ false → members_have_float (put k d ms) ≡ false
put_plain k d no_members plain others = rw plain
put_plain k d (member l e ms) plain others =
    let p = or_false (has_float e) (members_have_float ms) others in
    one_of (slice_cmp nat_cmp k l) (member k d (member l e ms)) (member l d ms) (member l e (put k d ms))
    (rw plain others) (rw plain p.1) (rw p.0 (put_plain k d ms plain p.1))

numbered_plain : (ms : Members) (n : ℕ) (ps : List Pair) → members_have_float ms ≡ false → members_have_float (numbered ms n ps) ≡ false
numbered_plain ms n [] h = h
numbered_plain ms n (p ∷ ps) h = numbered_plain (put (decimal n) (pair_json p) ms) (suc n) ps (put_plain (decimal n) (pair_json p) ms refl h)

pool_plain : (ps : List Pair) → has_float (pool_json ps) ≡ false
pool_plain ps = rw (numbered_plain no_members 0 ps refl)

pad_plain : (pool : List Pair) (doc : Doc) (head : ℕ) (public : Bool) → has_float (pad_json pool doc head public) ≡ false
pad_plain pool doc head public = rw (pool_plain pool)

revs_plain : (key : List ℕ) (pool : List Pair) (n : ℕ) (vs : List Rev) (ms : Members) → members_have_float ms ≡ false → members_have_float (put_revs key pool n vs ms) ≡ false
revs_plain key pool n [] ms h = h
revs_plain key pool n (v ∷ vs) ms h =
    revs_plain key pool (suc n) vs (put (rev_key key n) (rev_json pool v) ms) (put_plain (rev_key key n) (rev_json pool v) ms refl h)

pub exported_plain : (id : Text) (vs : List Rev) (public : Bool) → has_float (exported id vs public) ≡ false
exported_plain id vs public =
    let pad = pad_json (pool_of vs) (last_doc vs) (head_of vs) public in
    revs_plain (pad_key id) (pool_of vs) 0 vs (put (pad_key id) pad no_members) (put_plain (pad_key id) pad no_members (pad_plain (pool_of vs) (last_doc vs) (head_of vs) public) refl)
