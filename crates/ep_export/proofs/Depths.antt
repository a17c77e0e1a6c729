-- An exported history nests few objects.
use Rattle.std.proofs.Common.{◌≡◌, ℕ, suc, ◌≤◌, Bool, List, [], ◌∷◌, ap, arith}
use Rattle.std.specs.Prelude.{decimal}
use Rattle.std.specs.declared.cmp.Ordering.{Ordering}
use Rattle.std.specs.declared.cmp.Ordering.TheVariants.{Less, Equal, Greater}
use Rattle.std.specs.Ordering.{nat_cmp, match_ordering}
use Rattle.std.specs.Cmp.Lexicographic.{slice_cmp}
use Rattle.serde_json.specs.Data.{Data, Members, no_members, member, put, depth, members_depth}
use Rattle.serde_json.specs.Read.{max_depth}
use Rattle.ep_units.specs.Text.{Text}
use Rattle.ep_attr.specs.AttrMap.{Pair}
use Rattle.ep_pool.specs.Json.{pair_json, numbered}
use Rattle.ep_cs.specs.Doc.{Doc}
use Rattle.ep_history.specs.declared.rev.Rev.{Rev}
use Rattle.ep_export.specs.Keys.{pad_key, rev_key}
use Rattle.ep_export.specs.Exported.{exported, head_of, last_doc, pad_json, pool_of, put_revs, rev_json}

one_of : (m : ℕ) (o : Ordering) (a b c : Members) → members_depth a ≤ m → members_depth b ≤ m → members_depth c ≤ m → members_depth (match_ordering o a b c) ≤ m
one_of m Less a b c p q r = p
one_of m Equal a b c p q r = q
one_of m Greater a b c p q r = r

put_low : (m : ℕ) (k : List ℕ) (d : Data) (ms : Members) → depth d ≤ m → members_depth ms ≤ m → members_depth (put k d ms) ≤ m
put_low m k d no_members low others = omega arith
put_low m k d (member l e ms) low others =
    let e_low : depth e ≤ m = omega arith in
    let ms_low : members_depth ms ≤ m = omega arith in
    let rest = put_low m k d ms low ms_low in
    one_of m (slice_cmp nat_cmp k l) (member k d (member l e ms)) (member l d ms) (member l e (put k d ms))
    (omega arith) (omega arith) (omega (arith, rest))

numbered_low : (ms : Members) (n : ℕ) (ps : List Pair) → members_depth ms ≤ 1 → members_depth (numbered ms n ps) ≤ 1
numbered_low ms n [] h = h
numbered_low ms n (p ∷ ps) h = numbered_low (put (decimal n) (pair_json p) ms) (suc n) ps (put_low 1 (decimal n) (pair_json p) ms (omega arith) h)

pad_low : (pool : List Pair) (doc : Doc) (head : ℕ) (public : Bool) → depth (pad_json pool doc head public) ≤ 4
pad_low pool doc head public = omega (arith, numbered_low no_members 0 pool (omega arith))

revs_low : (key : List ℕ) (pool : List Pair) (n : ℕ) (vs : List Rev) (ms : Members) → members_depth ms ≤ 4 → members_depth (put_revs key pool n vs ms) ≤ 4
revs_low key pool n [] ms h = h
revs_low key pool n (v ∷ vs) ms h =
    revs_low key pool (suc n) vs (put (rev_key key n) (rev_json pool v) ms) (put_low 4 (rev_key key n) (rev_json pool v) ms (omega arith) h)

pub exported_low : (id : Text) (vs : List Rev) (public : Bool) → depth (exported id vs public) ≤ 5
exported_low id vs public =
    let pad = pad_json (pool_of vs) (last_doc vs) (head_of vs) public in
    omega (arith, revs_low (pad_key id) (pool_of vs) 0 vs (put (pad_key id) pad no_members) (put_low 4 (pad_key id) pad no_members (pad_low (pool_of vs) (last_doc vs) (head_of vs) public) (omega arith)))

pub view_low : (id : Text) (vs : List Rev) (public : Bool) (d : Data) → d ≡ exported id vs public → depth d ≤ max_depth
view_low id vs public d e = omega (arith, ap depth e, exported_low id vs public)
