-- Revisions that are put one after another.
use Rattle.std.proofs.Common.{◌≡◌, ℕ, suc, ◌+◌, ◌<◌, Bool, List, [], ◌∷◌, map, length, drop, refl, sym, ap, ◌∙◌, add-one}
use Rattle.std.proofs.Math.ListN.{get_or}
use Rattle.std.proofs.Math.Seq.{drop-cons}
use Rattle.serde_json.specs.Data.{Data, Members, no_members, object, put}
use Rattle.ep_units.specs.Text.{Text}
use Rattle.ep_attr.specs.AttrMap.{Pair}
use Rattle.ep_csread.specs.Spelling.{printed}
use Rattle.ep_history.specs.declared.rev.Rev.{Rev}
use Rattle.ep_export.specs.Keys.{pad_key, rev_key}
use Rattle.ep_export.specs.Exported.{changes_of, exported, head_of, last_doc, pad_json, pool_of, put_revs, spelled_json}
use Rattle.ep_export.specs.Spelled.{put_spelled}

-- with the spellings of their changes
pub put_spelled_printed : (key : List ℕ) (pool : List Pair) (n : ℕ) (vs : List Rev) (ms : Members) → put_spelled key n (map (printed pool) (changes_of vs)) vs ms ≡ put_revs key pool n vs ms
put_spelled_printed key pool n [] ms = refl
put_spelled_printed key pool n (v ∷ vs) ms = put_spelled_printed key pool (suc n) vs (put (rev_key key n) (spelled_json (printed pool v.change) v) ms)

-- the next one
pub put_next : (key : List ℕ) (n : ℕ) (ts : List Text) (vs : List Rev) (ms : Members) (t : Text) (v : Rev)
    → n < length ts → n < length vs → t ≡ get_or ts n t → v ≡ get_or vs n v
    → put_spelled key n (drop n ts) (drop n vs) ms ≡ put_spelled key (n + 1) (drop (n + 1) ts) (drop (n + 1) vs) (put (rev_key key n) (spelled_json t v) ms)
put_next key n ts vs ms t v m k a b =
    let d : drop n ts ≡ t ∷ drop (n + 1) ts = drop-cons ts n t m ∙ (λ i. sym a i ∷ drop (sym (add-one n) i) ts) in
    let e : drop n vs ≡ v ∷ drop (n + 1) vs = drop-cons vs n v k ∙ (λ i. sym b i ∷ drop (sym (add-one n) i) vs) in
    (λ i. put_spelled key n (d i) (e i) ms) ∙ ap (λ j. put_spelled key j (drop (n + 1) ts) (drop (n + 1) vs) (put (rev_key key n) (spelled_json t v) ms)) (sym (add-one n))

-- the whole object, from its parts
pub object_is : (id : Text) (vs : List Rev) (public : Bool) (key again : List ℕ) (ts : List Text) (pool : List Pair) (front : Data) (none mid new : Members)
    → key ≡ pad_key id → again ≡ pad_key id → ts ≡ map (printed (pool_of vs)) (changes_of vs) → pool ≡ pool_of vs → front ≡ pad_json pool (last_doc vs) (head_of vs) public
    → none ≡ no_members → mid ≡ put key front none → new ≡ put_spelled again 0 ts vs mid → object new ≡ exported id vs public
object_is id vs public key again ts pool front none mid new k a t p f e m n =
    let front_is : front ≡ pad_json (pool_of vs) (last_doc vs) (head_of vs) public = f ∙ ap (λ ps. pad_json ps (last_doc vs) (head_of vs) public) p in
    let mid_is : mid ≡ put (pad_key id) (pad_json (pool_of vs) (last_doc vs) (head_of vs) public) no_members = m ∙ (λ i. put (k i) (front_is i) (e i)) in
    ap object (n ∙ (λ i. put_spelled (a i) 0 (t i) vs (mid_is i)) ∙ put_spelled_printed (pad_key id) (pool_of vs) 0 vs (put (pad_key id) (pad_json (pool_of vs) (last_doc vs) (head_of vs) public) no_members))
