-- What stands in an exported history's object.
use Rattle.std.proofs.Common.{◌≡◌, ℕ, suc, ◌+◌, ◌<◌, ◌≤◌, Bool, true, false, if◌then◌else◌, nat_le, nat_lt, List, [], ◌∷◌, ◌++◌, length, drop, map, codes, decimal, Some, None, Result, Ok, refl, sym, ap, ◌∙◌, arith, length-append}
use Rattle.std.specs.List.{AllByRecursion}
use Rattle.std.proofs.lemmas.List.{drop_at}
use Rattle.std.proofs.lemmas.Bool.Decides.{nat_tests}
use Rattle.serde_json.specs.Data.{Members, no_members, object, put}
use Rattle.serde_json.specs.Find.{get, get_member}
use Rattle.serde_json.proofs.Views.{get_member-put, get_member-put_other}
use Rattle.ep_units.specs.Text.{Text}
use Rattle.ep_units.specs.Utf8.{utf8_of}
use Rattle.ep_attr.specs.AttrMap.{Pair}
use Rattle.ep_pool.specs.Json.{pool_json}
use Rattle.ep_pool.specs.Read.{most_number}
use Rattle.ep_pool.proofs.Reading.{same_number}
use Rattle.ep_cs.specs.Doc.{text_of}
use Rattle.ep_csread.specs.Spelling.{ops_text, printed}
use Rattle.ep_apply.specs.Documents.{insertion}
use Rattle.ep_history.specs.declared.rev.Rev.{Rev}
use Rattle.ep_wire_words.specs.Sent.{IsSession}
use Rattle.ep_wire_words.proofs.ServerAgain.{session_back, small_back}
use Rattle.ep_export.specs.Exported.{exported, head_of, last_doc, late, pad_json, pool_of, put_revs, rev_json}
use Rattle.ep_export.specs.Keys.{pad_key, rev_key}
use Rattle.ep_import.specs.declared.bad.ImportBad.{ImportBad}
use Rattle.ep_import.specs.Answer.{◌>>=◌}
use Rattle.ep_import.specs.Imported.{Front, Row, front_in, row_at, row_in, rows_from}
use Rattle.ep_import.specs.Kept.{IsKept}

-- ---- names

-- the pad's name is no revision's
longer : (key : List ℕ) (n : ℕ) → key ≡ rev_key key n → ⊥
longer key n e = omega (arith, ap length e, length-append key (codes ":revs:" ++ decimal n))

-- no two revisions have one name
same_rev : (key : List ℕ) (m n : ℕ) → m ≤ most_number → n ≤ most_number → rev_key key m ≡ rev_key key n → m ≡ n
same_rev key m n small also e =
    let tails : codes ":revs:" ++ decimal m ≡ codes ":revs:" ++ decimal n =
    sym (drop_at key (codes ":revs:" ++ decimal m) (length key) refl) ∙ (ap (drop (length key)) e ∙ drop_at key (codes ":revs:" ++ decimal n) (length key) refl) in
    let digits : decimal m ≡ decimal n = ap (drop 6) tails in
    same_number (decimal m) m n small also refl digits

-- another name keeps its value
others_stay : (q key : List ℕ) (pool : List Pair) (n : ℕ) (vs : List Rev) (ms : Members) → ((k : ℕ) → n ≤ k → k < n + length vs → q ≡ rev_key key k → ⊥)
    → get_member q (put_revs key pool n vs ms) ≡ get_member q ms
others_stay q key pool n [] ms other = refl
others_stay q key pool n (v ∷ vs) ms other =
    others_stay q key pool (suc n) vs (put (rev_key key n) (rev_json pool v) ms) (λ k low high. other k (omega (arith, low)) (omega (arith, high)))
    ∙ get_member-put_other q (rev_key key n) (rev_json pool v) ms (other n (omega arith) (omega arith))

-- ---- what the pad is

abbrev pub front_of : List Rev → Bool → Front
front_of vs public =
    let pool = pool_of vs in
    let doc = last_doc vs in
    record { pad = pad_json pool doc (head_of vs) public; attribs = utf8_of (ops_text pool (insertion doc).runs); text = utf8_of (text_of doc); head = head_of vs; pool = pool_json pool }

pad_there : (id : Text) (vs : List Rev) (public : Bool) → get (pad_key id) (exported id vs public) ≡ Some (pad_json (pool_of vs) (last_doc vs) (head_of vs) public)
pad_there id vs public =
    let key = pad_key id in
    let front = pad_json (pool_of vs) (last_doc vs) (head_of vs) public in
    others_stay key key (pool_of vs) 0 vs (put key front no_members) (λ k low high e. longer key k e) ∙ get_member-put key front no_members

pub front_back : (id : Text) (vs : List Rev) (public : Bool) → length vs ≤ 9007199254740991 → front_in (pad_key id) (exported id vs public) ≡ Ok (front_of vs public)
front_back id vs public few =
    let small : nat_le (head_of vs) 9007199254740991 ≡ true = small_back (head_of vs) (omega (arith, few)) in
    rw (pad_there id vs public) (rw small refl)

-- ---- the revisions

abbrev pub row_of : List Pair → Rev → Row
row_of pool v = record { changeset = utf8_of (printed pool v.change); author = utf8_of v.author; session = v.session; time = v.time }

row_back : (pool : List Pair) (n : ℕ) (v : Rev) → IsSession v.session → v.time ≤ 9007199254740991 → row_in n (rev_json pool v) ≡ Ok (row_of pool v)
row_back pool n v session time = rw (session_back v.session session, small_back v.time time) refl

in_time : (n : ℕ) (v : Rev) (vs : List Rev) → late n (v ∷ vs) ≡ None → (v.time ≤ 9007199254740991) × (late (suc n) vs ≡ None)
in_time n v vs e = go (nat_lt 9007199254740991 v.time) refl e
  where
    go : (b : Bool) → nat_lt 9007199254740991 v.time ≡ b → (if b then Some n else late (suc n) vs) ≡ None → (v.time ≤ 9007199254740991) × (late (suc n) vs ≡ None)
    go true is h = absurd (cc)
    go false is h = (grind (arith, nat_tests, is), h)

rev_there : (key : List ℕ) (pool : List Pair) (n : ℕ) (v : Rev) (vs : List Rev) (ms : Members) → n + length vs ≤ most_number
    → get_member (rev_key key n) (put_revs key pool (suc n) vs (put (rev_key key n) (rev_json pool v) ms)) ≡ Some (rev_json pool v)
rev_there key pool n v vs ms few =
    others_stay (rev_key key n) key pool (suc n) vs (put (rev_key key n) (rev_json pool v) ms)
    (λ k low high e. let same : n ≡ k = same_rev key n k (omega (arith, few)) (omega (arith, few, high)) e in omega (arith, same, low)) ∙ get_member-put (rev_key key n) (rev_json pool v) ms

pub rows_back : (key : List ℕ) (pool : List Pair) (n : ℕ) (vs : List Rev) (ms : Members) → AllByRecursion IsKept vs → late n vs ≡ None → n + length vs ≤ suc most_number
    → rows_from key (object (put_revs key pool n vs ms)) n (length vs) ≡ Ok (map (row_of pool) vs)
rows_back key pool n [] ms kept time few = refl
rows_back key pool n (v ∷ vs) ms kept time few =
    let t = in_time n v vs time in
    let more = put (rev_key key n) (rev_json pool v) ms in
    let d = object (put_revs key pool (suc n) vs more) in
    let there : get (rev_key key n) d ≡ Some (rev_json pool v) = rev_there key pool n v vs ms (omega (arith, few)) in
    let row : row_at key n d ≡ Ok (row_of pool v) = rw there (row_back pool n v kept.0.session t.0) in
    ap (λ (r : Result Row ImportBad). r >>= λ x. rows_from key d (suc n) (length vs) >>= λ xs. Ok (x ∷ xs)) row
    ∙ ap (λ (r : Result (List Row) ImportBad). r >>= λ xs. Ok (row_of pool v ∷ xs)) (rows_back key pool (suc n) vs more kept.1 t.1 (omega (arith, few)))
