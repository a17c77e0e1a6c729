-- The exported history of a birth: one JSON object.
use Rattle.std.specs.Prelude.{ℕ, suc, ◌-◌, Bool, if◌then◌else◌, List, [], ◌∷◌, length, map, codes, nat_lt, Option, Some, None}
use Rattle.serde_json.specs.Data.{Data, boolean, object, Members, no_members, put}
use Rattle.ep_units.specs.Text.{Text}
use Rattle.ep_attr.specs.AttrMap.{Pair}
use Rattle.ep_pool.specs.Json.{pool_json}
use Rattle.ep_cs.specs.Change.{Change}
use Rattle.ep_cs.specs.Doc.{Doc, text_of}
use Rattle.ep_csread.specs.Spelling.{all_named, ops_text, printed}
use Rattle.ep_apply.specs.Documents.{insertion}
use Rattle.ep_history.specs.declared.rev.Rev.{Rev}
use Rattle.ep_history.specs.History.{made, newline}
use Rattle.ep_wire_words.specs.Json.{session, text, whole}
use Rattle.ep_export.specs.Keys.{pad_key, rev_key}

-- the object with these members, which stand in the order of their names
abbrev pub put_all : List (List ℕ × Data) → Members → Members
put_all [] ms = ms
put_all (f ∷ fs) ms = put_all fs (put f.0 f.1 ms)

abbrev pub obj : List (List ℕ × Data) → Data
obj fs = object (put_all fs no_members)

abbrev pub changes_of : List Rev → List Change
changes_of vs = map (λ v. v.change) vs

-- the pairs of all changesets, each once, in order of first appearance
abbrev pub pool_of : List Rev → List Pair
pool_of vs = all_named (changes_of vs)

-- the document after the last
abbrev pub last_doc : List Rev → Doc
last_doc vs = made newline vs

-- whose a revision is, and of when
abbrev pub meta_json : Rev → Data
meta_json v = obj ((codes "author", text v.author) ∷ (codes "session", session v.session) ∷ (codes "timestamp", whole v.time) ∷ [])

-- a revision whose changeset is spelled so
abbrev pub spelled_json : Text → Rev → Data
spelled_json spelled v = obj ((codes "changeset", text spelled) ∷ (codes "meta", meta_json v) ∷ [])

abbrev pub rev_json : List Pair → Rev → Data
rev_json pool v = spelled_json (printed pool v.change) v

abbrev pub atext_json : List Pair → Doc → Data
atext_json pool doc = obj ((codes "attribs", text (ops_text pool (insertion doc).runs)) ∷ (codes "text", text (text_of doc)) ∷ [])

-- what the pad is, where its head has that number
abbrev pub pad_json : List Pair → Doc → ℕ → Bool → Data
pad_json pool doc head public =
    obj (
    (codes "atext", atext_json pool doc)
    ∷ (codes "head", whole head)
    ∷ (codes "pool", pool_json pool)
    ∷ (codes "publicStatus", boolean public)
    ∷ []
    )

-- the revisions from n on
abbrev pub put_revs : List ℕ → List Pair → ℕ → List Rev → Members → Members
put_revs key pool n [] ms = ms
put_revs key pool n (v ∷ vs) ms = put_revs key pool (suc n) vs (put (rev_key key n) (rev_json pool v) ms)

-- the number of the last
abbrev pub head_of : List Rev → ℕ
head_of vs = length vs - 1

-- what the pad is, and each revision: of these revisions of a pad of this id
abbrev pub exported : Text → List Rev → Bool → Data
exported id vs public =
    let pool = pool_of vs in
    let key = pad_key id in
    object (put_revs key pool 0 vs (put key (pad_json pool (last_doc vs) (head_of vs) public) no_members))

-- the first revision, counted from n, whose time is too great for a browser to have exactly
abbrev pub late : ℕ → List Rev → Option ℕ
late n [] = None
late n (v ∷ vs) = if nat_lt 9007199254740991 v.time then Some n else late (suc n) vs
