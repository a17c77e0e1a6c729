-- What is exported is imported.
use Rattle.std.proofs.Common.{◌≡◌, ℕ, suc, ◌<◌, ◌≤◌, ◌^◌, Bool, true, false, nat_lt, List, [], ◌∷◌, ◌++◌, length, map, inl, Some, Result, Ok, refl, sym, ap, ap₂, subst, ◌∙◌, arith, append_assoc, append-nil}
use Rattle.std.specs.List.{AllByRecursion, flat_map, list_all}
use Rattle.serde_json.specs.Data.{Data, no_members, put}
use Rattle.serde_json.specs.Read.{read}
use Rattle.ep_units.specs.Text.{Text}
use Rattle.ep_units.specs.Utf8.{units_of, utf8_of}
use Rattle.ep_attr.specs.AttrMap.{Pair}
use Rattle.ep_pool.specs.Json.{pool_json}
use Rattle.ep_pool.proofs.Back as pools
use Rattle.ep_cs.specs.Change.{Change}
use Rattle.ep_csread.specs.Reading.{reading, reading_attribs}
use Rattle.ep_csread.specs.Spelling.{has_pairs, ops_text, printed}
use Rattle.ep_csread.proofs.Printed.{attribs_read, printed_read}
use Rattle.ep_csread.proofs.WirePool.{all_named_there}
use Rattle.ep_apply.specs.Documents.{insertion}
use Rattle.ep_history.specs.declared.rev.Rev.{Rev}
use Rattle.ep_history.specs.History.{lacks_newline, made, newline}
use Rattle.ep_past.specs.Revisions.{AreRevisions}
use Rattle.ep_replay.specs.Standing.{AllStand}
use Rattle.ep_wire_words.specs.Pools.{IsPoolRead}
use Rattle.ep_wire_words.proofs.Ascii.{ops_are_text, printed_is_text}
use Rattle.ep_wire_words.proofs.Distinct.{named_distinct}
use Rattle.ep_wire_words.proofs.ServerAgain.{text_back}
use Rattle.ep_wire_words.proofs.Units.{both}
use Rattle.ep_export.specs.Exported.{changes_of, exported, head_of, last_doc, pad_json, pool_of}
use Rattle.ep_export.specs.Keys.{pad_key}
use Rattle.ep_import.specs.declared.bad.ImportBad.{ImportBad}
use Rattle.ep_import.specs.Answer.{Then}
use Rattle.ep_import.specs.Imported.{Imports, IsText, ReadsObject, Replays, Rest, Said, Told, WithPool, front_in, json_in, most_bytes, rev_of, rev_with, rows_from}
use Rattle.ep_import.specs.Kept.{AreKept, IsKept}
use Rattle.ep_import.proofs.Standing.{Stand, births_stand}
use Rattle.ep_import.proofs.Written.{front_back, front_of, row_of, rows_back}

then_is : {A B : Type 0} (read : Result A ImportBad) (Next : A → Result B ImportBad → Type 0) (x : A) (answer : Result B ImportBad) → read ≡ Ok x → Next x answer → Then read Next answer
then_is read Next x answer is h = subst (λ r. Then r Next answer) (sym is) h

-- ---- the revisions

rev_back : (pool : List Pair) (v : Rev) → length pool < 2 ^ 32 → has_pairs pool v.change.runs ≡ true → IsKept v → rev_of pool (row_of pool v) ≡ Some v
rev_back pool v few has kept =
    let change : reading pool (units_of (utf8_of (printed pool v.change))) ≡ Ok v.change =
    ap (reading pool) (text_back (printed pool v.change) (printed_is_text pool v.change kept.bank)) ∙ printed_read pool v.change few has kept.normal in
    ap (rev_with (row_of pool v)) change
    ∙ ap (λ (author : Text). Some (record { change = v.change; author = author; session = v.session; time = v.time })) (text_back v.author kept.author)

replays_back : (pool : List Pair) (us vs : List Rev) → length pool < 2 ^ 32 → AllByRecursion IsKept vs → list_all (λ (c : Change). has_pairs pool c.runs) (changes_of vs) ≡ true → AllStand us vs
    → lacks_newline (made newline (us ++ vs)) ≡ false → Replays pool us (map (row_of pool) vs) (Ok (us ++ vs))
replays_back pool us [] few kept has stand ends = inl (ap (λ ws. lacks_newline (made newline ws)) (sym (append-nil us)) ∙ ends, ap Ok (append-nil us))
replays_back pool us (v ∷ vs) few kept has stand ends =
    let h = both (has_pairs pool v.change.runs) (list_all (λ (c : Change). has_pairs pool c.runs) (changes_of vs)) has in
    let same : (us ++ v ∷ []) ++ vs ≡ us ++ v ∷ vs = append_assoc us (v ∷ []) vs in
    let rest = replays_back pool (us ++ v ∷ []) vs few kept.1 h.1 stand.1 (ap (λ ws. lacks_newline (made newline ws)) same ∙ ends) in
    inl (v, (rev_back pool v few h.0 kept.0, stand.0), subst (λ ws. Replays pool (us ++ v ∷ []) (map (row_of pool) vs) (Ok ws)) same rest)

-- ---- the text

text_told : (vs : List Rev) (public : Bool) → AreKept vs → IsText (pool_of vs) (front_of vs public) (last_doc vs)
text_told vs public kept =
    let c = insertion (last_doc vs) in
    ap₂ (reading_attribs (pool_of vs)) (text_back _ kept.text) (text_back (ops_text (pool_of vs) c.runs) (ops_are_text (pool_of vs) c.runs)) ∙ attribs_read (pool_of vs) c kept.few kept.named kept.normal refl

-- ---- all of it

told_back : (vs : List Rev) (public : Bool) → AreKept vs → Stand [] vs → Told (front_of vs public) (pool_of vs) public (map (row_of (pool_of vs)) vs) (Ok (record { revs = vs; public = public }))
told_back vs public kept stand =
    let replays = replays_back (pool_of vs) [] vs kept.few kept.each (all_named_there (pool_of vs) (changes_of vs) refl) stand.all stand.ends in
    (Ok vs, replays, inl (text_told vs public kept, refl))

pool_read : (vs : List Rev) → AreKept vs → IsPoolRead (pool_json (pool_of vs)) (Ok (pool_of vs))
pool_read vs kept = (pools.back (pool_of vs) (omega (arith, kept.few)) kept.pairs, named_distinct (flat_map (λ (c : Change). c.runs) (changes_of vs)))

rows_there : (id : Text) (v : Rev) (vs : List Rev) (public : Bool) → AreKept (v ∷ vs)
    → rows_from (pad_key id) (exported id (v ∷ vs) public) 0 (suc (head_of (v ∷ vs))) ≡ Ok (map (row_of (pool_of (v ∷ vs))) (v ∷ vs))
rows_there id v vs public kept =
    let all = v ∷ vs in
    let key = pad_key id in
    let pool = pool_of all in
    let count : suc (head_of all) ≡ length all = omega arith in
    ap (λ n. rows_from key (exported id all public) 0 n) count
    ∙ rows_back key pool 0 all (put key (pad_json pool (last_doc all) (head_of all) public) no_members) kept.each kept.in_time (omega (arith, kept.count))

object_back : (id : Text) (v : Rev) (vs : List Rev) (public : Bool) → AreRevisions (v ∷ vs) → AreKept (v ∷ vs)
    → ReadsObject (pad_key id) (exported id (v ∷ vs) public) (Ok (record { revs = v ∷ vs; public = public }))
object_back id v vs public are kept =
    let all = v ∷ vs in
    let key = pad_key id in
    let d = exported id all public in
    let f = front_of all public in
    let answer : Result Said ImportBad = Ok (record { revs = all; public = public }) in
    let told = then_is (rows_from key d 0 (suc f.head)) (Told f (pool_of all) public) (map (row_of (pool_of all)) all) answer (rows_there id v vs public kept) (told_back all public kept (births_stand v vs are)) in
    then_is (front_in key d) (λ g. WithPool g.pool (Rest key d g)) f answer (front_back id all public kept.count) (Ok (pool_of all), pool_read all kept, told)

json_back : (text : List ℕ) (d : Data) → length text ≤ most_bytes → read text ≡ Some d → json_in text ≡ Ok d
json_back text d short is = let e : nat_lt most_bytes (length text) ≡ false = grind (arith, short) in rw (e, is)

pub imports_back : (id : Text) (vs : List Rev) (public : Bool) (text : List ℕ) → AreRevisions vs → AreKept vs → read text ≡ Some (exported id vs public) → length text ≤ most_bytes
    → Imports id text (Ok (record { revs = vs; public = public }))
imports_back id [] public text are kept is short = absurd are
imports_back id (v ∷ vs) public text are kept is short =
    then_is (json_in text) (ReadsObject (pad_key id)) (exported id (v ∷ vs) public) (Ok (record { revs = v ∷ vs; public = public })) (json_back text (exported id (v ∷ vs) public) short is) (object_back id v vs public are kept)
