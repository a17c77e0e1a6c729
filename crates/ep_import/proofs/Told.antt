-- What is told of rows, and of the whole text.
use Rattle.std.proofs.Common.{◌≡◌, ◌⊎◌, inl, inr, ℕ, suc, ◌+◌, Bool, false, List, [], ◌↔◌, IsTrue, IfOk, Result, Ok, Err, refl, sym, ap, ◌∙◌, subst, add-one}
use Rattle.serde_json.specs.Data.{Data}
use Rattle.ep_units.specs.Text.{Text}
use Rattle.ep_units.specs.Utf8.{units_of}
use Rattle.ep_attr.specs.AttrMap.{Pair}
use Rattle.ep_pool.specs.Read.{IsBadAs}
use Rattle.ep_pool.specs.declared.from_json.PoolBad.{PoolBad}
use Rattle.ep_pool.specs.declared.from_json.PoolBad.TheVariants as pool_bad
use Rattle.ep_cs.specs.Change.{Change}
use Rattle.ep_cs.specs.Doc.{Doc}
use Rattle.ep_csread.specs.Answer as read_answer
use Rattle.ep_csread.specs.Reading.{reading_attribs}
use Rattle.ep_csread.specs.declared.bad.ReadBad.{ReadBad}
use Rattle.ep_csread.specs.declared.bad.ReadBad.TheVariants as read_bad
use Rattle.ep_apply.specs.Documents.{insertion}
use Rattle.ep_history.specs.declared.rev.Rev.{Rev}
use Rattle.ep_history.specs.History.{made as made_of, newline}
use Rattle.ep_past.specs.Revisions.{AreRevisions}
use Rattle.ep_export.specs.Keys.{pad_key}
use Rattle.ep_wire_words.specs.Pools.{IsPoolRead}
use Rattle.ep_import.specs.declared.bad.ImportBad.{ImportBad}
use Rattle.ep_import.specs.declared.bad.ImportBad.TheVariants as bad
use Rattle.ep_import.specs.declared.place.Place.TheVariants as place
use Rattle.ep_import.specs.declared.history.History.{History}
use Rattle.ep_import.specs.Answer.{Answers, IsRefused, Then}
use Rattle.ep_import.specs.Imported.{Compares, Front, Imports, IsText, ReadsObject, Replays, Rest, Row, Said, Told, WithPool, front_in, json_in, public_in, rows_from}
use Rattle.ep_import.specs.Seen.{revs_of, said}
use Rattle.ep_import.specs.Steps.{pool_refusal}
use Rattle.ep_import.proofs.Births.{imported_births}
use Rattle.ep_import.proofs.Refused.{answers_map, behind, pool_answers, pool_refused, step_refused}

-- rows that aren't replayed
pub told_refused : {C : Type 0} (view : C → Said) (f : Front) (pairs : List Pair) (public : Bool) (rows : List Row) (why : ImportBad) → Answers revs_of (Replays pairs [] rows) (Err why)
    → Answers view (Told f pairs public rows) (Err why)
told_refused view f pairs public rows bad.NoMemory h = tt
told_refused view f pairs public rows why h = (Err why, h, refl)

-- rows that are, and what is compared then
pub told_answers : {C : Type 0} (view : C → Said) (f : Front) (pairs : List Pair) (public : Bool) (rows : List Row) (vs : List Rev) (answer : Result C ImportBad) → Replays pairs [] rows (Ok vs)
    → Answers view (Compares pairs f public vs) answer → Answers view (Told f pairs public rows) answer
told_answers view f pairs public rows vs answer replays h = answers_map view (Compares pairs f public vs) (Told f pairs public rows) (λ read c. (Ok vs, replays, c)) answer h

-- ---- the rest, with the pairs of the pool

rest_behind : (key : List ℕ) (d : Data) (f : Front) (pairs : List Pair) (public : Bool) (count : ℕ) (rows : List Row) (answer : Result History ImportBad) → public_in f.pad ≡ Ok public → count ≡ f.head + 1 → rows_from key d 0 count ≡ Ok rows
    → Answers said (Told f pairs public rows) answer → Answers said (Rest key d f pairs) answer
rest_behind key d f pairs public count rows answer is counted read h =
    let all : rows_from key d 0 (suc f.head) ≡ Ok rows = ap (λ (n : ℕ). rows_from key d 0 n) (sym (counted ∙ add-one f.head)) ∙ read in
    behind said (public_in f.pad) (λ p. Then (rows_from key d 0 (suc f.head)) (Told f pairs p)) public answer is (behind said (rows_from key d 0 (suc f.head)) (Told f pairs public) rows answer all h)

pub rest_no_public : (key : List ℕ) (d : Data) (f : Front) (pairs : List Pair) (why : ImportBad) → IsRefused why (public_in f.pad) → Answers said (Rest key d f pairs) (Err why)
rest_no_public key d f pairs why is = step_refused said (public_in f.pad) (λ p. Then (rows_from key d 0 (suc f.head)) (Told f pairs p)) why is

pub rest_no_rows : (key : List ℕ) (d : Data) (f : Front) (pairs : List Pair) (public : Bool) (count : ℕ) (why : ImportBad) → public_in f.pad ≡ Ok public → count ≡ f.head + 1 → IsRefused why (rows_from key d 0 count)
    → Answers said (Rest key d f pairs) (Err why)
rest_no_rows key d f pairs public count why is counted refused =
    let all : IsRefused why (rows_from key d 0 (suc f.head)) = subst (λ (n : ℕ). IsRefused why (rows_from key d 0 n)) (counted ∙ add-one f.head) refused in
    behind said (public_in f.pad) (λ p. Then (rows_from key d 0 (suc f.head)) (Told f pairs p)) public (Err why) is (step_refused said (rows_from key d 0 (suc f.head)) (Told f pairs public) why all)

pub rest_no_replay : (key : List ℕ) (d : Data) (f : Front) (pairs : List Pair) (public : Bool) (count : ℕ) (rows : List Row) (why : ImportBad) → public_in f.pad ≡ Ok public → count ≡ f.head + 1 → rows_from key d 0 count ≡ Ok rows
    → Answers revs_of (Replays pairs [] rows) (Err why) → Answers said (Rest key d f pairs) (Err why)
rest_no_replay key d f pairs public count rows why is counted read h = rest_behind key d f pairs public count rows (Err why) is counted read (told_refused said f pairs public rows why h)

pub rest_answers : (key : List ℕ) (d : Data) (f : Front) (pairs : List Pair) (public : Bool) (count : ℕ) (rows : List Row) (vs : List Rev) (answer : Result History ImportBad) → public_in f.pad ≡ Ok public → count ≡ f.head + 1
    → rows_from key d 0 count ≡ Ok rows → Replays pairs [] rows (Ok vs) → Answers said (Compares pairs f public vs) answer → Answers said (Rest key d f pairs) answer
rest_answers key d f pairs public count rows vs answer is counted read replays h = rest_behind key d f pairs public count rows answer is counted read (told_answers said f pairs public rows vs answer replays h)

-- ---- the object

pub object_no_front : (key : List ℕ) (d : Data) (why : ImportBad) → IsRefused why (front_in key d) → Answers said (ReadsObject key d) (Err why)
object_no_front key d why is = step_refused said (front_in key d) (λ f. WithPool f.pool (Rest key d f)) why is

pub object_no_pool : (key : List ℕ) (d : Data) (f : Front) (why : PoolBad) (refusal : ImportBad) → front_in key d ≡ Ok f → refusal ≡ pool_refusal why → (why ≡ pool_bad.NoMemory) ⊎ IsBadAs f.pool why
    → Answers said (ReadsObject key d) (Err refusal)
object_no_pool key d f why refusal is made cause = subst (λ (e : ImportBad). Answers said (ReadsObject key d) (Err e)) (sym made) (by why cause)
  where
    by : (why : PoolBad) → (why ≡ pool_bad.NoMemory) ⊎ IsBadAs f.pool why → Answers said (ReadsObject key d) (Err (pool_refusal why))
    by pool_bad.NoMemory cause = tt
    by why (inl none) = absurd cc
    by why (inr cause) = behind said (front_in key d) (λ f. WithPool f.pool (Rest key d f)) f (Err (bad.Shape place.Pool)) is (pool_refused said f.pool (Rest key d f) why cause)

pub object_answers : (key : List ℕ) (d : Data) (f : Front) (pairs : List Pair) (answer : Result History ImportBad) → front_in key d ≡ Ok f → IsPoolRead f.pool (Ok pairs) → Answers said (Rest key d f pairs) answer → Answers said (ReadsObject key d) answer
object_answers key d f pairs answer is pool h = behind said (front_in key d) (λ f. WithPool f.pool (Rest key d f)) f answer is (pool_answers said f.pool (Rest key d f) pairs answer pool h)

-- ---- the text

pub import_no_json : (id : Text) (text : List ℕ) (why : ImportBad) → IsRefused why (json_in text) → Answers said (Imports id text) (Err why)
import_no_json id text why is = step_refused said (json_in text) (ReadsObject (pad_key id)) why is

pub import_answers : (id : Text) (text key : List ℕ) (d : Data) (answer : Result History ImportBad) → json_in text ≡ Ok d → key ≡ pad_key id → Answers said (ReadsObject key d) answer → Answers said (Imports id text) answer
import_answers id text key d answer is e h = behind said (json_in text) (ReadsObject (pad_key id)) d answer is (subst (λ (k : List ℕ). Answers said (ReadsObject k d) answer) e h)

pub answer_births : (id : Text) (text : List ℕ) (answer : Result History ImportBad) → Answers said (Imports id text) answer → IfOk answer (λ h. AreRevisions h.revs.items)
answer_births id text (Ok h) is = imported_births id text (said h) is
answer_births id text (Err why) is = tt

-- ---- the attributed text

-- a text that is read is the document's where the change is its insertion
pub text_told : (pairs : List Pair) (us vs : Text) (text attribs : List ℕ) (r : Bool) (change made : Change) (doc : Doc) → us ≡ units_of text → vs ≡ units_of attribs → reading_attribs pairs us vs ≡ Ok change → made ≡ insertion doc → IsTrue r ↔ (change ≡ made)
    → IsTrue r ↔ (reading_attribs pairs (units_of text) (units_of attribs) ≡ Ok (insertion doc))
text_told pairs us vs text attribs r change made doc u v is m h =
    let here : reading_attribs pairs (units_of text) (units_of attribs) ≡ Ok change = (λ i. reading_attribs pairs (sym u i) (sym v i)) ∙ is in
    (λ t. here ∙ ap Ok (h.0 t ∙ m), λ e. h.1 (let same : Ok change ≡ Ok (insertion doc) = sym here ∙ e in let one : change ≡ insertion doc = cc in one ∙ sym m))

-- one that isn't read is none's
pub text_refused : (pairs : List Pair) (us vs : Text) (text attribs : List ℕ) (why : ReadBad) (doc : Doc) → us ≡ units_of text → vs ≡ units_of attribs → (why ≡ read_bad.NoMemory → ⊥) → read_answer.IsRefused why (reading_attribs pairs us vs)
    → IsTrue false ↔ (reading_attribs pairs (units_of text) (units_of attribs) ≡ Ok (insertion doc))
text_refused pairs us vs text attribs why doc u v other is = (λ t. absurd (cc), λ e. absurd (none why other is ((λ i. reading_attribs pairs (u i) (v i)) ∙ e)))
  where
    none : (why : ReadBad) → (why ≡ read_bad.NoMemory → ⊥) → read_answer.IsRefused why (reading_attribs pairs us vs) → reading_attribs pairs us vs ≡ Ok (insertion doc) → ⊥
    none read_bad.NoMemory other is e = other refl
    none why other is e = let both : Ok (insertion doc) ≡ Err why = sym e ∙ is in cc

pub compares_same : (pairs : List Pair) (f : Front) (public : Bool) (vs : List Rev) (doc : Doc) → doc ≡ made_of newline vs → IsText pairs f doc → Compares pairs f public vs (Ok (record { revs = vs; public = public }))
compares_same pairs f public vs doc e is = inl (subst (IsText pairs f) e is, refl)

pub compares_other : (pairs : List Pair) (f : Front) (public : Bool) (vs : List Rev) (doc : Doc) → doc ≡ made_of newline vs → (IsText pairs f doc → ⊥) → Compares pairs f public vs (Err bad.Replay)
compares_other pairs f public vs doc e never = inr (subst (λ (d : Doc). IsText pairs f d → ⊥) e never, refl)
