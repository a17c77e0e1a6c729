-- Refusals of a pool and of what names its pairs, as the answer of a message.
use Rattle.std.proofs.Common.{◌≡◌, ◌⊎◌, inl, inr, ℕ, List, Result, Ok, Err, refl, sym, ap, subst, ◌∙◌, []}
use Rattle.serde_json.specs.Data.{Data, Items}
use Rattle.ep_attr.specs.AttrMap.{Pair}
use Rattle.ep_pool.specs.Read.{IsBadAs}
use Rattle.ep_pool.specs.declared.from_json.PoolBad.{PoolBad}
use Rattle.ep_pool.specs.declared.from_json.PoolBad.TheVariants as pool_bad
use Rattle.ep_units.specs.Text.{Text}
use Rattle.ep_units.specs.Utf8.{units_of}
use Rattle.ep_cs.specs.Change.{Change}
use Rattle.ep_cs.specs.Doc.{Doc}
use Rattle.ep_cs.specs.Edit.{apply}
use Rattle.ep_csread.specs.Reading.{reading, reading_attribs}
use Rattle.ep_csread.specs.Answer as text
use Rattle.ep_csread.specs.declared.bad.ReadBad.{ReadBad}
use Rattle.ep_csread.specs.declared.bad.ReadBad.TheVariants as read_bad
use Rattle.ep_wire_words.specs.declared.bad.WireBad.{WireBad}
use Rattle.ep_wire_words.specs.declared.bad.WireBad.TheVariants as bad
use Rattle.ep_wire_words.specs.Answer.{Answers, Gives, IsRefused, Then, ◌>>=◌}
use Rattle.ep_wire_words.specs.Pools.{IsPoolRead, Made, ReadsChange, ReadsDoc, ReadsSteps, WithPool, all_read, changeset_refusal, of_changeset, pool_refusal}

-- a pool that isn't read
pub pool_refused : {A : Type 0} (d : Data) (next : List Pair → Result A WireBad) (why : PoolBad) → (why ≡ pool_bad.NoMemory) ⊎ IsBadAs d why → Answers (WithPool d next) (Err (pool_refusal why))
pool_refused d next why (inl is) = rw is tt
pool_refused d next (pool_bad.Shape m) (inr is) = (Err (pool_bad.Shape m), is, refl)
pool_refused d next (pool_bad.Gap n) (inr is) = (Err (pool_bad.Gap n), is, refl)
pool_refused d next (pool_bad.Twice n) (inr is) = (Err (pool_bad.Twice n), is, refl)
pool_refused d next pool_bad.NoMemory (inr is) = tt

-- what names the pairs of a pool that is read
pub next_refused : {A : Type 0} (d : Data) (pairs : List Pair) (next : List Pair → Result A WireBad) (why : WireBad) → IsPoolRead d (Ok pairs) → IsRefused why (next pairs) → Answers (WithPool d next) (Err why)
next_refused d pairs next bad.NoMemory pool is = tt
next_refused d pairs next why pool is = (Ok pairs, pool, sym is)

-- what is made of a step that refuses is refused
then_refused : {A B : Type 0} (read : Result A WireBad) (f : A → Result B WireBad) (why : WireBad) → IsRefused why read → IsRefused why (read >>= f)
then_refused read f bad.NoMemory is = tt
then_refused read f why is = ap (λ r. r >>= f) is

-- a changeset that isn't read
pub change_refused : {A : Type 0} (r : Result A ReadBad) (why : ReadBad) → text.IsRefused why r → IsRefused (changeset_refusal why) (of_changeset r)
change_refused r read_bad.NoMemory is = tt
change_refused r why is = ap of_changeset is

pub next_answers : {A : Type 0} (d : Data) (pairs : List Pair) (next : List Pair → Result A WireBad) (a : A) → IsPoolRead d (Ok pairs) → next pairs ≡ Ok a → WithPool d next (Ok a)
next_answers d pairs next a pool is = (Ok pairs, pool, sym is)

-- a step that refuses is what the whole refuses
pub step_refused : {A B : Type 0} (read : Result A WireBad) (Next : A → Result B WireBad → Type 0) (why : WireBad) → IsRefused why read → Answers (Then read Next) (Err why)
step_refused read Next bad.NoMemory is = tt
step_refused read Next why is = subst (λ r. Then r Next (Err why)) (sym is) refl

-- the answer behind a step is the whole's
pub behind : {A B : Type 0} (read : Result A WireBad) (Next : A → Result B WireBad → Type 0) (x : A) (answer : Result B WireBad) → read ≡ Ok x → Answers (Next x) answer → Answers (Then read Next) answer
behind read Next x answer is h = subst (λ r. Answers (Then r Next) answer) (sym is) h

-- what is made of an answer refuses what the answer refuses
pub made_refused : {A B : Type 0} (Reads : Result A WireBad → Type 0) (f : A → B) (why : WireBad) → Answers Reads (Err why) → Answers (Made Reads f) (Err why)
made_refused Reads f bad.NoMemory h = tt
made_refused Reads f why h = (Err why, h, refl)

pub made_answers : {A B : Type 0} (Reads : Result A WireBad → Type 0) (f : A → B) (x : A) → Answers Reads (Ok x) → Answers (Made Reads f) (Ok (f x))
made_answers Reads f x h = (Ok x, h, refl)

-- a row that is a function of its object
pub row_answers : {A : Type 0} (read r : Result A WireBad) → Gives (λ x. x) r read → Answers (λ answer. answer ≡ read) r
row_answers read (Ok x) h = sym h
row_answers read (Err bad.NoMemory) h = tt
row_answers read (Err why) h = sym h

-- the change of a changeset, whose units are known
pub change_refused_at : (d : Data) (pairs : List Pair) (bytes : List ℕ) (us : Text) (why : ReadBad) → us ≡ units_of bytes → IsPoolRead d (Ok pairs) → text.IsRefused why (reading pairs us)
    → Answers (ReadsChange d bytes) (Err (changeset_refusal why))
change_refused_at d pairs bytes us why is pool refused =
    next_refused d pairs _ _ pool (change_refused (reading pairs (units_of bytes)) why (subst (λ t. text.IsRefused why (reading pairs t)) is refused))

pub change_answers_at : (d : Data) (pairs : List Pair) (bytes : List ℕ) (us : Text) (c : Change) → us ≡ units_of bytes → IsPoolRead d (Ok pairs) → reading pairs us ≡ Ok c → ReadsChange d bytes (Ok c)
change_answers_at d pairs bytes us c is pool read = next_answers d pairs _ c pool (ap of_changeset (subst (λ t. reading pairs t ≡ Ok c) is read))

-- the document of a text with attributes, whose units are known
pub doc_refused_at : (d : Data) (pairs : List Pair) (bytes attribs : List ℕ) (us vs : Text) (why : ReadBad) → us ≡ units_of bytes → vs ≡ units_of attribs → IsPoolRead d (Ok pairs)
    → text.IsRefused why (reading_attribs pairs us vs) → Answers (ReadsDoc d bytes attribs) (Err (changeset_refusal why))
doc_refused_at d pairs bytes attribs us vs why is also pool refused =
    let there : text.IsRefused why (reading_attribs pairs (units_of bytes) (units_of attribs)) =
    subst (λ t. text.IsRefused why (reading_attribs pairs (units_of bytes) t)) also (subst (λ t. text.IsRefused why (reading_attribs pairs t vs)) is refused) in
    next_refused d pairs _ _ pool (then_refused (of_changeset (reading_attribs pairs (units_of bytes) (units_of attribs))) _ (changeset_refusal why) (change_refused (reading_attribs pairs (units_of bytes) (units_of attribs)) why there))

pub doc_answers_at : (d : Data) (pairs : List Pair) (bytes attribs : List ℕ) (us vs : Text) (c : Change) (doc : Doc) → us ≡ units_of bytes → vs ≡ units_of attribs → IsPoolRead d (Ok pairs)
    → reading_attribs pairs us vs ≡ Ok c → doc ≡ apply c.edit [] → ReadsDoc d bytes attribs (Ok doc)
doc_answers_at d pairs bytes attribs us vs c doc is also pool read made =
    let there : reading_attribs pairs (units_of bytes) (units_of attribs) ≡ Ok c = subst (λ t. reading_attribs pairs (units_of bytes) t ≡ Ok c) also (subst (λ t. reading_attribs pairs t vs ≡ Ok c) is read) in
    next_answers d pairs _ doc pool (ap (λ r. of_changeset r >>= λ x. Ok (apply x.edit [])) there ∙ ap Ok (sym made))

abbrev second_of : List Pair → Items → List Change → Result (List Change × List Change) WireBad
second_of pairs ys cs = all_read pairs ys >>= λ ds. Ok (cs, ds)

-- two arrays of changesets
pub first_refused_in : (d : Data) (pairs : List Pair) (xs ys : Items) (why : WireBad) → IsPoolRead d (Ok pairs) → IsRefused why (all_read pairs xs) → Answers (ReadsSteps d xs ys) (Err why)
first_refused_in d pairs xs ys why pool refused =
    next_refused d pairs (λ ps. all_read ps xs >>= second_of ps ys) why pool (then_refused (all_read pairs xs) (second_of pairs ys) why refused)

pub second_refused_in : (d : Data) (pairs : List Pair) (xs ys : Items) (cs : List Change) (why : WireBad) → IsPoolRead d (Ok pairs) → all_read pairs xs ≡ Ok cs → IsRefused why (all_read pairs ys)
    → Answers (ReadsSteps d xs ys) (Err why)
second_refused_in d pairs xs ys cs why pool is refused =
    next_refused d pairs (λ ps. all_read ps xs >>= second_of ps ys) why pool
    (subst (λ (r : Result (List Change) WireBad). IsRefused why (r >>= second_of pairs ys)) (sym is) (then_refused (all_read pairs ys) (λ ds. Ok (cs, ds)) why refused))

pub steps_answers : (d : Data) (pairs : List Pair) (xs ys : Items) (cs ds : List Change) → IsPoolRead d (Ok pairs) → all_read pairs xs ≡ Ok cs → all_read pairs ys ≡ Ok ds → ReadsSteps d xs ys (Ok (cs, ds))
steps_answers d pairs xs ys cs ds pool is also =
    next_answers d pairs (λ ps. all_read ps xs >>= second_of ps ys) (cs, ds) pool
    (ap (λ (r : Result (List Change) WireBad). r >>= second_of pairs ys) is ∙ ap (λ (r : Result (List Change) WireBad). r >>= λ x. Ok (cs, x)) also)
