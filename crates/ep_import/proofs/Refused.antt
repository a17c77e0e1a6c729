-- A refusal as the answer of the whole.
use Rattle.std.proofs.Common.{◌≡◌, List, Result, Ok, Err, refl, sym, subst}
use Rattle.serde_json.specs.Data.{Data}
use Rattle.ep_attr.specs.AttrMap.{Pair}
use Rattle.ep_pool.specs.Read.{IsBadAs}
use Rattle.ep_pool.specs.declared.from_json.PoolBad.{PoolBad}
use Rattle.ep_pool.specs.declared.from_json.PoolBad.TheVariants as pool_bad
use Rattle.ep_wire_words.specs.Pools.{IsPoolRead}
use Rattle.ep_import.specs.declared.bad.ImportBad.{ImportBad}
use Rattle.ep_import.specs.declared.bad.ImportBad.TheVariants as bad
use Rattle.ep_import.specs.declared.place.Place.TheVariants as place
use Rattle.ep_import.specs.Answer.{Answers, IsRefused, Then}
use Rattle.ep_import.specs.Imported.{WithPool}

-- a step that refuses is what the whole refuses
pub step_refused : {A B C : Type 0} (view : C → B) (read : Result A ImportBad) (Next : A → Result B ImportBad → Type 0) (why : ImportBad) → IsRefused why read → Answers view (Then read Next) (Err why)
step_refused view read Next bad.NoMemory is = tt
step_refused view read Next why is = subst (λ r. Then r Next (Err why)) (sym is) refl

-- the answer behind a step is the whole's
pub behind : {A B C : Type 0} (view : C → B) (read : Result A ImportBad) (Next : A → Result B ImportBad → Type 0) (x : A) (answer : Result C ImportBad) → read ≡ Ok x → Answers view (Next x) answer
    → Answers view (Then read Next) answer
behind view read Next x answer is h = subst (λ r. Answers view (Then r Next) answer) (sym is) h

-- what holds of each answer holds of this one
pub answers_map : {A B : Type 0} (view : A → B) (P Q : Result B ImportBad → Type 0) → ((read : Result B ImportBad) → P read → Q read) → (answer : Result A ImportBad) → Answers view P answer → Answers view Q answer
answers_map view P Q f (Ok x) h = f (Ok (view x)) h
answers_map view P Q f (Err bad.NoMemory) h = tt
answers_map view P Q f (Err why) h = f (Err why) h

-- a pool that isn't read
pub pool_refused : {B C : Type 0} (view : C → B) (d : Data) (Next : List Pair → Result B ImportBad → Type 0) (why : PoolBad) → IsBadAs d why → WithPool d Next (Err (bad.Shape place.Pool))
pool_refused view d Next (pool_bad.Shape m) is = (Err (pool_bad.Shape m), is, refl)
pool_refused view d Next (pool_bad.Gap n) is = (Err (pool_bad.Gap n), is, refl)
pool_refused view d Next (pool_bad.Twice n) is = (Err (pool_bad.Twice n), is, refl)
pool_refused view d Next pool_bad.NoMemory is = absurd is

-- what is said with the pairs of a pool that is read
pub pool_answers : {B C : Type 0} (view : C → B) (d : Data) (Next : List Pair → Result B ImportBad → Type 0) (pairs : List Pair) (answer : Result C ImportBad) → IsPoolRead d (Ok pairs) → Answers view (Next pairs) answer
    → Answers view (WithPool d Next) answer
pool_answers view d Next pairs answer pool h = answers_map view (Next pairs) (WithPool d Next) (λ read n. (Ok pairs, pool, n)) answer h
