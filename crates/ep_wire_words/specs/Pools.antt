-- What a message says through its pool.
use Rattle.std.specs.Prelude.{◌≡◌, ℕ, List, [], ◌∷◌, Option, Some, None, Result, Ok, Err}
use Rattle.serde_json.specs.Data.{Data, Items, no_items, item}
use Rattle.serde_json.specs.Find.{as_str}
use Rattle.ep_wire_words.specs.declared.member.Member.TheVariants as member
use Rattle.std.specs.List.{IsDistinct}
use Rattle.ep_attr.specs.AttrMap.{Pair}
use Rattle.ep_pool.specs.Pool.{same_pair}
use Rattle.ep_pool.specs.Read.{IsBadAs, IsPoolOf}
use Rattle.ep_pool.specs.declared.from_json.PoolBad.{PoolBad}
use Rattle.ep_pool.specs.declared.from_json.PoolBad.TheVariants as pool_bad
use Rattle.ep_units.specs.Utf8.{units_of}
use Rattle.ep_cs.specs.Change.{Change}
use Rattle.ep_cs.specs.Doc.{Doc}
use Rattle.ep_cs.specs.Edit.{apply}
use Rattle.ep_csread.specs.Reading.{reading, reading_attribs}
use Rattle.ep_csread.specs.declared.bad.ReadBad.{ReadBad}
use Rattle.ep_csread.specs.declared.bad.ReadBad.TheVariants as read_bad
use Rattle.ep_wire_words.specs.declared.bad.WireBad.{WireBad}
use Rattle.ep_wire_words.specs.declared.bad.WireBad.TheVariants as bad
use Rattle.ep_wire_words.specs.Answer.{◌>>=◌}

-- the pairs that a pool's JSON has, or the first reason why it is none
abbrev pub IsPoolRead : Data → Result (List Pair) PoolBad → Type 0
IsPoolRead d (Ok pairs) = IsPoolOf d pairs × IsDistinct same_pair pairs
IsPoolRead d (Err why) = IsBadAs d why

abbrev pub of_pool : {A : Type 0} → Result A PoolBad → Result A WireBad
of_pool (Ok x) = Ok x
of_pool (Err why) = Err (bad.Pool why)

abbrev pub of_changeset : {A : Type 0} → Result A ReadBad → Result A WireBad
of_changeset (Ok x) = Ok x
of_changeset (Err why) = Err (bad.Changeset why)

-- the pool is read first, and then what names its pairs
abbrev pub WithPool : {A : Type 0} → Data → (List Pair → Result A WireBad) → Result A WireBad → Type 0
WithPool pool next answer = (read : Result (List Pair) PoolBad) × IsPoolRead pool read × (answer ≡ (of_pool read >>= next))

-- the change that a changeset spells with a pool
abbrev pub ReadsChange : Data → List ℕ → Result Change WireBad → Type 0
ReadsChange pool changeset = WithPool pool (λ pairs. of_changeset (reading pairs (units_of changeset)))

-- the document whose text has attributes that these operations spell with a pool
abbrev pub ReadsDoc : Data → List ℕ → List ℕ → Result Doc WireBad → Type 0
ReadsDoc pool text attribs = WithPool pool (λ pairs. of_changeset (reading_attribs pairs (units_of text) (units_of attribs)) >>= λ c. Ok (apply c.edit []))

-- the change of one text
abbrev pub text_read : List Pair → Option (List ℕ) → Result Change WireBad
text_read pairs None = Err (bad.Shape member.Changeset)
text_read pairs (Some t) = of_changeset (reading pairs (units_of t))

abbrev pub all_read : List Pair → Items → Result (List Change) WireBad
all_read pairs no_items = Ok []
all_read pairs (item d ds) = text_read pairs (as_str d) >>= λ c. all_read pairs ds >>= λ cs. Ok (c ∷ cs)

-- the changes that two arrays of changesets spell with one pool
abbrev pub ReadsSteps : Data → Items → Items → Result (List Change × List Change) WireBad → Type 0
ReadsSteps pool first second = WithPool pool (λ pairs. all_read pairs first >>= λ cs. all_read pairs second >>= λ ds. Ok (cs, ds))

abbrev pub made : {A B : Type 0} → (A → B) → Result A WireBad → Result B WireBad
made f (Ok x) = Ok (f x)
made f (Err why) = Err why

-- what is made of an answer, whose refusals stay
abbrev pub Made : {A B : Type 0} → (Result A WireBad → Type 0) → (A → B) → Result B WireBad → Type 0
Made {A} Reads f answer = (read : Result A WireBad) × Reads read × (answer ≡ made f read)

-- a refusal of a pool or of a changeset as one of the message, where want of memory is the message's own
abbrev pub pool_refusal : PoolBad → WireBad
pool_refusal pool_bad.NoMemory = bad.NoMemory
pool_refusal why = bad.Pool why

abbrev pub changeset_refusal : ReadBad → WireBad
changeset_refusal read_bad.NoMemory = bad.NoMemory
changeset_refusal why = bad.Changeset why
