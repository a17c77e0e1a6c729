-- What importing answers, and what a call's answer has to do with it.
use Rattle.std.specs.Prelude.{◌≡◌, Result, Ok, Err}
use Rattle.ep_import.specs.declared.bad.ImportBad.{ImportBad}
use Rattle.ep_import.specs.declared.bad.ImportBad.TheVariants as bad

-- a step, and then the next one, unless the first refuses
infixl 10 ◌>>=◌
abbrev pub ◌>>=◌ : {A B : Type 0} → Result A ImportBad → (A → Result B ImportBad) → Result B ImportBad
(Ok x) >>= f = f x
(Err why) >>= f = Err why

-- reading refuses so, or memory ran out
abbrev pub IsRefused : {A : Type 0} → ImportBad → Result A ImportBad → Type 0
IsRefused bad.NoMemory read = Unit {0}
IsRefused why read = read ≡ Err why

-- a call's answer, seen by a view, is what reading gives, unless memory ran out
abbrev pub Gives : {A B : Type 0} → (A → B) → Result A ImportBad → Result B ImportBad → Type 0
Gives view (Ok x) read = read ≡ Ok (view x)
Gives view (Err why) read = IsRefused why read

-- a call's answer, seen by a view, is one that reading has, unless memory ran out
abbrev pub Answers : {A B : Type 0} → (A → B) → (Result B ImportBad → Type 0) → Result A ImportBad → Type 0
Answers view Reads (Ok x) = Reads (Ok (view x))
Answers view Reads (Err bad.NoMemory) = Unit {0}
Answers view Reads (Err why) = Reads (Err why)

-- a step that is computed, and then one of which only is said what it answers
abbrev pub Then : {A B : Type 0} → Result A ImportBad → (A → Result B ImportBad → Type 0) → Result B ImportBad → Type 0
Then (Ok x) Next answer = Next x answer
Then (Err why) Next answer = answer ≡ Err why
