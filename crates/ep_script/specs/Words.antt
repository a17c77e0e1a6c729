-- The words of a line, with one space between them.
use Rattle.std.specs.Prelude.{ℕ, ◌==◌, if◌then◌else◌, List, [], ◌∷◌, Option, Some, None, option_and_then}
use Rattle.std.specs.Str.{bytes_eq}

-- the word that a text begins with, up to its first space
abbrev pub first_word : List ℕ → List ℕ
first_word [] = []
first_word (b ∷ bs) = if b == 32 then [] else b ∷ first_word bs

-- what stands behind the first space, where there is one
abbrev pub behind_word : List ℕ → Option (List ℕ)
behind_word [] = None
behind_word (b ∷ bs) = if b == 32 then Some bs else behind_word bs

-- what stands behind a word of a line: nothing, or what follows on a space
abbrev pub Rest : Type 0
Rest = Option (List ℕ)

-- the next word
abbrev pub next : Rest → Rest
next None = None
next (Some rest) = Some (first_word rest)

-- what stands behind that word
abbrev pub behind : Rest → Rest
behind None = None
behind (Some rest) = behind_word rest

-- what is read first, and then with it
infixl 10 ◌>>=◌
abbrev pub ◌>>=◌ : {A B : Type 0} → Option A → (A → Option B) → Option B
o >>= f = option_and_then f o

-- what stands in a table under a word
abbrev pub look_up : {A : Type 0} → List ℕ → List (List ℕ × A) → Option A
look_up word [] = None
look_up word (row ∷ rows) = if bytes_eq word row.0 then Some row.1 else look_up word rows
