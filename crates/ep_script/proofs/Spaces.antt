-- The first word of a text, and what stands behind it.
use Rattle.std.proofs.Common.{◌≡◌, ◌≢◌, ℕ, ◌<◌, ◌==◌, Bool, true, false, List, [], ◌∷◌, length, refl, ◌∙◌, ap, arith, rules, Some, None}
use Rattle.std.proofs.Math.Numerals.{add-one, one-add}
use Rattle.std.specs.List.{position_or_len, before_first, after_first}
use Rattle.std.proofs.lemmas.List.{take_all}
use Rattle.std.specs.Str.{bytes_eq}
use Rattle.std.proofs.lemmas.Slice.Eq.{bytes_eq-Decides}
use Rattle.ep_script.specs.Words.{first_word, behind_word, look_up}

abbrev is_space : ℕ → Bool
is_space b = b == 32

first_word-step : (b : ℕ) (bs : List ℕ) (t : Bool) → (b == 32) ≡ t → first_word bs ≡ before_first is_space bs → first_word (b ∷ bs) ≡ before_first is_space (b ∷ bs)
first_word-step b bs true e h = rw e
first_word-step b bs false e h = rw (e, one-add) (ap (λ w. b ∷ w) h)

pub first_word-is : (bs : List ℕ) → first_word bs ≡ before_first is_space bs
first_word-is [] = refl
first_word-is (b ∷ bs) = first_word-step b bs (b == 32) refl (first_word-is bs)

behind_word-step : (b : ℕ) (bs : List ℕ) (t : Bool) → (b == 32) ≡ t → (position_or_len is_space bs < length bs → behind_word bs ≡ Some (after_first is_space bs))
    → position_or_len is_space (b ∷ bs) < length (b ∷ bs) → behind_word (b ∷ bs) ≡ Some (after_first is_space (b ∷ bs))
behind_word-step b bs true e h l = rw e
behind_word-step b bs false e h l = let k = rw e at l in let i = rw add-one at (h (omega arith)) in rw (e, one-add, add-one) i

pub behind_word-Some : (bs : List ℕ) → position_or_len is_space bs < length bs → behind_word bs ≡ Some (after_first is_space bs)
behind_word-Some [] l = absurd (omega arith)
behind_word-Some (b ∷ bs) l = behind_word-step b bs (b == 32) refl (behind_word-Some bs) l

no_space-step : (b : ℕ) (bs : List ℕ) (t : Bool) → (b == 32) ≡ t → (position_or_len is_space bs ≡ length bs → behind_word bs ≡ None)
    → position_or_len is_space (b ∷ bs) ≡ length (b ∷ bs) → behind_word (b ∷ bs) ≡ None
no_space-step b bs true e h l = let k = rw e at l in absurd (omega arith)
no_space-step b bs false e h l = let k = rw e at l in rw e (h (omega arith))

pub behind_word-None : (bs : List ℕ) → position_or_len is_space bs ≡ length bs → behind_word bs ≡ None
behind_word-None [] l = refl
behind_word-None (b ∷ bs) l = no_space-step b bs (b == 32) refl (behind_word-None bs) l

pub first_word-all : (bs : List ℕ) → position_or_len is_space bs ≡ length bs → first_word bs ≡ bs
first_word-all bs l = first_word-is bs ∙ take_all _ bs (omega arith)

-- ---- rows of a table

bytes_eq-other : (word other : List ℕ) → word ≢ other → bytes_eq word other ≡ false
bytes_eq-other word other apart = search (rules, bytes_eq-Decides)

-- no row has the word
abbrev pub IsMissing : {A : Type 0} → List ℕ → List (List ℕ × A) → Type 0
IsMissing word [] = Unit {0}
IsMissing word (row ∷ rows) = (word ≢ row.0) × IsMissing word rows

pub look_up-missing : {A : Type 0} (word : List ℕ) (rows : List (List ℕ × A)) → IsMissing word rows → look_up word rows ≡ None
look_up-missing word [] other = refl
look_up-missing word (row ∷ rows) other = let apart = bytes_eq-other word row.0 other.0 in rw apart (look_up-missing word rows other.1)
