-- What a desk's answers say, and what a far keeper tells by them.
use Rattle.std.specs.Prelude.{◌≡◌, Bool, true, false, List, [], ◌∷◌, ◌++◌, Option, Some, None, MatchOption, MatchResult, if◌then◌else◌}
use Rattle.ep_outside.specs.Kept.{Gets, Lists, Puts as PutsAll, Rises, Stays}
use Rattle.ep_outside.specs.declared.keeper.Pair.{Pair}
use Rattle.ep_outside.specs.declared.keeper.Put.{Put}
use Rattle.ep_keep_far.specs.declared.asked.Asked.{Asked}
use Rattle.ep_keep_far.specs.declared.asked.Asked.TheVariants as asks
use Rattle.ep_keep_far.specs.declared.asked.Said.{Said}
use Rattle.ep_keep_far.specs.declared.asked.Said.TheVariants.{Begun, Value, Puts, Pairs}
use Rattle.ep_keep_far.specs.declared.asked.Answer.{Answer}

-- this is the answer to that call
abbrev pub IsOf : Asked → Said → Type 0
IsOf (asks.Value key) (Value of came) = of ≡ key
IsOf (asks.Puts puts) (Puts of came) = of.items ≡ puts.items
IsOf (asks.Pairs prefix) (Pairs of came) = of ≡ prefix
IsOf asked said = ⊥

-- what a keeper's call came to, by what the keeper told before and after it
abbrev pub IsSaid : Option (List Pair) → Option (List Pair) → Said → Type 0
IsSaid old new Begun = new ≡ old
IsSaid old new (Value key came) = MatchResult came (λ value. Gets old new key value) (λ _. Stays old new)
IsSaid old new (Puts puts came) = MatchResult came (λ _. PutsAll old new puts.items) (λ _. Stays old new)
IsSaid old new (Pairs prefix came) = MatchResult came (λ pairs. Lists old new prefix pairs) (λ _. Stays old new)

-- these were put, all of them
abbrev pub HasPut : List Put → Said → Type 0
HasPut puts Begun = ⊥
HasPut puts (Value key came) = ⊥
HasPut puts (Puts asked came) = MatchResult came (λ _. asked.items ≡ puts) (λ _. ⊥)
HasPut puts (Pairs prefix came) = ⊥

module _ {K : Type 0} where
  -- the keeper as the last of the answers left it
  abbrev pub last_left : List (Answer K) → Option K
  last_left [] = None
  last_left (a ∷ []) = Some a.after.value
  last_left (a ∷ b ∷ more) = last_left (b ∷ more)

  -- An answer comes after others: the keeper was as the last of them left it, and the call says what a keeper's call says.
  abbrev pub Continues : (K → Option (List Pair)) → List (Answer K) → Answer K → Type 0
  Continues told before a = MatchOption (last_left before) (Unit {0}) (λ k. a.before.value ≡ k) × IsSaid (told a.before.value) (told a.after.value) a.said

  abbrev pub told_by : (K → Option (List Pair)) → Option K → Option (List Pair)
  told_by told None = None
  told_by told (Some k) = told k

  -- a far keeper tells what the keeper at its desk told with the last answer, unless an answer was lost
  abbrev pub told_from : (K → Option (List Pair)) → Bool → List (Answer K) → Option (List Pair)
  told_from told is_lost heard = if is_lost then None else told_by told (last_left heard)

  -- a map that is told rises
  pub told_rises : (told : K → Option (List Pair)) → ((k : K) → Rises (told k)) → (is_lost : Bool) (heard : List (Answer K)) → Rises (told_from told is_lost heard)
  told_rises told rises true heard = tt
  told_rises told rises false heard = go (last_left heard)
    where
      go : (o : Option K) → Rises (told_by told o)
      go None = tt
      go (Some k) = rises k

  -- the call was answered at the desk, and so
  abbrev pub Hears : List (Answer K) → List (Answer K) → Said → Type 0
  Hears old new said = (a : Answer K) × (new ≡ old ++ a ∷ []) × (a.said ≡ said)
