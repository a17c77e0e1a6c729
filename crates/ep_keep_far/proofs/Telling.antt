-- What a far keeper tells behind an answer.
use Rattle.std.proofs.Common.{◌≡◌, ◌∙◌, List, [], ◌∷◌, ◌++◌, Bool, true, false, refl, sym, ap, ap₂, subst, Option, Some, None, Result, Ok, Err, IfOk, is_some, true≢false}
use Rattle.std.specs.Prelude.{IsTrue, ◌||◌, MatchOption}
use Rattle.ep_outside.specs.Kept.{Stays}
use Rattle.ep_outside.specs.declared.keeper.KeepBad.{KeepBad}
use Rattle.ep_outside.specs.declared.keeper.Pair.{Pair}
use Rattle.ep_keep_far.specs.declared.asked.Said.{Said}
use Rattle.ep_keep_far.specs.declared.asked.Said.TheVariants.{Begun, Value, Puts, Pairs}
use Rattle.ep_keep_far.specs.declared.asked.Answer.{Answer}
use Rattle.ep_keep_far.specs.Told.{Continues, Hears, IsSaid, last_left, told_by, told_from}

pub last_of : {K : Type 0} (before : List (Answer K)) (a : Answer K) → last_left (before ++ a ∷ []) ≡ Some a.after.value
last_of [] a = refl
last_of (b ∷ []) a = refl
last_of (b ∷ c ∷ more) a = last_of (c ∷ more) a

-- nothing was told, and nothing is
pub unsaid : (said : Said) → IsSaid None None said
unsaid Begun = refl
unsaid (Value key (Ok value)) = tt
unsaid (Value key (Err e)) = tt
unsaid (Puts puts (Ok done)) = tt
unsaid (Puts puts (Err e)) = tt
unsaid (Pairs prefix (Ok pairs)) = tt
unsaid (Pairs prefix (Err e)) = tt

-- an answer that comes after the others says what is told before it and behind it
pub says : {K : Type 0} (told : K → Option (List Pair)) (is_lost : Bool) (before : List (Answer K)) (a : Answer K) → (is_lost || is_some (last_left before)) ≡ true → Continues told before a
    → IsSaid (told_from told is_lost before) (told_from told is_lost (before ++ a ∷ [])) a.said
says told true before a met next = unsaid a.said
says {K = K} told false before a met next =
    subst (λ o. IsSaid (told_by told (last_left before)) (told_by told o) a.said) (sym (last_of before a)) (go (last_left before) met next.0)
  where
    go : (o : Option K) → is_some o ≡ true → MatchOption o (Unit {0}) (λ k. a.before.value ≡ k) → IsSaid (told_by told o) (told a.after.value) a.said
    go None has same = absurd (true≢false (sym has))
    go (Some k) has same = subst (λ x. IsSaid (told x) (told a.after.value) a.said) same next.1

pub met_after : {K : Type 0} (is_lost : Bool) (before : List (Answer K)) (a : Answer K) → (is_lost || is_some (last_left (before ++ a ∷ []))) ≡ true
met_after true before a = refl
met_after false before a = ap is_some (last_of before a)

pub stays_self : (o : Option (List Pair)) → Stays o o
stays_self None = tt
stays_self (Some m) = refl

pub stays_lost : {K : Type 0} (told : K → Option (List Pair)) (old : Option (List Pair)) (is_lost : Bool) (heard : List (Answer K)) → IsTrue is_lost → Stays old (told_from told is_lost heard)
stays_lost told old true heard h = tt
stays_lost told old false heard h = absurd (true≢false (sym h))

-- what was heard is what is handed on
pub hears : {K X T : Type 0} (C : X → Result T KeepBad → Said) (old mid new : List (Answer K)) (of key : X) (came result : Result T KeepBad) → Hears old mid (C of came) → of ≡ key → new ≡ mid → result ≡ came
    → IfOk result (λ value. Hears old new (C key (Ok value)))
hears C old mid new of key came (Ok value) h same kept is = (h.0, kept ∙ h.1, h.2 ∙ ap₂ C same (sym is))
hears C old mid new of key came (Err why) h same kept is = tt

-- one answer more
module _ {K : Type 0} {old mid new : List (Answer K)} (a : Answer K) (same : mid ≡ old) (more : new ≡ mid ++ a ∷ []) where
  whole : new ≡ old ++ a ∷ []
  whole = more ∙ ap (λ l. l ++ a ∷ []) same

  pub left_then : last_left new ≡ Some a.after.value
  left_then = ap last_left whole ∙ last_of old a

  pub hears_then : (said : Said) → a.said ≡ said → Hears old new said
  hears_then said is = (a, whole, is)

  pub met_then : (is_lost : Bool) → (is_lost || is_some (last_left new)) ≡ true
  met_then is_lost = subst (λ l. (is_lost || is_some (last_left l)) ≡ true) (sym whole) (met_after is_lost old a)

  pub says_then : (told : K → Option (List Pair)) (is_lost : Bool) (said : Said) → (is_lost || is_some (last_left old)) ≡ true → Continues told mid a → said ≡ a.said
      → IsSaid (told_from told is_lost old) (told_from told is_lost new) said
  says_then told is_lost said met next is =
      let here : Continues told old a = subst (λ l. Continues told l a) same next in
      let all : IsSaid (told_from told is_lost old) (told_from told is_lost new) a.said = subst (λ l. IsSaid (told_from told is_lost old) (told_from told is_lost l) a.said) (sym whole) (says told is_lost old a met here) in
      subst (λ s. IsSaid (told_from told is_lost old) (told_from told is_lost new) s) (sym is) all
