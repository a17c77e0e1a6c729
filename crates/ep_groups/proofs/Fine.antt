-- Answers that are refused for no value of another form, one behind another.
use Rattle.std.proofs.Common.{◌≡◌, Bool, true, false, List, [], ◌∷◌, All, Option, Some, None, Result, Ok, Err, if◌then◌else◌, subst}
use Rattle.std.proofs.lemmas.List.Elements.{All-head, All-tail}
use Rattle.ep_outside.specs.declared.keeper.Pair.{Pair}
use Rattle.ep_dir_records.specs.Answers.{◌>>=◌}
use Rattle.ep_dir_records.specs.Readings.{there, each}
use Rattle.ep_dir_records.specs.declared.dir_bad.DirBad.{DirBad}
use Rattle.ep_dir_records.specs.declared.dir_bad.DirBad.TheVariants.{Kept}
use Rattle.ep_groups.specs.Calls.{NotKept}

abbrev pub IsKeptBad : DirBad → Type 0
IsKeptBad (Kept key) = Unit {0}
IsKeptBad _ = ⊥

-- it is no refusal for a value of another form, and what it gives is so
abbrev pub Fine : {A : Type 0} → (A → Type 0) → Result A DirBad → Type 0
Fine P (Ok x) = P x
Fine P (Err e) = IsKeptBad e → ⊥

-- nothing is asked of it
abbrev pub Any : {A : Type 0} → A → Type 0
Any x = Unit {0}

abbrev pub If : {A : Type 0} → (A → Type 0) → Option A → Type 0
If P None = Unit {0}
If P (Some x) = P x

pub fine_then : {A B : Type 0} (P : A → Type 0) (Q : B → Type 0) (r : Result A DirBad) (f : A → Result B DirBad) → Fine P r → ((x : A) → P x → Fine Q (f x)) → Fine Q (◌>>=◌ r f)
fine_then P Q (Ok x) f h next = next x h
fine_then P Q (Err e) f h next = h

pub fine_any : {A : Type 0} (P : A → Type 0) (r : Result A DirBad) → Fine P r → Fine Any r
fine_any P (Ok x) h = tt
fine_any P (Err e) h = h

pub fine_if : {A : Type 0} (P : A → Type 0) (b : Bool) (x y : Result A DirBad) → Fine P x → Fine P y → Fine P (if b then x else y)
fine_if P true x y h k = h
fine_if P false x y h k = k

pub fine_there : {A : Type 0} (P : A → Type 0) (bad : DirBad) (o : Option A) → (IsKeptBad bad → ⊥) → If P o → Fine P (there bad o)
fine_there P bad None plain h = plain
fine_there P bad (Some x) plain h = h

pub fine_each : {A : Type 0} (R : Pair → Type 0) (f : Pair → Result A DirBad) → ((p : Pair) → R p → Fine Any (f p)) → (ps : List Pair) → All R ps → Fine Any (each f ps)
fine_each R f one [] all = tt
fine_each R f one (p ∷ ps) all =
    fine_then Any Any (f p) (λ x. ◌>>=◌ (each f ps) (λ xs. Ok (x ∷ xs))) (one p (All-head R p ps all)) (λ x _.
    fine_then Any Any (each f ps) (λ xs. Ok (x ∷ xs)) (fine_each R f one ps (All-tail R p ps all)) (λ xs _. tt))

pub not_kept : {A : Type 0} (P : A → Type 0) (r s : Result A DirBad) → Fine P r → r ≡ s → NotKept s
not_kept P r s h same key e =
    let at : Fine P (Err (Kept key)) = subst (Fine P) (subst (λ t. r ≡ t) e same) h in at tt
