-- Verdicts and files that are what is told, judged and held one after the other.
use Rattle.std.proofs.Common.{◌≡◌, ℕ, List, [], ◌∷◌, ◌++◌, map, Option, Some, None, refl, sym, ◌∙◌, ap, subst, arith}
use Rattle.std.specs.Prelude.{All, length}
use Rattle.std.proofs.lemmas.List.Elements.{All-nil, All-cons, All-append, All-tail}
use Rattle.ep_outside.specs.Disk.{Contents}
use Rattle.ep_outside.specs.Shelf.{Holds}
use Rattle.ep_verify.specs.declared.verdict.Verdict.{Verdict}
use Rattle.ep_verify.specs.declared.running.Running.{Running}
use Rattle.ep_verify.specs.Verdicts.{IsWhat}
use Rattle.ep_verify.specs.Files.{names_in, AreTold, IsFile, IsVerdict, IsVerdictOn, IsTold}

held_name : (fs : List Running) (f : Running) → map (λ g. g.name) (fs ++ f ∷ []) ≡ map (λ g. g.name) fs ++ f.name ∷ []
held_name [] f = refl
held_name (g ∷ fs) f = ap (λ (l : List (List ℕ)). g.name ∷ l) (held_name fs f)

pub names_held : (vs : List Verdict) (fs : List Running) (f : Running) → names_in vs (fs ++ f ∷ []) ≡ names_in vs fs ++ f.name ∷ []
names_held [] fs f = held_name fs f
names_held (v ∷ vs) fs f = ap (λ (l : List (List ℕ)). v.name ∷ l) (names_held vs fs f)

pub told_held : (told : List ℕ → Option Contents) (vs : List Verdict) (fs : List Running) (f : Running) → AreTold told vs fs → IsTold told f → AreTold told vs (fs ++ f ∷ [])
told_held told vs fs f h k = record {
  judged = h.judged;
  held = All-append (IsTold told) fs (f ∷ []) h.held (All-cons (IsTold told) f [] k (All-nil (IsTold told)));
}

pub nil : {X : Type 0} (xs : List X) → length xs ≡ 0 → xs ≡ []
nil [] e = refl
nil (x ∷ xs) e = absurd (omega (arith, e))

-- what is read from a disk that tells what was told
pub read_is_told : (shelf disk : Option Contents) (bytes : List ℕ) → Holds shelf disk → IsFile disk bytes → IsFile shelf bytes
read_is_told None disk bytes h k = tt
read_is_told (Some c) disk bytes h k = subst (λ (o : Option Contents). IsFile o bytes) h k

-- the first one is judged
pub names_first : (vs : List Verdict) (r : Running) (rs : List Running) (v : Verdict) → v.name ≡ r.name → names_in (vs ++ v ∷ []) rs ≡ names_in vs (r ∷ rs)
names_first [] r rs v e = ap (λ (n : List ℕ). n ∷ map (λ (f : Running). f.name) rs) e
names_first (w ∷ vs) r rs v e = ap (λ (l : List (List ℕ)). w.name ∷ l) (names_first vs r rs v e)

pub told_first : (told : List ℕ → Option Contents) (vs : List Verdict) (r : Running) (rs : List Running) (v : Verdict) → IsVerdictOn r v → AreTold told vs (r ∷ rs) → AreTold told (vs ++ v ∷ []) rs
told_first told vs r rs v is h = record {
  judged = All-append (IsVerdict told) vs (v ∷ []) h.judged (All-cons (IsVerdict told) v [] (_, subst (λ (n : List ℕ). IsFile (told n) r.child.promise.0.value.items) (sym is.name) (h.held 0 r (omega arith)), is.what) (All-nil (IsVerdict told)));
  held = All-tail (IsTold told) r rs h.held;
}

pub told_step : (told : List ℕ → Option Contents) (vs ws : List Verdict) (rs running : List Running) (r : Running) (v : Verdict) → ws ≡ vs ++ v ∷ [] → IsVerdictOn r v → running ≡ r ∷ rs → AreTold told vs running → AreTold told ws rs
told_step told vs ws rs running r v e is first h =
    subst (λ (l : List Verdict). AreTold told l rs) (sym e) (told_first told vs r rs v is (subst (AreTold told vs) first h))

pub names_step : (vs ws : List Verdict) (rs running : List Running) (r : Running) (v : Verdict) → ws ≡ vs ++ v ∷ [] → IsVerdictOn r v → running ≡ r ∷ rs → names_in ws rs ≡ names_in vs running
names_step vs ws rs running r v e is first =
    ap (λ (l : List Verdict). names_in l rs) e ∙ (names_first vs r rs v is.name ∙ ap (names_in vs) (sym first))

-- one more is judged at once
pub told_put : (told : List ℕ → Option Contents) (vs ws : List Verdict) (rs : List Running) (v : Verdict) (bytes : List ℕ) → ws ≡ vs ++ v ∷ [] → IsFile (told v.name) bytes → IsWhat bytes v.what → AreTold told vs rs → AreTold told ws rs
told_put told vs ws rs v bytes e file what h = record {
  judged = subst (All (IsVerdict told)) (sym e) (All-append (IsVerdict told) vs (v ∷ []) h.judged (All-cons (IsVerdict told) v [] (bytes, file, what) (All-nil (IsVerdict told))));
  held = h.held;
}
