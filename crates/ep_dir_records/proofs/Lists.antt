-- The readings of some pairs, one after the other.
use Rattle.std.proofs.Common.{◌≡◌, ℕ, suc, ◌+◌, ◌<◌, ◌≤◌, List, [], ◌∷◌, ◌++◌, length, get_or, drop, refl, sym, ◌∙◌, ap, add-one, append_assoc}
use Rattle.std.specs.Prelude.{Result, Ok, Err}
use Rattle.std.proofs.Math.Seq.{drop-cons}
use Rattle.std.proofs.lemmas.List.{drop_all}
use Rattle.ep_outside.specs.declared.keeper.Pair.{Pair}
use Rattle.ep_dir_records.specs.Answers.{◌>>=◌}
use Rattle.ep_dir_records.specs.Readings.{each}
use Rattle.ep_dir_records.specs.declared.dir_bad.DirBad.{DirBad}

-- what is done, and the rest
abbrev pub behind : {A : Type 0} → List A → Result (List A) DirBad → Result (List A) DirBad
behind done r = ◌>>=◌ r (λ xs. Ok (done ++ xs))

pub behind_none : {A : Type 0} (r : Result (List A) DirBad) → r ≡ behind [] r
behind_none (Ok xs) = refl
behind_none (Err e) = refl

one_more : {A : Type 0} (done : List A) (r : Result A DirBad) (rest : Result (List A) DirBad) → behind done (◌>>=◌ r (λ x. ◌>>=◌ rest (λ xs. Ok (x ∷ xs)))) ≡ ◌>>=◌ r (λ x. behind (done ++ x ∷ []) rest)
one_more done (Ok x) (Ok xs) = ap (λ z. Ok z) (sym (append_assoc done (x ∷ []) xs))
one_more done (Ok x) (Err e) = refl
one_more done (Err e) rest = refl

pub each_cons : {A : Type 0} (f : Pair → Result A DirBad) (done : List A) (ps : List Pair) (i : ℕ) (p : Pair) → i < length ps → p ≡ get_or ps i p → behind done (each f (drop i ps)) ≡ ◌>>=◌ (f p) (λ x. behind (done ++ x ∷ []) (each f (drop (i + 1) ps)))
each_cons f done ps i p below is =
    let c : drop i ps ≡ p ∷ drop (i + 1) ps = drop-cons ps i p below ∙ (ap (λ x. x ∷ drop (suc i) ps) (sym is) ∙ ap (λ n. p ∷ drop n ps) (sym (add-one i))) in
    ap (λ z. behind done (each f z)) c ∙ one_more done (f p) (each f (drop (i + 1) ps))

pub each_end : {A : Type 0} (f : Pair → Result A DirBad) (done : List A) (ps : List Pair) (i : ℕ) → length ps ≤ i → behind done (each f (drop i ps)) ≡ Ok (done ++ [])
each_end f done ps i past = ap (λ z. behind done (each f z)) (drop_all i ps past)
