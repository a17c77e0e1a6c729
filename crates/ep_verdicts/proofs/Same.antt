-- Verdicts on a shelf that tells its files are these and no others.
use Rattle.std.proofs.Common.{◌≡◌, ℕ, List, [], ◌∷◌, map, Option, Some, None, refl, sym, ◌∙◌, subst, arith}
use Rattle.std.specs.Prelude.{All, IsSome}
use Rattle.std.proofs.lemmas.List.Elements.{All-tail}
use Rattle.ep_outside.specs.Disk.{Contents}
use Rattle.ep_verify.specs.Files.{IsFile, IsVerdict}
use Rattle.ep_verify.specs.Verdicts.{IsWhat}
use Rattle.ep_verify.specs.declared.verdict.Verdict.{Verdict}
use Rattle.ep_verify.proofs.One.{one}

one_file : (o : Option Contents) (a b : List ℕ) → IsSome o → IsFile o a → IsFile o b → a ≡ b
one_file None a b some h k = absurd (cc)
one_file (Some c) a b some h k = h ∙ sym k

one_verdict : (told : List ℕ → Option Contents) (v w : Verdict) → IsSome (told v.name) → v.name ≡ w.name → IsVerdict told v → IsVerdict told w → v ≡ w
one_verdict told v w some names (a, of_v, is_v) (b, of_w, is_w) =
    let same : a ≡ b = one_file (told v.name) a b some of_v (subst (λ (n : List ℕ). IsFile (told n) b) (sym names) of_w) in
    let whats : v.what ≡ w.what = one a v.what w.what is_v (subst (λ (file : List ℕ). IsWhat file w.what) (sym same) is_w) in
    (λ i. record { name = names i; what = whats i })

pub same_verdicts : (told : List ℕ → Option Contents) (ns : List (List ℕ)) (vs ws : List Verdict) → All (λ n. IsSome (told n)) ns → map (λ v. v.name) vs ≡ ns → map (λ v. v.name) ws ≡ ns
    → All (IsVerdict told) vs → All (IsVerdict told) ws → vs ≡ ws
same_verdicts told [] [] [] all a b is_v is_w = refl
same_verdicts told [] [] (w ∷ ws) all a b is_v is_w = absurd (cc)
same_verdicts told [] (v ∷ vs) ws all a b is_v is_w = absurd (cc)
same_verdicts told (n ∷ ns) [] ws all a b is_v is_w = absurd (cc)
same_verdicts told (n ∷ ns) (v ∷ vs) [] all a b is_v is_w = absurd (cc)
same_verdicts told (n ∷ ns) (v ∷ vs) (w ∷ ws) all a b is_v is_w =
    let whole_v : v.name ∷ map (λ (u : Verdict). u.name) vs ≡ n ∷ ns = a in
    let whole_w : w.name ∷ map (λ (u : Verdict). u.name) ws ≡ n ∷ ns = b in
    let name_v : v.name ≡ n = cc in
    let name_w : w.name ≡ n = cc in
    let rest_v : map (λ (u : Verdict). u.name) vs ≡ ns = cc in
    let rest_w : map (λ (u : Verdict). u.name) ws ≡ ns = cc in
    let first = one_verdict told v w (subst (λ (m : List ℕ). IsSome (told m)) (sym name_v) (all 0 n (omega arith))) (name_v ∙ sym name_w) (is_v 0 v (omega arith)) (is_w 0 w (omega arith)) in
    let rest = same_verdicts told ns vs ws (All-tail (λ (m : List ℕ). IsSome (told m)) n ns all) rest_v rest_w (All-tail (IsVerdict told) v vs is_v) (All-tail (IsVerdict told) w ws is_w) in
    (λ i. first i ∷ rest i)
