-- What a read takes off a list.
use Rattle.std.proofs.Common.{◌≡◌, ℕ, ◌+◌, ◌≤◌, List, ◌++◌, length, take, drop, sym, ◌∙◌, ap, arith, length-append, length-drop, take-append-drop}
use Rattle.std.proofs.lemmas.List.{length-take, take_at, drop-drop}

pub gives_part : (bytes room new : List ℕ) (at n : ℕ) → 1 ≤ n → at + n ≤ length bytes → new ≡ take n (drop at bytes)
    → (1 ≤ n) × (n ≤ length (new ++ drop n room)) × (drop at bytes ≡ take n (new ++ drop n room) ++ drop (at + n) bytes)
gives_part bytes room new at n some inside is =
    let long : length new ≡ n = omega (arith, ap length is, length-take n (drop at bytes), length-drop at bytes) in
    let first : take n (new ++ drop n room) ≡ take n (drop at bytes) = take_at new (drop n room) n long ∙ is in
    let rest : drop n (drop at bytes) ≡ drop (at + n) bytes = drop-drop n at bytes ∙ ap (λ (k : ℕ). drop k bytes) (omega arith) in
    (some, omega (arith, long, length-append new (drop n room)), sym (take-append-drop n (drop at bytes)) ∙ (λ i. sym first i ++ rest i))
