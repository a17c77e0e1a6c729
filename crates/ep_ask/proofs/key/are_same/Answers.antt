use Rattle.std.proofs.Common.{◌≡◌, ℕ, ◌<◌, ◌≤◌, min, Bool, true, List, length, get_or, rules, arith}
use Rattle.std.specs.Bool.{Decides}
use Rattle.std.specs.Str.{bytes_eq}
use Rattle.std.proofs.lemmas.Grind.{same_number_lists}
use Rattle.std.proofs.lemmas.Slice.Eq.{bytes_eq-Decides}
use Rattle.ep_ask.proofs.key.are_same.Goals as goal

-- a test that holds exactly where the lengths are equal, and all that both have
both_same : (same : Bool) (xs ys : List ℕ) (i : ℕ) → (same ≡ true → (length xs ≡ length ys) × ((k : ℕ) → k < i → get_or xs k 0 ≡ get_or ys k 0))
    → (xs ≡ ys → same ≡ true) → min (length xs) (length ys) ≤ i → same ≡ bytes_eq xs ys
both_same same xs ys i tells told long =
    let alike : same ≡ true → xs ≡ ys = λ e. let t = tells e in same_number_lists xs ys t.0 (λ k h. t.1 k (omega (arith, t.0))) in
    let decides : Decides same (xs ≡ ys) = (alike, told) in
    search (rules, bytes_eq-Decides)

pub returns : goal.returns
returns c = both_same _ _ _ c.loop-i.i c.loop-i.invariant.tells c.loop-i.invariant.told (omega arith)
