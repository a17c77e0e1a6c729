use Rattle.std.proofs.Common.{◌≡◌, ℕ, List, ◌++◌, ◌∷◌, [], ◌/◌, ◌%◌, ◌<◌, ◌≤◌, sym, ap, ap₂, ◌∙◌, arith, append_assoc}
use Rattle.ep_units.specs.Base36.{digit, write36}
use Rattle.ep_units.proofs.Digits.{write36_small, write36_large}
use Rattle.ep_csread.proofs.output.+put_digits.Goals as goal
use Rattle.ep_csread.proofs.output.+put_digits.Goals.{then-n-lt1296+in_ok-push, else-n-lt1296+then-n-lt46656+in_ok-push-2+in_ok-push-3, else-n-lt1296+else-n-lt46656+in_ok-put_digits}

-- behind what spells the higher digits, the lowest one
lower : (n : ℕ) (old high new : List ℕ) (d : ℕ) → 36 ≤ n → high ≡ old ++ write36 (n / 36) → new ≡ high ++ d ∷ [] → d ≡ digit (n % 36) → new ≡ old ++ write36 n
lower n old high new d some before added is =
    added
    ∙ ap₂ (λ (ds : List ℕ) (e : ℕ). ds ++ e ∷ []) before is
    ∙ append_assoc old (write36 (n / 36)) (digit (n % 36) ∷ [])
    ∙ ap (λ (ds : List ℕ). old ++ ds) (sym (write36_large n some))

one : (n : ℕ) (old new : List ℕ) (d : ℕ) → n < 36 → new ≡ old ++ d ∷ [] → d ≡ digit n → new ≡ old ++ write36 n
one n old new d small added is = added ∙ ap (λ (e : ℕ). old ++ e ∷ []) is ∙ ap (λ (ds : List ℕ). old ++ ds) (sym (write36_small n small))

pub returns : goal.returns
returns t c =
    let n = c.args.n in
    let old = c.args.out.now.items in
    lower n old c.if-n-lt1296.out.items c.push-2.new.self.items c.digit-2.result c.requires
    (elim c.if-n-lt1296.branch [
      | then-n-lt1296+in_ok-push w ↦
          rw w.out-is (one (n / 36) old w.push.new.self.items w.digit.result (omega (arith, w.if-n-lt1296.true)) w.in_ok-push.ensures.items w.digit.ensures)
      | else-n-lt1296+then-n-lt46656+in_ok-push-2+in_ok-push-3 w ↦
          rw w.out-is (lower (n / 36) old w.push-then-n-lt46656.new.self.items w.push-then-n-lt46656-2.new.self.items w.digit-then-n-lt46656-2.result (omega (arith, w.if-n-lt1296.false))
          (one (n / 36 / 36) old w.push-then-n-lt46656.new.self.items w.digit-then-n-lt46656.result (omega (arith, w.if-n-lt46656.true)) w.in_ok-push-2.ensures.items w.digit-then-n-lt46656.ensures)
          w.in_ok-push-3.ensures.items w.digit-then-n-lt46656-2.ensures)
      | else-n-lt1296+else-n-lt46656+in_ok-put_digits w ↦ rw w.out-is w.in_ok-put_digits.ensures
    ])
    c.in_ok-push-4.ensures.items c.digit-2.ensures
