-- Results of calls that may be refused.
use Rattle.std.proofs.Common.{◌≡◌, ℕ, ◌<◌, ◌≤◌, true, nat_lt, arith, Option, Some, None, Result, Ok, Err, ◌⊎◌, inl, inr, refl, sym, ap, ◌∙◌}
use Rattle.ep_history.specs.declared.pad_bad.PadBad.{PadBad}
use Rattle.ep_history.specs.declared.pad_bad.PadBad.TheVariants.{NoMemory, TooLong}
use Rattle.std.proofs.lemmas.Bool.Decides.{nat_tests}
use Rattle.ep_history.specs.Refusals.{fault_if}
use Rattle.ep_history.proofs.Refused.{if-not, less-not}
use Rattle.ep_step.specs.Answers.{Refuses}

-- memory is wanting
pub lacking_memory : (A : Type 0) (f : Option PadBad) → Refuses {A = A} f (Err NoMemory)
lacking_memory A None = refl
lacking_memory A (Some bad) = inr refl

pub refused_by : (A : Type 0) (f : Option PadBad) (bad : PadBad) → f ≡ Some bad → Refuses {A = A} f (Err bad)
refused_by A None bad e = absurd cc
refused_by A (Some why) bad e = inl cc

pub unrefused : {A : Type 0} (f : Option PadBad) (x : A) → f ≡ None → Refuses f (Ok x)
unrefused None x e = tt
unrefused (Some why) x e = absurd cc

-- what is answered is not refused
pub no_fault : {A : Type 0} (f : Option PadBad) (x : A) → Refuses f (Ok x) → f ≡ None
no_fault None x h = refl
no_fault (Some why) x (inl e) = absurd cc
no_fault (Some why) x (inr e) = absurd cc

-- the refusal of one call is that of another
pub refused_so : (A B : Type 0) (f g : Option PadBad) (bad : PadBad) → f ≡ g → Refuses {A = A} f (Err bad) → Refuses {A = B} g (Err bad)
refused_so A B None None bad e h = h
refused_so A B None (Some w) bad e h = absurd cc
refused_so A B (Some v) None bad e h = absurd cc
refused_so A B (Some v) (Some w) bad e (inl h) = inl cc
refused_so A B (Some v) (Some w) bad e (inr h) = inr cc

-- ---- lengths

pub over : (limit n units : ℕ) → n ≡ units → limit < n → fault_if (nat_lt limit units) (TooLong units) ≡ Some (TooLong n)
over limit n units e h = ap (λ u. fault_if (nat_lt limit u) (TooLong u)) (sym e) ∙ ap (λ b. fault_if b (TooLong n)) (less limit n h)
  where
    less : (a b : ℕ) → a < b → nat_lt a b ≡ true
    less a b h = grind (arith, nat_tests)

pub within : (limit n units : ℕ) → n ≡ units → n ≤ limit → fault_if (nat_lt limit units) (TooLong units) ≡ None
within limit n units e h = ap (λ u. fault_if (nat_lt limit u) (TooLong u)) (sym e) ∙ if-not (nat_lt limit n) (TooLong n) (less-not limit n h)
