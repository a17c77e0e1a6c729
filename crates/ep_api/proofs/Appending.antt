-- What was done, and then more.
use Rattle.std.proofs.Common.{◌≡◌, List, [], ◌∷◌, ◌++◌, refl, sym, ap, ◌∙◌, append_assoc, Ok, Err}
use Rattle.ep_api.specs.Tasks.{Did, Drew, Asked, Refused, Stayed}
use Rattle.ep_api.specs.Passes.{asked, drawn, entered, stays}

pub asked-append : (xs ys : List Did) → asked (xs ++ ys) ≡ asked xs ++ asked ys
asked-append [] ys = refl
asked-append (Drew ns ∷ xs) ys = asked-append xs ys
asked-append (Asked e r ∷ xs) ys = ap (λ cs. (e, r) ∷ cs) (asked-append xs ys)
asked-append (Refused wanted why ∷ xs) ys = asked-append xs ys
asked-append (Stayed wanted cell calls ∷ xs) ys = asked-append xs ys

pub entered-append : (xs ys : List Did) → entered (xs ++ ys) ≡ entered xs ++ entered ys
entered-append [] ys = refl
entered-append (Drew ns ∷ xs) ys = entered-append xs ys
entered-append (Asked e r ∷ xs) ys = entered-append xs ys
entered-append (Refused wanted why ∷ xs) ys = ap (λ cs. (wanted, Err why) ∷ cs) (entered-append xs ys)
entered-append (Stayed wanted cell calls ∷ xs) ys = ap (λ cs. (wanted, Ok cell) ∷ cs) (entered-append xs ys)

pub stays-append : (xs ys : List Did) → stays (xs ++ ys) ≡ stays xs ++ stays ys
stays-append [] ys = refl
stays-append (Drew ns ∷ xs) ys = stays-append xs ys
stays-append (Asked e r ∷ xs) ys = stays-append xs ys
stays-append (Refused wanted why ∷ xs) ys = stays-append xs ys
stays-append (Stayed wanted cell calls ∷ xs) ys = ap (λ cs. record { name = wanted.name; cell = cell; calls = calls } ∷ cs) (stays-append xs ys)

pub drawn-append : (xs ys : List Did) → drawn (xs ++ ys) ≡ drawn xs ++ drawn ys
drawn-append [] ys = refl
drawn-append (Drew ns ∷ xs) ys = ap (λ cs. ns ++ cs) (drawn-append xs ys) ∙ sym (append_assoc ns (drawn xs) (drawn ys))
drawn-append (Asked e r ∷ xs) ys = drawn-append xs ys
drawn-append (Refused wanted why ∷ xs) ys = drawn-append xs ys
drawn-append (Stayed wanted cell calls ∷ xs) ys = drawn-append xs ys
