-- A text whose escapes are read stays whole.
use Rattle.std.proofs.Common.{◌≡◌, ℕ, ◌==◌, ◌&&◌, Bool, true, false, cond, not, List, [], ◌∷◌, refl, arith, Option, Some, None, Result, Ok, Err}
use Rattle.std.proofs.lemmas.Bool.Decides.{nat_tests}
use Rattle.std.specs.Prelude.{IfOk, IfSome}
use Rattle.ep_units.specs.Text.{is_high, is_low, is_paired}
use Rattle.ep_script.specs.Texts.{before, unescaped_from, unescaped, IsText}

and_true : (a b : Bool) → (a && b) ≡ true → (a ≡ true) × (b ≡ true)
and_true true b h = (refl, h)
and_true false b h = cc

-- a unit that is taken as it is
plain_unit : (half : Bool) (u : ℕ) (t : List ℕ) (o : Option (List ℕ)) → ((s : List ℕ) → o ≡ Some s → is_paired (is_high u) s ≡ true) → cond half (is_low u) (not (is_low u)) ≡ true
    → before (Some u) o ≡ Some t → is_paired half t ≡ true
plain_unit half u t None behind fits e = cc
plain_unit half u t (Some s) behind fits e = let k : t ≡ u ∷ s = cc in rw (k, fits) (behind s refl)

at_backslash : (half : Bool) (us t : List ℕ) → ((s : List ℕ) → is_paired false us ≡ true → unescaped_from true us ≡ Some s → is_paired false s ≡ true)
    → is_paired half (92 ∷ us) ≡ true → unescaped_from true us ≡ Some t → is_paired half t ≡ true
at_backslash true us t behind whole e = cc
at_backslash false us t behind whole e = behind t whole e

module _ (us : List ℕ) (behind : (half : Bool) (s : List ℕ) → is_paired half us ≡ true → unescaped_from false us ≡ Some s → is_paired half s ≡ true) where
  at_unit : (half : Bool) (u : ℕ) (t : List ℕ) (b : Bool) → (u == 92) ≡ b → ((s : List ℕ) → is_paired false us ≡ true → unescaped_from true us ≡ Some s → is_paired false s ≡ true)
      → is_paired half (u ∷ us) ≡ true → unescaped_from false (u ∷ us) ≡ Some t → is_paired half t ≡ true
  at_unit half u t true is escaped whole e =
      let here : u ≡ 92 = grind (arith, nat_tests) in
      at_backslash half us t escaped (rw here at whole) (rw is at e)
  at_unit half u t false is escaped whole e =
      let p = and_true (cond half (is_low u) (not (is_low u))) (is_paired (is_high u) us) whole in
      plain_unit half u t (unescaped_from false us) (λ s. behind (is_high u) s p.1) p.0 (rw is at e)

  at_escape : (u : ℕ) (t : List ℕ) (a b c : Bool) → (u == 110) ≡ a → (u == 116) ≡ b → (u == 92) ≡ c → is_paired false (u ∷ us) ≡ true
      → unescaped_from true (u ∷ us) ≡ Some t → is_paired false t ≡ true
  at_escape u t true b c n tab slash whole e =
      let here : u ≡ 110 = grind (arith, nat_tests) in let w = rw here at whole in
      plain_unit false 10 t (unescaped_from false us) (λ s. behind false s w) refl (rw n at e)
  at_escape u t false true c n tab slash whole e =
      let here : u ≡ 116 = grind (arith, nat_tests) in let w = rw here at whole in
      plain_unit false 9 t (unescaped_from false us) (λ s. behind false s w) refl (rw (n, tab) at e)
  at_escape u t false false true n tab slash whole e =
      let here : u ≡ 92 = grind (arith, nat_tests) in let w = rw here at whole in
      plain_unit false 92 t (unescaped_from false us) (λ s. behind false s w) refl (rw (n, tab, slash) at e)
  at_escape u t false false false n tab slash whole e = let k = rw (n, tab, slash) at e in cc

keeps_pairs : (escaping half : Bool) (us t : List ℕ) → (escaping ≡ true → half ≡ false) → is_paired half us ≡ true → unescaped_from escaping us ≡ Some t → is_paired half t ≡ true
keeps_pairs false half [] t first whole e = let k : t ≡ [] = cc in rw k whole
keeps_pairs true half [] t first whole e = cc
keeps_pairs false half (u ∷ us) t first whole e =
    at_unit us (λ h s w. keeps_pairs false h us s (λ k. cc) w) half u t (u == 92) refl (λ s w. keeps_pairs true false us s (λ k. refl) w) whole e
keeps_pairs true half (u ∷ us) t first whole e =
    let outside = first refl in
    rw outside (at_escape us (λ h s w. keeps_pairs false h us s (λ k. cc) w) u t (u == 110) (u == 116) (u == 92) refl refl refl (rw outside at whole) e)

read_whole : (us : List ℕ) (o : Option (List ℕ)) → IsText us → o ≡ unescaped us → IfSome o IsText
read_whole us None whole e = tt
read_whole us (Some t) whole e = keeps_pairs false false us t (λ k. cc) whole (cc)

-- what `unescape` gives of a whole text
pub texts_whole : {E : Type 0} (us : List ℕ) (r : Result (Option (List ℕ)) E) → IsText us → IfOk r (λ o. o ≡ unescaped us) → IfOk r (λ o. IfSome o IsText)
texts_whole us (Ok o) whole e = read_whole us o whole e
texts_whole us (Err e) whole h = tt
