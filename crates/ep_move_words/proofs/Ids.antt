-- A word that is a pad's own id, and words of which there are not three.
use Rattle.std.proofs.Common.{◌≡◌, Option, Some, None, List, [], ◌∷◌, length, map, true, false, is_some, refl, sym, ap}
use Rattle.std.specs.Prelude.{IfSome}
use Rattle.ep_units.specs.PadId.{is_own_id}
use Rattle.ep_units.specs.Text.{Text}
use Rattle.ep_move_words.specs.Moves.{Word, asked_in, id_in}

pub read_id : (o : Option Text) (id : Text) → is_some o ≡ is_own_id id → IfSome o (λ p. p ≡ id) → o ≡ id_in id
read_id None id own same = let e : is_own_id id ≡ false = sym own in rw e refl
read_id (Some p) id own same = let e : is_own_id id ≡ true = sym own in rw e (ap (λ q. Some q) same)

pub none_but_three : {A : Type 0} (f : A → Word) (ws : List A) → (length ws ≡ 3 → ⊥) → None ≡ asked_in (map f ws)
none_but_three f [] not = refl
none_but_three f (a ∷ []) not = refl
none_but_three f (a ∷ (b ∷ [])) not = refl
none_but_three f (a ∷ (b ∷ (c ∷ []))) not = absurd (not refl)
none_but_three f (a ∷ (b ∷ (c ∷ (d ∷ ws)))) not = refl
