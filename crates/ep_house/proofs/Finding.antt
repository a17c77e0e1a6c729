-- Finding the first of a name.
use Rattle.std.proofs.Common.{◌≡◌, ℕ, ◌+◌, ◌<◌, ◌≤◌, true, false, List, [], ◌∷◌, ◌++◌, All, length, refl, sym, ap, ◌∙◌, subst, arith, get_or, take, drop, suc, append_assoc, append-nil, Some, None}
use Rattle.std.specs.Prelude.{bytes_eq}
use Rattle.std.specs.List.{remove}
use Rattle.std.proofs.lemmas.List.{drop_more}
use Rattle.std.proofs.Math.ListN.{drop_of_length-le}
use Rattle.std.proofs.Math.Seq.{take-suc}
use Rattle.std.proofs.lemmas.List.{take-append-drop}
use Rattle.std.proofs.lemmas.List.Elements.{All-append, All-drop, All-get_or, All-take}
use Rattle.ep_house.specs.declared.named.Kept.{Kept}
use Rattle.ep_house.specs.declared.named.Named.{Named}
use Rattle.ep_house.specs.Register.{found_in, without}
use Rattle.ep_house.specs.Named.{waits_of, cells_of, shared_id}

-- the values at one place are one
pub same_at : {A : Type 0} (l : List A) (i : ℕ) (x y : A) → i < length l → x ≡ get_or l i x → y ≡ get_or l i y → x ≡ y
same_at l i x y lt p q = p ∙ (ap (λ r. get_or r 0 x) (sym (drop_more l i x lt) ∙ drop_more l i y lt) ∙ sym q)

-- what is left from a place on
pub left_at : {A : Type 0} (l : List A) (i : ℕ) (x : A) → i < length l → x ≡ get_or l i x → drop i l ≡ x ∷ drop (i + 1) l
left_at l i x lt p = drop_more l i x lt ∙ ap (λ y. y ∷ drop (i + 1) l) (sym p)

pub taken_at : {A : Type 0} (l : List A) (i : ℕ) (x : A) → i < length l → x ≡ get_or l i x → take (i + 1) l ≡ take i l ++ x ∷ []
taken_at l i x lt p = let e : i + 1 ≡ suc i = omega arith in ap (λ n. take n l) e ∙ (take-suc l i x lt ∙ ap (λ y. take i l ++ y ∷ []) (sym p))

module _ {X : Type 0} (P : X → Type 0) where
  -- what holds of each holds of what stands at a place
  pub holds_at : (l : List X) (i : ℕ) (x : X) → i < length l → x ≡ get_or l i x → All P l → P x
  holds_at l i x lt is all = subst P (sym is) (All-get_or P l i x lt all)

  -- and of the others
  pub holds_without : (l : List X) (i : ℕ) → All P l → All P (remove l i)
  holds_without l i all = All-append P (take i l) (drop (suc i) l) (All-take P i l all) (All-drop P (suc i) l all)

module _ {W A : Type 0} (f : W → A) where
  pub waits-append : (xs ys : List (Kept W)) → waits_of f (xs ++ ys) ≡ waits_of f xs ++ waits_of f ys
  waits-append [] ys = refl
  waits-append (x ∷ xs) ys = ap (λ l. (x.name, f x.what) ∷ l) (waits-append xs ys)

  -- none before this place has the name
  abbrev pub Looked : ℕ → List (Kept W) → List ℕ → Type 0
  Looked at all name = (found_in (waits_of f all) name ≡ found_in (waits_of f (drop at all)) name)
      × (without (waits_of f all) name ≡ waits_of f (take at all) ++ without (waits_of f (drop at all)) name)

  past : (name : List ℕ) (x : Kept W) (r : List (Kept W)) → bytes_eq name x.name ≡ false
      → (found_in (waits_of f (x ∷ r)) name ≡ found_in (waits_of f r) name) × (without (waits_of f (x ∷ r)) name ≡ (x.name, f x.what) ∷ without (waits_of f r) name)
  past name x r e = (rw e refl, rw e refl)

  here : (name : List ℕ) (x : Kept W) (r : List (Kept W)) → bytes_eq name x.name ≡ true
      → (found_in (waits_of f (x ∷ r)) name ≡ Some (f x.what)) × (without (waits_of f (x ∷ r)) name ≡ waits_of f r)
  here name x r e = (rw e refl, rw e refl)

  pub looks_on : (all : List (Kept W)) (at : ℕ) (x : Kept W) (name : List ℕ) → at < length all → x ≡ get_or all at x → bytes_eq name x.name ≡ false → Looked at all name → Looked (at + 1) all name
  looks_on all at x name lt is differs l =
      let left = left_at all at x lt is in
      let p = past name x (drop (at + 1) all) differs in (
        l.0 ∙ (ap (λ r. found_in (waits_of f r) name) left ∙ p.0),
        l.1 ∙ (ap (λ r. waits_of f (take at all) ++ without (waits_of f r) name) left ∙ (ap (λ r. waits_of f (take at all) ++ r) p.1
            ∙ (sym (append_assoc (waits_of f (take at all)) ((x.name, f x.what) ∷ []) (without (waits_of f (drop (at + 1) all)) name))
            ∙ ap (λ r. r ++ without (waits_of f (drop (at + 1) all)) name) (sym (waits-append (take at all) (x ∷ [])) ∙ ap (waits_of f) (sym (taken_at all at x lt is)))))),
      )

  pub looks_here : (all : List (Kept W)) (at : ℕ) (x y : Kept W) (name : List ℕ) → at < length all → x ≡ get_or all at x → y ≡ get_or all at y → bytes_eq name x.name ≡ true → Looked at all name
      → (found_in (waits_of f all) name ≡ Some (f y.what)) × (waits_of f (remove all at) ≡ without (waits_of f all) name)
  looks_here all at x y name lt is too same l =
      let left = left_at all at x lt is in
      let h = here name x (drop (at + 1) all) same in (
        l.0 ∙ (ap (λ r. found_in (waits_of f r) name) left ∙ (h.0 ∙ ap (λ (k : Kept W). Some (f k.what)) (same_at all at x y lt is too))),
        (let e : suc at ≡ at + 1 = omega arith in ap (λ n. waits_of f (take at all ++ drop n all)) e) ∙ (waits-append (take at all) (drop (at + 1) all) ∙ sym (l.1 ∙ (ap (λ r. waits_of f (take at all) ++ without (waits_of f r) name) left ∙ ap (λ r. waits_of f (take at all) ++ r) h.1))),
      )

  pub looks_end : (all : List (Kept W)) (at : ℕ) (name : List ℕ) → length all ≤ at → Looked at all name
      → (found_in (waits_of f all) name ≡ None) × (waits_of f all ≡ without (waits_of f all) name)
  looks_end all at name le l =
      let none = drop_of_length-le all {i = at} le in (
        l.0 ∙ ap (λ r. found_in (waits_of f r) name) none,
        ap (waits_of f) (sym (take-append-drop at all) ∙ (ap (λ r. take at all ++ r) none ∙ append-nil (take at all))) ∙ sym (l.1 ∙ (ap (λ r. waits_of f (take at all) ++ without (waits_of f r) name) none ∙ append-nil (waits_of f (take at all)))),
      )

module _ {M E R : Type 0} where
  pub cell_past : (all : List (Named M E R)) (at : ℕ) (x : Named M E R) (name : List ℕ) → at < length all → x ≡ get_or all at x → bytes_eq name x.name ≡ false
      → found_in (cells_of all) name ≡ found_in (cells_of (drop at all)) name → found_in (cells_of all) name ≡ found_in (cells_of (drop (at + 1) all)) name
  cell_past all at x name lt is differs l = l ∙ (ap (λ r. found_in (cells_of r) name) (left_at all at x lt is) ∙ rw differs refl)

  pub cell_here : (all : List (Named M E R)) (at : ℕ) (x : Named M E R) (name : List ℕ) → at < length all → x ≡ get_or all at x → bytes_eq name x.name ≡ true
      → found_in (cells_of all) name ≡ found_in (cells_of (drop at all)) name → found_in (cells_of all) name ≡ Some (shared_id x.cell)
  cell_here all at x name lt is same l = l ∙ (ap (λ r. found_in (cells_of r) name) (left_at all at x lt is) ∙ rw same refl)

  pub cell_end : (all : List (Named M E R)) (at : ℕ) (name : List ℕ) → length all ≤ at → found_in (cells_of all) name ≡ found_in (cells_of (drop at all)) name → found_in (cells_of all) name ≡ None
  cell_end all at name le l = l ∙ ap (λ r. found_in (cells_of r) name) (drop_of_length-le all {i = at} le)

  pub cells-append : (xs ys : List (Named M E R)) → cells_of (xs ++ ys) ≡ cells_of xs ++ cells_of ys
  cells-append [] ys = refl
  cells-append (x ∷ xs) ys = ap (λ l. (x.name, shared_id x.cell) ∷ l) (cells-append xs ys)

  pub length-cells : (xs : List (Named M E R)) → length (cells_of xs) ≡ length xs
  length-cells [] = refl
  length-cells (x ∷ xs) = ap suc (length-cells xs)
