-- The first of what a test finds.
use Rattle.std.proofs.Common.{◌≡◌, ℕ, ◌+◌, ◌<◌, Bool, true, false, cond, List, [], ◌∷◌, ◌++◌, length, get_or, drop, Option, Some, None, refl, sym, ap, ◌∙◌}
use Rattle.std.specs.List.{flat_map}
use Rattle.std.proofs.lemmas.List.{drop_more}
use Rattle.std.proofs.lemmas.List.Concat.{flat_map-cons}
use Rattle.ep_csread.specs.declared.written.Number.{Number}
use Rattle.ep_csread.specs.declared.written.WrittenOp.{WrittenOp}
use Rattle.ep_csread.specs.Syntax.{Operation}
use Rattle.ep_csread.specs.Reading.{first_such}
use Rattle.ep_csread.specs.Views.{op_view, op_views}

pub found_first : {A : Type 0} (test : A → Bool) (a b : List A) (x : A) → first_such test a ≡ Some x → first_such test (a ++ b) ≡ Some x
found_first test [] b x e = absurd cc
found_first test (y ∷ a) b x e = go (λ e. found_first test a b x e) (test y) e
  where
    go : (first_such test a ≡ Some x → first_such test (a ++ b) ≡ Some x) → (c : Bool) → cond c (Some y) (first_such test a) ≡ Some x → cond c (Some y) (first_such test (a ++ b)) ≡ Some x
    go again true e = e
    go again false e = again e

pub none_first : {A : Type 0} (test : A → Bool) (a b : List A) → first_such test a ≡ None → first_such test (a ++ b) ≡ first_such test b
none_first test [] b e = refl
none_first test (y ∷ a) b e = go (λ e. none_first test a b e) (test y) e
  where
    go : (first_such test a ≡ None → first_such test (a ++ b) ≡ first_such test b) → (c : Bool) → cond c (Some y) (first_such test a) ≡ None → cond c (Some y) (first_such test (a ++ b)) ≡ first_such test b
    go again true e = absurd cc
    go again false e = again e

-- the next operation of a walk
pub next_op : (numbers : Operation → List Number) (ops : List WrittenOp) (i : ℕ) (o : WrittenOp) → i < length ops → o ≡ get_or ops i o
    → flat_map numbers (op_views (drop i ops)) ≡ numbers (op_view o) ++ flat_map numbers (op_views (drop (i + 1) ops))
next_op numbers ops i o h e =
    ap (λ os. flat_map numbers (op_views os)) (drop_more ops i o h ∙ ap (λ p. p ∷ drop (i + 1) ops) (sym e)) ∙ flat_map-cons numbers (op_view o) (op_views (drop (i + 1) ops))

pub walk_found : (test : Number → Bool) (numbers : Operation → List Number) (ops : List WrittenOp) (i : ℕ) (o : WrittenOp) (x : Number) (all : Option Number) → i < length ops → o ≡ get_or ops i o
    → first_such test (flat_map numbers (op_views (drop i ops))) ≡ all → Some x ≡ first_such test (numbers (op_view o)) → Some x ≡ all
walk_found test numbers ops i o x all h e so_far found =
    sym (found_first test (numbers (op_view o)) (flat_map numbers (op_views (drop (i + 1) ops))) x (sym found)) ∙ sym (ap (first_such test) (next_op numbers ops i o h e)) ∙ so_far

pub walk_on : (test : Number → Bool) (numbers : Operation → List Number) (ops : List WrittenOp) (i : ℕ) (o : WrittenOp) (all : Option Number) → i < length ops → o ≡ get_or ops i o
    → first_such test (flat_map numbers (op_views (drop i ops))) ≡ all → None ≡ first_such test (numbers (op_view o)) → first_such test (flat_map numbers (op_views (drop (i + 1) ops))) ≡ all
walk_on test numbers ops i o all h e so_far none =
    sym (none_first test (numbers (op_view o)) (flat_map numbers (op_views (drop (i + 1) ops))) (sym none)) ∙ sym (ap (first_such test) (next_op numbers ops i o h e)) ∙ so_far
