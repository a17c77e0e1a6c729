-- A source that is read to its end.
use Rattle.std.proofs.Common.{ℕ, List, [], ◌++◌, Option, Some, None, sym, ap, ◌∙◌, append_assoc, append-nil}
use Rattle.ep_outside.specs.Outside.{Gives, IsAtEnd, IsWhole}

-- what was read, and then more
pub gives_more : (a b c : Option (List ℕ)) (xs ys : List ℕ) → Gives a b xs → Gives b c ys → Gives a c (xs ++ ys)
gives_more None None None xs ys g h = tt
gives_more None None (Some c) xs ys g h = absurd h
gives_more None (Some b) c xs ys g h = absurd g
gives_more (Some a) None c xs ys g h = absurd g
gives_more (Some a) (Some b) None xs ys g h = absurd h
gives_more (Some a) (Some b) (Some c) xs ys g h = g ∙ (ap (λ (l : List ℕ). xs ++ l) h ∙ sym (append_assoc xs ys c))

pub gives_whole : (a b c : Option (List ℕ)) (xs : List ℕ) → Gives a b xs → IsAtEnd b → Gives b c [] → IsWhole a c xs
gives_whole None None None xs g e h = tt
gives_whole None None (Some c) xs g e h = absurd h
gives_whole None (Some b) c xs g e h = absurd g
gives_whole (Some a) None c xs g e h = absurd g
gives_whole (Some a) (Some b) None xs g e h = absurd h
gives_whole (Some a) (Some b) (Some c) xs g e h = (g ∙ (ap (λ (l : List ℕ). xs ++ l) e ∙ append-nil xs), sym h ∙ e)
