-- What a pass made, as a session has it.
use Rattle.std.specs.Prelude.{ℕ, ◌≡◌, Bool, List, [], ◌∷◌, ◌++◌, Option, Some, None, Ok}
use Rattle.atomic_table.specs.Seated.{TableId}
use Rattle.ep_cell.specs.declared.view.Call.{Call}
use Rattle.ep_cell.specs.History.{calls_by, pairs}
use Rattle.ep_cell.specs.Passes.{Known}
use Rattle.ep_pad.specs.declared.wanted.Wanted.{Wanted}
use Rattle.ep_pad.specs.Halls.{Answer, want}

module _ {E R : Type 0} where
  -- the calls of a pass, in order
  abbrev pub own : Known E R → List (E × R)
  own v = pairs (calls_by v.number v.seen)

  -- what a pass has seen goes on, and its own calls among it are these
  pub record Goes (old new : Known E R) (calls : List (E × R)) : Type 0 where
    pub number : new.number ≡ old.number
    pub between : List (Call E R)
    pub seen : new.seen ≡ old.seen ++ between
    pub made : own new ≡ own old ++ calls

-- the calls of a pass that was taken, or none
abbrev pub own_of : {P E R : Type 0} → (P → Known E R) → Option P → List (E × R)
own_of known None = []
own_of known (Some p) = own (known p)

-- one pass was asked for, of this name, and was given, of this cell
abbrev pub IsGiven : List (Wanted × Answer) → List ℕ → TableId → Type 0
IsGiven calls name cell = (makes : Bool) × (calls ≡ (want name makes, Ok cell) ∷ [])

-- where both are there
abbrev pub IfBoth : {A B : Type 0} → Option A → Option B → (A → B → Type 0) → Type 0
IfBoth (Some a) (Some b) P = P a b
IfBoth None None P = Unit {0}
IfBoth a b P = ⊥
