-- What a hall knows of the pads of a server: which names were asked for, by who makes an absent pad or doesn't, and which cell each was answered, or why none.
use Rattle.std.specs.Prelude.{ℕ, ◌≡◌, ◌⊎◌, ◌<◌, Bool, bytes_eq, if◌then◌else◌, IfErr, List, [], ◌∷◌, ◌++◌, length, Option, Some, None, Result, Ok, Err}
use Rattle.atomic_table.specs.Seated.{TableId}
use Rattle.ep_cell.specs.History.{Extends, call, calls_by, pairs}
use Rattle.ep_cell.specs.Passes.{Known}
use Rattle.ep_pad.specs.declared.wanted.Wanted.{Wanted}
use Rattle.ep_pad.specs.declared.pass_bad.PassBad.{PassBad}
use Rattle.ep_pad.specs.declared.pass_bad.PassBad.TheVariants as bad

-- a name, by who makes an absent pad or doesn't
abbrev pub want : List ℕ → Bool → Wanted
want name makes = record { name = name; makes = makes }

-- which cell, or why none
abbrev pub Answer : Type 0
Answer = Result TableId PassBad

-- what is told of an answer, by the cell's id
abbrev pub told_of : {C : Type 0} → (C → TableId) → Result C PassBad → Answer
told_of id (Ok c) = Ok (id c)
told_of id (Err e) = Err e

abbrev pub or_cell : Answer → Option TableId → Option TableId
or_cell (Ok id) rest = Some id
or_cell (Err e) rest = rest

-- the first cell that a name was answered
abbrev pub cell_in : List (Wanted × Answer) → List ℕ → Option TableId
cell_in [] name = None
cell_in (c ∷ cs) name = if bytes_eq name c.0.name then or_cell c.1 (cell_in cs name) else cell_in cs name

-- a pad that is told to be absent was answered no cell before
abbrev pub IsUnmade : {C : Type 0} → Result C PassBad → List (Wanted × Answer) → List ℕ → Type 0
IsUnmade r calls name = IfErr r (λ why. why ≡ bad.Absent → cell_in calls name ≡ None)

-- A hall's call: what it has seen goes on and ends with this name and its answer, which is the one more of its own, and is legal
pub record Notes (Legal : List (Wanted × Answer) → Type 0) (v : Known Wanted Answer) (wanted : Wanted) (r : Answer) (w : Known Wanted Answer) : Type 0 where
  pub extends : Extends v.seen (call v.number wanted r) w.seen
  pub own : calls_by v.number w.seen ≡ calls_by v.number v.seen ++ call v.number wanted r ∷ []
  pub behind : v.floor < length w.seen
  pub number : w.number ≡ v.number
  pub legal : Legal (pairs w.seen)

-- or no memory was found before the call, and nothing changed
abbrev pub NotesOrNone : (List (Wanted × Answer) → Type 0) → Known Wanted Answer → Wanted → Answer → Known Wanted Answer → Type 0
NotesOrNone Legal v wanted r w = Notes Legal v wanted r w ⊎ ((r ≡ Err bad.NoMemory) × (w ≡ v))
