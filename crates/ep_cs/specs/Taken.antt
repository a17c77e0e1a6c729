-- Working words of private contracts: where the builder's end is: what is left to take, and what is made, from the last to the first.
use Rattle.std.specs.Prelude.{◌≡◌, ℕ, ◌+◌, ◌<◌, ◌^◌, List, ◌++◌, reverse, length, drop}
use Rattle.ep_units.specs.Text.{Text}
use Rattle.ep_cs.specs.declared.op.Kind.{Kind}
use Rattle.ep_cs.specs.declared.op.Kind.TheVariants as kind
use Rattle.ep_cs.specs.declared.op.Op.{Op}
use Rattle.ep_cs.specs.Runs.{all_inserted}
use Rattle.ep_cs.specs.Written.{Front, front_of}
use Rattle.ep_cs.specs.Room.{HasRoom}

abbrev pub made : List Op → List Op → Front
made drops rest = record { drops = reverse drops; rest = reverse rest }

abbrev pub IsRoomy : Kind → Op → Text → Front → Type 0
IsRoomy kind.Keep o text f = HasRoom o (f.drops ++ f.rest)
IsRoomy kind.Drop o text f = HasRoom o f.drops
IsRoomy kind.Insert o text f = length text + all_inserted f.rest < 2 ^ 32

pub record Taken (ops : List Op) (bank : Text) (left drops rest : List Op) (used : ℕ) : Type 0 where
  pub taken : List Op
  pub whole : ops ≡ left ++ taken
  pub used_is : used ≡ all_inserted left
  pub is : made drops rest ≡ front_of taken (drop used bank)
