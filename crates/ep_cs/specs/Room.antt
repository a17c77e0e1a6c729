-- Working words of private contracts: room for a run before runs.
use Rattle.std.specs.Prelude.{◌≡◌, ◌+◌, ◌<◌, ◌^◌, true, List, [], ◌∷◌}
use Rattle.ep_cs.specs.declared.op.Op.{Op}
use Rattle.ep_cs.specs.Normal.{joins}

pub record AreCounted (o p : Op) : Type 0 where
  pub units : o.units + p.units < 2 ^ 32
  pub lines : o.lines + p.lines < 2 ^ 32

abbrev pub HasRoom : Op → List Op → Type 0
HasRoom o [] = Unit {0}
HasRoom o (p ∷ ps) = joins o p ≡ true → AreCounted o p
