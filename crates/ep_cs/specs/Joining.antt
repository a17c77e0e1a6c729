-- Working words of private contracts: a run that is written as one with the first of the runs behind it.
use Rattle.std.specs.Prelude.{◌≡◌, true, List, [], ◌∷◌}
use Rattle.ep_cs.specs.declared.op.Op.{Op}
use Rattle.ep_cs.specs.Normal.{joins}
use Rattle.ep_cs.specs.Room.{AreCounted}

-- they are joined, and their units and newlines can be counted together
abbrev pub JoinsFirst : Op → List Op → Type 0
JoinsFirst o [] = ⊥
JoinsFirst o (p ∷ ps) = (joins o p ≡ true) × AreCounted o p
