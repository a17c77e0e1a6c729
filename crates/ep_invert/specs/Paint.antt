-- Paintings: edits that set attributes on a stretch.
use Rattle.std.specs.Prelude.{ℕ, ◌+◌, ◌-◌, List, ◌++◌, replicate}
use Rattle.ep_attr.specs.AttrMap.{AttrMap}
use Rattle.ep_cs.specs.Edit.{Edit, Step, edit_of}
use Rattle.ep_cs.specs.Edit.Fate.{Keep}
use Rattle.ep_cs.specs.Edit.Step.{Pass}
use Rattle.ep_cs.specs.Splice.{kept}

-- so many places are kept with a map
abbrev pub paint_steps : ℕ → AttrMap → List Step
paint_steps n m = replicate n (Pass (Keep m))

-- of n units, those from a place on, so many of them, are kept with the map, and the others as they are
abbrev pub paint : ℕ → ℕ → ℕ → AttrMap → Edit
paint n at count m = edit_of (kept at ++ (paint_steps count m ++ kept (n - (at + count))))
