-- Working words of private contracts: how two lists of operations are told to be the same.
use Rattle.std.specs.Prelude.{Bool, true, false, ◌&&◌, ◌==◌, List, [], ◌∷◌}
use Rattle.ep_attr.specs.AttrMap.{same_map}
use Rattle.ep_cs.specs.declared.op.Op.{Op}
use Rattle.ep_cs.specs.Normal.{same_kind}

-- the same operation
abbrev pub same_op : Op → Op → Bool
same_op o p = same_kind o.kind p.kind && ((o.units == p.units) && ((o.lines == p.lines) && same_map o.attrs p.attrs))

-- the same operations
abbrev pub same_ops : List Op → List Op → Bool
same_ops [] [] = true
same_ops [] (p ∷ ps) = false
same_ops (o ∷ os) [] = false
same_ops (o ∷ os) (p ∷ ps) = same_op o p && same_ops os ps
