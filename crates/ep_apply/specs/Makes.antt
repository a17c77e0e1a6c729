-- Working words of private contracts: what a run makes of a document.
use Rattle.std.specs.Prelude.{List, [], map}
use Rattle.ep_units.specs.Text.{Text}
use Rattle.ep_attr.specs.AttrMap.{AttrMap}
use Rattle.ep_cs.specs.Doc.{Cell, painted}
use Rattle.ep_cs.specs.Runs.{cells}
use Rattle.ep_cs.specs.declared.op.Kind.{Kind}
use Rattle.ep_cs.specs.declared.op.Kind.TheVariants as kind

-- what a run makes of the cells that it passes
abbrev pub run_makes : Kind → AttrMap → Text → List Cell → List Cell
run_makes kind.Keep m text cs = map (λ c. painted c m) cs
run_makes kind.Drop m text cs = []
run_makes kind.Insert m text cs = cells m text
