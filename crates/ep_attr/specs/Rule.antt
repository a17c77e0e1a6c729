-- Working words of private contracts: the value at a key by the values there in two maps, for each of the operations on maps.
use Rattle.std.specs.Prelude.{Option}
use Rattle.ep_units.specs.Text.{Text}
use Rattle.ep_attr.specs.AttrMap.{value_after, later_value, value_left}
use Rattle.ep_attr.specs.declared.walk.Rule.{Rule}
use Rattle.ep_attr.specs.declared.walk.Rule.TheVariants.{After, Join, Rest}

abbrev pub value_of : Rule → Option Text → Option Text → Option Text
value_of After = value_after
value_of Join = later_value
value_of Rest = value_left
