-- What contracts see of a house.
use Rattle.ep_outside.specs.declared.limits.Limits.{Limits}
use Rattle.ep_house.specs.Pads as pads
use Rattle.ep_pad_port.specs.declared.house.HouseOf.{HouseOf}

module _ {H P K D E R : Type 0} {s : _} {t : _} {d : _} {e : _} {p : _} where
  -- what the pads are held to
  abbrev pub limits_of : HouseOf H P K D E R s t d e p → Limits
  limits_of house = pads.limits_of house.pads
