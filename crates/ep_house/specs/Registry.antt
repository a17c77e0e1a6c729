-- What a registry stands for.
use Rattle.ep_outside.specs.declared.limits.Limits.{Limits}
use Rattle.ep_house.specs.declared.registry.Registry.{Registry}
use Rattle.ep_house.specs.Register.{Register}
use Rattle.ep_house.specs.Named.{cells_of, waits_of, wait_of}

abbrev pub register : {H P D E R : Type 0} {s : _} {t : _} {d : _} {e : _} {p : _} → Registry H P D E R s t d e p → Register H D
register r = record { limit = r.limits.pads; shelf = r.shelf; cells = cells_of r.cells.items; waiting = waits_of wait_of r.kept.items }

-- to what it holds each pad
abbrev pub held_to : {H P D E R : Type 0} {s : _} {t : _} {d : _} {e : _} {p : _} → Registry H P D E R s t d e p → Limits
held_to r = r.limits
