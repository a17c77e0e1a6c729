use Rattle.std.proofs.Common.{◌&&◌, ◌==◌, nat_eq, codes, take, drop, sym, ap}
use Rattle.std.specs.List.{starts_with, list_all}
use Rattle.std.proofs.lemmas.Bool.{and_right}
use Rattle.std.proofs.lemmas.List.{get_or_past}
use Rattle.ep_units.specs.PadId.{is_alphanumeric}
use Rattle.ep_units.proofs.pad_id.has_group.Goals as goal

pub returns-then-id-le-GROUP_UNITS-clause-group : goal.returns-then-id-le-GROUP_UNITS-clause-group
returns-then-id-le-GROUP_UNITS-clause-group c =
    let id = c.args.id.now in
    sym (and_right (starts_with nat_eq id (codes "g.") && list_all is_alphanumeric (take 16 (drop 2 id))) _ (ap (λ u. u == 36) (get_or_past id 18 0 c.if-id-le-GROUP_UNITS.true)))
