use Rattle.std.proofs.Common.{◌∙◌, ◌++◌, ◌∷◌, [], ap, sym, refl}
use Rattle.ep_cell.specs.Passes.{first_of, id_of}
use Rattle.ep_house.specs.Register.{in_cell}
use Rattle.ep_house.specs.Named.{cells_of, shared_id, wait_of, waits_of}
use Rattle.ep_house.proofs.Finding.{cells-append, waits-append}
use Rattle.ep_house.proofs.registry.Registry.place.Goals as goal

pub returns-in-Ok-clause-within : goal.returns-in-Ok-clause-within
returns-in-Ok-clause-within g c = ap (λ t. g.P.PadOver.limits_of (first_of t)) c.in-Ok.ensures ∙ c.requires.within

pub returns-in-Ok-clause-places : goal.returns-in-Ok-clause-places
returns-in-Ok-clause-places g c =
    let same = ap id_of c.in-Ok.ensures in
    (refl, refl, ap cells_of c.push_reserved.ensures.items ∙ (cells-append c.args.self.now.cells.items _ ∙ ap (λ t. cells_of c.args.self.now.cells.items ++ (c.args.name, t) ∷ []) (sym same)), refl, same)

pub returns-in-Err-clause-places : goal.returns-in-Err-clause-places
returns-in-Err-clause-places g c = (refl, refl, refl, (in_cell (shared_id c.args.cell), ap (waits_of wait_of) c.push_reserved-in-Err.ensures.items ∙ waits-append wait_of c.args.self.now.kept.items _, refl))
