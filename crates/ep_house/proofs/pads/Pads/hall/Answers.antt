use Rattle.std.proofs.Common.{◌∙◌, ap, sym, subst}
use Rattle.ep_cell.specs.Passes.{first, known, seen}
use Rattle.ep_house.specs.Register.{IsLegal}
use Rattle.ep_house.specs.Named.{shared_id}
use Rattle.ep_house.specs.Registry.{register}
use Rattle.ep_house.proofs.Halls.{answers_told, fresh_told}
use Rattle.ep_house.proofs.pads.Pads.hall.Goals as goal

pub returns-clause-fresh : goal.returns-clause-fresh
returns-clause-fresh g c = fresh_told shared_id (known c.new_pass.result) c.new_pass.ensures.fresh

pub returns-clause-legal : goal.returns-clause-legal
returns-clause-legal g c =
    let within = ap (λ r. r.limits.pads) c.new_pass.ensures.first ∙ ap (λ l. l.pads) c.args.self.now.begun in
    subst (IsLegal g.H.Device.failures g.H.Shelf.names g.H.Shelf.told g.H.D.Device.failures g.H.D.Disk.told c.args.self.now.limits.pads) (sym (answers_told shared_id (seen c.new_pass.result)))
    (register (first c.new_pass.result), within, c.new_pass.ensures.legal.0)
