use Rattle.std.proofs.Common.{◌∙◌, ap}
use Rattle.ep_cell.proofs.Calling.{kept_head, made_it}
use Rattle.ep_cell.proofs.cell.Cell.make.Goals as goal

pub exchange-machine-requires : goal.exchange-machine-requires
exchange-machine-requires g c = let e = c.exchange-held.ensures in let p = ap (λ m. m.1) e.3 in (e.0 ∙ c.requires.of, (_, kept_head _ _ _ p))

pub returns-clause-made : goal.returns-clause-made
returns-clause-made g c =
    made_it g.M.Machine.stands g.M.Machine.legal g.met.M.Machine.stands_legal _ _ _ _ _ _ _ _ _ _ _ c.requires.has c.exchange-held.ensures.2 c.exchange-held.ensures.3 c.exchange-machine.ensures.3 c.in-Some.is c.call-reply.ensures c.of-asked.ensures c.of.ensures
