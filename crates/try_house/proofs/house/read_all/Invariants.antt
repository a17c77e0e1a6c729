use Rattle.try_house.proofs.house.read_all.Given as goal

abbrev pub invariant-rows : goal.invariant-rows
invariant-rows g l = g.P.PadPort.is_hall l.port l.hall
