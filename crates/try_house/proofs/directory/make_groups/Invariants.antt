use Rattle.try_house.proofs.directory.make_groups.Given as goal

abbrev pub invariant-loop : goal.invariant-loop
invariant-loop g l = g.P.DirPort.is_of l.port l.pass
