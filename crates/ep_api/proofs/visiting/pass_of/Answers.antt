use Rattle.ep_api.proofs.visiting.pass_of.Goals as goal

pub returns-in-Err-clause-none : goal.returns-in-Err-clause-none
returns-in-Err-clause-none g c = (c.in-Err.why, c.in-Err.ensures.none, c.of_pass.ensures)
