use Rattle.ep_wire.proofs.server_writer.message.Goals as goal

pub returns-in-Vars-clause-tokens : goal.returns-in-Vars-clause-tokens
returns-in-Vars-clause-tokens c = rw c.in-Vars.is c.vars.ensures.tokens

pub returns-in-Vars-clause-back : goal.returns-in-Vars-clause-back
returns-in-Vars-clause-back c = rw c.in-Vars.is c.vars.ensures.back

pub returns-in-Slid-clause-tokens : goal.returns-in-Slid-clause-tokens
returns-in-Slid-clause-tokens c = rw c.in-Slid.is c.slid.ensures.tokens

pub returns-in-Slid-clause-back : goal.returns-in-Slid-clause-back
returns-in-Slid-clause-back c = rw c.in-Slid.is c.slid.ensures.back
