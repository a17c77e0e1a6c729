use Rattle.ep_wire.proofs.server_writer.unheard.Goals as goal

pub returns-clause-tokens : goal.returns-clause-tokens
returns-clause-tokens c = rw (c.in_ok-units-2.ensures, c.in_ok-whole.ensures, c.in_ok-units.ensures, c.in_ok-pool.ensures.tokens, c.in_ok-wire.ensures.text, c.in_ok-wire.ensures.pool)

pub returns-clause-few : goal.returns-clause-few
returns-clause-few c = rw c.in_ok-wire.ensures.pool at c.in_ok-pool.ensures.few
