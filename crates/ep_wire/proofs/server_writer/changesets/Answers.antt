use Rattle.ep_wire.proofs.server_writer.changesets.Goals as goal

pub returns-clause-tokens : goal.returns-clause-tokens
returns-clause-tokens c =
    rw (c.in_ok-texts-2.ensures, c.in_ok-texts.ensures, c.in_ok-pool.ensures.tokens, c.split_at.ensures.back, c.split_at.ensures.front, c.deref.ensures.value, c.as_slice-turn.ensures, c.in_ok-wires.ensures.backward, c.in_ok-wires.ensures.forward, c.in_ok-wires.ensures.pool)

pub returns-clause-few : goal.returns-clause-few
returns-clause-few c = rw c.in_ok-wires.ensures.pool at c.in_ok-pool.ensures.few
