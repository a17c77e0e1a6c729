use Rattle.ep_wire.proofs.server_writer.of_revision.Goals as goal

pub returns-in-News-clause-tokens : goal.returns-in-News-clause-tokens
returns-in-News-clause-tokens c = rw c.in-News.is c.news.ensures.tokens

pub returns-in-News-clause-back : goal.returns-in-News-clause-back
returns-in-News-clause-back c = rw c.in-News.is c.news.ensures.back

pub returns-in-Reconnect-clause-tokens : goal.returns-in-Reconnect-clause-tokens
returns-in-Reconnect-clause-tokens c = rw c.in-Reconnect.is c.reconnect.ensures.tokens

pub returns-in-Reconnect-clause-back : goal.returns-in-Reconnect-clause-back
returns-in-Reconnect-clause-back c = rw c.in-Reconnect.is c.reconnect.ensures.back
