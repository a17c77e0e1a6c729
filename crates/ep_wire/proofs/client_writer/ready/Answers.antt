use Rattle.ep_wire.proofs.Back.{ready_back}
use Rattle.ep_wire.proofs.Ready.{ready_said}
use Rattle.ep_wire.proofs.client_writer.ready.Goals as goal

pub returns-clause-tokens : goal.returns-clause-tokens
returns-clause-tokens c =
    rw (c.in_ok-end.ensures, c.in_ok-word.ensures, c.in_ok-units-2.ensures, c.in_ok-sessions.ensures, c.in_ok-reconnect.ensures, c.in_ok-units.ensures, c.in_ok-resumed.ensures.tokens, c.in_ok-begin.ensures, c.as_slice.ensures)
    (ready_said c.args.out.now c.args.pad.now c.args.token.now c.args.ids.now c.args.resume.now)

pub returns-clause-back : goal.returns-clause-back
returns-clause-back c = ready_back c.args.pad.now c.args.token.now c.args.ids.now c.args.resume.now c.in_ok-resumed.ensures.fits
