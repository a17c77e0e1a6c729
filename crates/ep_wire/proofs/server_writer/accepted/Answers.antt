use Rattle.std.proofs.Common.{arith, [], ◌∷◌}
use Rattle.json.specs.Token.{end_object}
use Rattle.ep_wire.proofs.Glue.{within}
use Rattle.ep_wire.proofs.Back.{accepted_back}
use Rattle.ep_wire.proofs.server_writer.accepted.Goals as goal

pub returns-clause-tokens : goal.returns-clause-tokens
returns-clause-tokens c =
    rw (c.in_ok-end_data.ensures, c.in_ok-word.ensures, c.in_ok-session.ensures, c.in_ok-whole.ensures, c.in_ok-begin_data.ensures)
    (within c.args.out.now _ (_ ∷ _ ∷ _ ∷ []) (end_object ∷ []) _)

pub returns-clause-back : goal.returns-clause-back
returns-clause-back c = accepted_back c.args.rev c.args.session (omega arith)
