use Rattle.std.proofs.Common.{arith, [], ◌∷◌}
use Rattle.json.specs.Token.{end_object}
use Rattle.ep_wire.proofs.Glue.{within}
use Rattle.ep_wire.proofs.Back.{none_back}
use Rattle.ep_wire.proofs.server_writer.reconnect_none.Goals as goal

pub returns-clause-tokens : goal.returns-clause-tokens
returns-clause-tokens c =
    rw (c.in_ok-end_data.ensures, c.in_ok-word.ensures, c.in_ok-flag.ensures, c.in_ok-whole-3.ensures, c.in_ok-whole-2.ensures, c.in_ok-session.ensures, c.in_ok-whole.ensures, c.in_ok-begin_data.ensures)
    (within c.args.out.now _ (_ ∷ _ ∷ _ ∷ _ ∷ _ ∷ _ ∷ []) (end_object ∷ []) _)

pub returns-clause-back : goal.returns-clause-back
returns-clause-back c = none_back c.args.current c.args.birth c.args.head c.args.rev (omega arith) (omega arith) (omega arith)
