use Rattle.std.proofs.Common.{arith, [], ◌∷◌}
use Rattle.json.specs.Token.{end_object}
use Rattle.ep_wire.proofs.Glue.{within}
use Rattle.ep_wire.proofs.Back.{reconnect_back}
use Rattle.ep_wire.proofs.server_writer.reconnect.Goals as goal

pub returns-clause-tokens : goal.returns-clause-tokens
returns-clause-tokens c =
    rw (c.in_ok-end_data.ensures, c.in_ok-word.ensures, c.in_ok-session-2.ensures, c.in_ok-whole-3.ensures, c.in_ok-whole-2.ensures, c.in_ok-whole.ensures, c.in_ok-session.ensures, c.in_ok-unheard.ensures.tokens, c.in_ok-begin_data.ensures)
    (within c.args.out.now _ (_ ∷ _ ∷ _ ∷ _ ∷ _ ∷ _ ∷ _ ∷ _ ∷ _ ∷ _ ∷ []) (end_object ∷ []) _)

pub returns-clause-back : goal.returns-clause-back
returns-clause-back c = reconnect_back c.args.back.current c.args.back.birth c.args.back.head c.args.back.rev c.args.change.now c.args.author.now c.args.session c.args.time c.in_ok-unheard.ensures.few (omega arith) (omega arith) (omega arith) (omega arith)
