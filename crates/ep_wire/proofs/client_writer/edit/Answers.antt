use Rattle.std.proofs.Common.{arith, [], ◌∷◌}
use Rattle.json.specs.Token.{end_object}
use Rattle.ep_wire.proofs.Glue.{within}
use Rattle.ep_wire.proofs.Back.{edit_back}
use Rattle.ep_wire.proofs.client_writer.edit.Goals as goal

pub returns-clause-tokens : goal.returns-clause-tokens
returns-clause-tokens c =
    rw (c.in_ok-end_data.ensures, c.in_ok-word.ensures, c.in_ok-based.ensures.tokens, c.in_ok-begin_data.ensures)
    (within c.args.out.now _ (_ ∷ _ ∷ _ ∷ _ ∷ []) (end_object ∷ []) _)

pub returns-clause-back : goal.returns-clause-back
returns-clause-back c = edit_back c.args.base c.args.change.now c.in_ok-based.ensures.few (omega arith)
