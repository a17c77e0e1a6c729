use Rattle.std.proofs.Common.{arith, [], ◌∷◌}
use Rattle.json.specs.Token.{end_object}
use Rattle.ep_wire.proofs.Back.{slid_back}
use Rattle.ep_wire.proofs.Glue.{within}
use Rattle.ep_wire.proofs.server_writer.slid.Goals as goal

pub returns-clause-tokens : goal.returns-clause-tokens
returns-clause-tokens c =
    rw (c.in_ok-end_data.ensures, c.in_ok-whole-4.ensures, c.in_ok-whole-3.ensures, c.in_ok-whole-2.ensures, c.in_ok-changesets.ensures.tokens, c.in_ok-whole.ensures, c.in_ok-begin_data.ensures)
    (within c.args.out.now _ (_ ∷ _ ∷ _ ∷ _ ∷ _ ∷ _ ∷ _ ∷ []) (end_object ∷ []) _)

pub returns-clause-back : goal.returns-clause-back
returns-clause-back c =
    slid_back c.args.start c.args.reached c.args.granularity c.args.request c.args.forward.now c.args.backward.now c.in_ok-changesets.ensures.few (omega arith) (omega arith) (omega arith) (omega arith)
