use Rattle.std.proofs.Common.{arith, [], ◌∷◌}
use Rattle.json.specs.Token.{end_object}
use Rattle.ep_wire.proofs.Glue.{within}
use Rattle.ep_wire.proofs.Back.{vars_back}
use Rattle.ep_wire.proofs.server_writer.vars.Goals as goal

pub returns-clause-tokens : goal.returns-clause-tokens
returns-clause-tokens c =
    rw (c.in_ok-end_data.ensures, c.in_ok-units-2.ensures, c.in_ok-session.ensures, c.in_ok-flag.ensures, c.in_ok-units.ensures, c.in_ok-pad_now.ensures.tokens, c.in_ok-whole.ensures, c.in_ok-begin_data.ensures)
    (within c.args.out.now _ (_ ∷ _ ∷ _ ∷ _ ∷ _ ∷ _ ∷ []) (end_object ∷ []) _)

pub returns-clause-back : goal.returns-clause-back
returns-clause-back c = vars_back c.args.entry.pad.now c.args.entry.author.now c.args.entry.read_only c.args.entry.session c.args.entry.birth c.args.rev c.args.doc.now c.args.time c.in_ok-pad_now.ensures.few (omega arith) (omega arith) (omega arith)
