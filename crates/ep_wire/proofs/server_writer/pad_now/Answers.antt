use Rattle.std.proofs.Common.{[], ◌∷◌}
use Rattle.ep_wire.proofs.Glue.{glue}
use Rattle.ep_wire.proofs.server_writer.pad_now.Goals as goal

pub returns-clause-tokens : goal.returns-clause-tokens
returns-clause-tokens c =
    rw (c.in_ok-end-2.ensures, c.in_ok-whole-2.ensures, c.in_ok-whole.ensures, c.in_ok-end.ensures, c.in_ok-text.ensures, c.in_ok-attribs.ensures.tokens, c.in_ok-open.ensures)
    (glue c.args.out.now (_ ∷ _ ∷ _ ∷ _ ∷ _ ∷ _ ∷ _ ∷ _ ∷ _ ∷ []))
