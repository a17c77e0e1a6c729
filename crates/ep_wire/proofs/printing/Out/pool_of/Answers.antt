use Rattle.std.proofs.Common.{[], ◌∷◌}
use Rattle.ep_wire.proofs.Glue.{glue}
use Rattle.ep_wire.proofs.printing.Out.pool_of.Goals as goal

pub returns : goal.returns
returns c =
    rw (c.in_ok-end.ensures, c.in_ok-entries.ensures, c.in_ok-begin.ensures, c.in_ok-put-2.ensures, c.in_ok-number.ensures, c.in_ok-put.ensures, c.in_ok-open.ensures)
    (glue c.args.self.now (_ ∷ _ ∷ _ ∷ _ ∷ _ ∷ _ ∷ _ ∷ []))
