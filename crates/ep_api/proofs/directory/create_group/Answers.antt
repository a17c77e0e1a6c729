use Rattle.std.proofs.Common.{refl, inl}
use Rattle.ep_groups.specs.declared.entries.DirReply.TheVariants as said
use Rattle.ep_api.proofs.Desks.{asked_err, asked_ok, drawn_first}
use Rattle.ep_api.proofs.directory.create_group.Goals as goal

pub returns-in-Ok-clause-does : goal.returns-in-Ok-clause-does
returns-in-Ok-clause-does g c = drawn_first _ _ c.draw-drawn.result _ _ _ _ _ c.draw-drawn.ensures
    (asked_ok _ _ _ _ said.Text _ c.in-Ok.id _ _ (inl c.in-Ok.ensures.asks) (refl, refl))

pub returns-in-Err-clause-does : goal.returns-in-Err-clause-does
returns-in-Err-clause-does g c = drawn_first _ _ c.draw-drawn.result _ _ _ _ _ c.draw-drawn.ensures
    (asked_err _ _ _ _ said.Text _ c.in-Err.why _ _ (inl c.in-Err.ensures.asks) c.of_dir.ensures)
