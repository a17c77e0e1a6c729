use Rattle.std.proofs.Common.{refl}
use Rattle.ep_groups.specs.declared.entries.DirReply.TheVariants as said
use Rattle.ep_api.proofs.Desks.{asked_err, asked_ok, drawn_first, sits_after}
use Rattle.ep_api.proofs.directory.create_author.Goals as goal

pub returns-in-Ok-clause-does : goal.returns-in-Ok-clause-does
returns-in-Ok-clause-does g c = drawn_first _ _ c.draw-drawn.result _ _ _ _ _ c.draw-drawn.ensures
    (asked_ok _ _ _ _ said.Text _ c.in-Ok.id _ _ c.in-Ok.ensures.asks (refl, refl))

pub returns-in-Err-clause-does : goal.returns-in-Err-clause-does
returns-in-Err-clause-does g c = drawn_first _ _ c.draw-drawn.result _ _ _ _ _ c.draw-drawn.ensures
    (asked_err _ _ _ _ said.Text _ c.in-Err.why _ _ c.in-Err.ensures.asks c.of_dir.ensures)

pub returns-in-Ok-clause-sits : goal.returns-in-Ok-clause-sits
returns-in-Ok-clause-sits g c = sits_after _ _ _ _ _ _ _ said.Text _ c.requires.sits c.in-Ok.ensures.of c.in-Ok.ensures.asks

pub returns-in-Err-clause-sits : goal.returns-in-Err-clause-sits
returns-in-Err-clause-sits g c = sits_after _ _ _ _ _ _ _ said.Text _ c.requires.sits c.in-Err.ensures.of c.in-Err.ensures.asks
