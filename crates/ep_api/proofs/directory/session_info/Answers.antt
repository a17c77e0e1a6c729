use Rattle.std.proofs.Common.{refl}
use Rattle.ep_groups.specs.declared.entries.DirReply.TheVariants as said
use Rattle.ep_api.proofs.Desks.{asked_err, asked_ok, sits_after}
use Rattle.ep_api.proofs.directory.session_info.Goals as goal

pub returns-in-Ok-clause-does : goal.returns-in-Ok-clause-does
returns-in-Ok-clause-does g c = λ t. asked_ok _ _ _ _ said.Session _ c.in-Ok.info _ t c.in-Ok.ensures.asks (refl, refl)

pub returns-in-Err-clause-does : goal.returns-in-Err-clause-does
returns-in-Err-clause-does g c = λ t. asked_err _ _ _ _ said.Session _ c.in-Err.why _ t c.in-Err.ensures.asks c.of_dir.ensures

pub returns-in-Ok-clause-sits : goal.returns-in-Ok-clause-sits
returns-in-Ok-clause-sits g c = sits_after _ _ _ _ _ _ _ said.Session _ c.requires.sits c.in-Ok.ensures.of c.in-Ok.ensures.asks

pub returns-in-Err-clause-sits : goal.returns-in-Err-clause-sits
returns-in-Err-clause-sits g c = sits_after _ _ _ _ _ _ _ said.Session _ c.requires.sits c.in-Err.ensures.of c.in-Err.ensures.asks
