use Rattle.std.proofs.Common.{refl, inl}
use Rattle.ep_groups.specs.declared.entries.DirReply.TheVariants as said
use Rattle.ep_api.proofs.Desks.{asked_err, asked_ok}
use Rattle.ep_api.proofs.directory.list_groups.Goals as goal

pub returns-in-Ok-clause-does : goal.returns-in-Ok-clause-does
returns-in-Ok-clause-does g c = λ t. asked_ok _ _ _ _ said.Texts _ c.in-Ok.ids _ t (inl c.in-Ok.ensures.asks) (refl, refl)

pub returns-in-Err-clause-does : goal.returns-in-Err-clause-does
returns-in-Err-clause-does g c = λ t. asked_err _ _ _ _ said.Texts _ c.in-Err.why _ t (inl c.in-Err.ensures.asks) c.of_dir.ensures
