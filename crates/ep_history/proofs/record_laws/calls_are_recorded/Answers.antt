use Rattle.std.proofs.Common.{refl}
use Rattle.ep_history.proofs.Recorded.{accept-recorded, create-recorded, gone-present, set-recorded}
use Rattle.ep_history.proofs.record_laws.calls_are_recorded.Goals as goal

pub returns : goal.returns
returns c = record {
  accept = accept-recorded;
  create = create-recorded;
  set_text = set-recorded;
  delete = λ pad now h. (gone-present pad h, refl);
  set_public = λ pad on h. (gone-present pad h, refl);
}
