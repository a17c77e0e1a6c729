use Rattle.ep_editor.proofs.Keeping.{kept-goes-on}
use Rattle.ep_editor.proofs.laws.what_is_kept_goes_on.Goals as goal

pub returns : goal.returns
returns c = kept-goes-on
