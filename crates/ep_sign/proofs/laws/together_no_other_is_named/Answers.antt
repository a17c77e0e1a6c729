use Rattle.ep_sign.proofs.Steps.{pieces_signed, nothing_names_another}
use Rattle.ep_sign.proofs.laws.together_no_other_is_named.Goals as goal

pub returns-clause-pieces : goal.returns-clause-pieces
returns-clause-pieces c = pieces_signed

pub returns-clause-other : goal.returns-clause-other
returns-clause-other c = nothing_names_another
