use Rattle.ep_sign.proofs.Signed.{signed_names_no_other, signed_unit}
use Rattle.ep_sign.proofs.laws.signed_units_name_no_other.Goals as goal

pub returns-clause-author : goal.returns-clause-author
returns-clause-author c = signed_names_no_other

pub returns-clause-unit : goal.returns-clause-unit
returns-clause-unit c = signed_unit
