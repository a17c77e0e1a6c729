use Rattle.ep_csread.proofs.Spelled.{one_change, one_text_change}
use Rattle.ep_csread.proofs.laws.one_change_is_spelled.Goals as goal

pub returns-clause-text : goal.returns-clause-text
returns-clause-text c = λ pool text d e s t. one_change pool text d e s t

pub returns-clause-attribs : goal.returns-clause-attribs
returns-clause-attribs c = λ pool text attribs d e s t. one_text_change pool text attribs d e s t
