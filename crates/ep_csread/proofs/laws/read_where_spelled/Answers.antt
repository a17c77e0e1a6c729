use Rattle.ep_csread.proofs.Spelled.{read_spells, spells_read, read_spells_text, spells_text_read}
use Rattle.ep_csread.proofs.laws.read_where_spelled.Goals as goal

pub returns-clause-text : goal.returns-clause-text
returns-clause-text c = λ pool text d. (read_spells pool text d, spells_read pool text d)

pub returns-clause-attribs : goal.returns-clause-attribs
returns-clause-attribs c = λ pool text attribs d. (read_spells_text pool text attribs d, spells_text_read pool text attribs d)
