use Rattle.ep_http.proofs.OneSource.{one_source, read_ends, refused_ends}
use Rattle.ep_http.proofs.laws.a_source_has_one_answer.Goals as goal

pub returns-clause-one : goal.returns-clause-one
returns-clause-one c = one_source

pub returns-clause-read : goal.returns-clause-read
returns-clause-read c = read_ends

pub returns-clause-refused : goal.returns-clause-refused
returns-clause-refused c = refused_ends
