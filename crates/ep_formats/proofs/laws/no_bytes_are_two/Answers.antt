use Rattle.ep_formats.proofs.Again.{same_record, same_records}
use Rattle.ep_formats.proofs.laws.no_bytes_are_two.Goals as goal

pub returns-clause-one : goal.returns-clause-one
returns-clause-one c = same_record

pub returns-clause-lists : goal.returns-clause-lists
returns-clause-lists c = same_records
