use Rattle.ep_pad_file.proofs.Standing.{record_in_bytes, is_record_in}
use Rattle.ep_pad_file.proofs.prepared.Prepared.new.Goals as goal

pub invariant_of-result : goal.invariant_of-result
invariant_of-result c = (is_record_in _ _ c.requires.bytes, c.requires.small)

pub returns : goal.returns
returns c = record_in_bytes _ _ c.requires.bytes
