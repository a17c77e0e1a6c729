use Rattle.std.proofs.Common.{◌∙◌, sym}
use Rattle.ep_pad_file.proofs.Standing.{records_are, one_list}
use Rattle.ep_pad_file.proofs.laws.files_stand_for_one_list.Goals as goal

pub returns : goal.returns
returns c = λ rs qs file s q. one_list c.no_bytes_are_two.ensures.one rs qs s.records q.records (sym (records_are rs file s) ∙ records_are qs file q)
