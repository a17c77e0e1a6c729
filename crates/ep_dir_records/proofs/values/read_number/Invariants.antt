use Rattle.std.proofs.Common.{◌≡◌, drop}
use Rattle.ep_dir_records.specs.Values.{number_from}
use Rattle.ep_dir_records.proofs.values.read_number.Given as goal

abbrev pub invariant-loop-digit : goal.invariant-loop-digit
invariant-loop-digit l = number_from 0 l.digits ≡ number_from l.n (drop l.digit-index l.digits)
