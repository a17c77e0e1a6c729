use Rattle.std.proofs.Common.{◌≡◌, ◌-◌, []}
use Rattle.ep_fields.specs.Reading.{pairs_at}
use Rattle.ep_fields.proofs.reading.pairs_of.Given as goal

abbrev pub invariant-loop : goal.invariant-loop
invariant-loop l = pairs_at (l.count - l.counter) l.pool.pairs l.rest ≡ pairs_at l.count [] l.bytes
