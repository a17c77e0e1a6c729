use Rattle.std.proofs.Common.{arith}
use Rattle.ep_house.specs.Named.{IsWithin}
use Rattle.ep_house.proofs.Finding.{holds_at}
use Rattle.ep_house.proofs.named.find.Goals as goal

pub returns-then-is_same-clause-within : goal.returns-then-is_same-clause-within
returns-then-is_same-clause-within g c = λ limits_of limits all. holds_at (λ n. IsWithin limits_of limits n.cell) c.args.cells.now c.loop-named.named-index _ (omega arith) c.named-item.is all
