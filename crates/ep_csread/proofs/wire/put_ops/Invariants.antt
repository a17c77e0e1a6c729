use Rattle.std.proofs.Common.{◌≡◌, fold, take}
use Rattle.std.specs.List.{flat_map}
use Rattle.ep_pool.specs.Pool.{put}
use Rattle.ep_csread.proofs.wire.put_ops.Given as goal

abbrev pub invariant-loop-op : goal.invariant-loop-op
invariant-loop-op l = l.pool.pairs ≡ fold put l.initial.pool.pairs (flat_map (λ o. o.attrs.pairs) (take l.op-index l.ops))
