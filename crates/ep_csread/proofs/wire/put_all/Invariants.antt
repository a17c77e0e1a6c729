use Rattle.std.proofs.Common.{◌≡◌, fold, take}
use Rattle.ep_attr.specs.Attrs.{pairs_of}
use Rattle.ep_pool.specs.Pool.{put}
use Rattle.ep_csread.proofs.wire.put_all.Given as goal

abbrev pub invariant-loop-attr : goal.invariant-loop-attr
invariant-loop-attr l = l.pool.pairs ≡ fold put l.initial.pool.pairs (pairs_of (take l.attr-index l.attrs))
