-- Reading pairs one after the other, as a loop does.
use Rattle.std.proofs.Common.{◌≡◌, ℕ, suc, ◌-◌, ◌+◌, ◌≤◌, ◌<◌, List, Option, Some, None, refl, sym, ◌∙◌, arith}
use Rattle.ep_attr.specs.AttrMap.{Pair}
use Rattle.ep_pool.specs.Pool.{put}
use Rattle.ep_fields.specs.declared.fault.Fault.{Fault}
use Rattle.ep_fields.specs.declared.fault.Fault.TheVariants.{Memory, NoRecord}
use Rattle.ep_fields.specs.Reading.{Fails, pair_at, pairs_at}

pub goes_on : (ps : List Pair) (count i : ℕ) (bytes : List ℕ) (p : Pair) (after : List ℕ) (total : Option (List Pair × List ℕ)) → i < count → pair_at bytes ≡ Some (p, after)
    → pairs_at (count - i) ps bytes ≡ total → pairs_at (count - (i + 1)) (put ps p) after ≡ total
unfolding pairs_at
goes_on ps count i bytes p after total lt h so_far =
    let k : count - i ≡ suc (count - (i + 1)) = omega arith in
    let one : pairs_at (count - i) ps bytes ≡ pairs_at (count - (i + 1)) (put ps p) after = rw (k, h) refl in
    sym one ∙ so_far

pub ends : (e : Fault) (ps : List Pair) (count i : ℕ) (bytes : List ℕ) (total : Option (List Pair × List ℕ)) → i < count → Fails e (pair_at bytes)
    → pairs_at (count - i) ps bytes ≡ total → Fails e total
unfolding pairs_at
ends Memory ps count i bytes total lt h so_far = tt
ends NoRecord ps count i bytes total lt h so_far =
    let k : count - i ≡ suc (count - (i + 1)) = omega arith in
    let one : pairs_at (count - i) ps bytes ≡ None = rw (k, h) refl in
    sym so_far ∙ one

pub is_done : (ps : List Pair) (count i : ℕ) (bytes : List ℕ) (total : Option (List Pair × List ℕ)) → count ≤ i → pairs_at (count - i) ps bytes ≡ total → total ≡ Some (ps, bytes)
unfolding pairs_at
is_done ps count i bytes total le so_far =
    let k : count - i ≡ 0 = omega arith in
    let one : pairs_at (count - i) ps bytes ≡ Some (ps, bytes) = rw k refl in
    sym so_far ∙ one
