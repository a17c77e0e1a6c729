-- How much more was read of a disk.
use Rattle.std.proofs.Common.{◌≡◌, ℕ, ◌+◌, ◌-◌, ◌^◌, ◌≤◌, min, max, List, length, drop, Option, Some, None, Result, Ok, Err, ap, subst, arith, length-append}
use Rattle.ep_outside.specs.Disk.{Contents, GivesMore}
use Rattle.ep_outside.specs.declared.source.Failed.{Failed}
use Rattle.ep_journal.specs.File.{records_of, records_from, gates_of}
use Rattle.ep_journal.specs.Reads.{bytes_of}
use Rattle.ep_journal.specs.Walking.{Walks, IsWalked}
use Rattle.ep_journal.proofs.File.{length-gates}

pub none_read : (before now : Option ℕ) → now ≡ before → bytes_of now ≤ bytes_of before
none_read before now same = let e : bytes_of now ≡ bytes_of before = ap bytes_of same in omega arith

pub at_most : {T : Type 0} (before now : Option ℕ) (n : ℕ) (r : Result T Failed) → GivesMore before now n r → bytes_of now ≤ bytes_of before + n
at_most None now n (Ok u) gives = let e : bytes_of now ≡ 0 = ap bytes_of gives in omega arith
at_most (Some m) now n (Ok u) gives = let e : bytes_of now ≡ max m (min (m + n) (2 ^ 64 - 1)) = ap bytes_of gives in omega arith
at_most before now n (Err e) same = let e : bytes_of now ≡ bytes_of before = ap bytes_of same in omega arith

-- so many gates at most were met
pub few_gates : (told : Option Contents) (c : Contents) (total : ℕ) (gates : List ℕ) (gate : ℕ) → told ≡ Some c → total ≡ length c.seen → Walks told total gates gate → length gates ≤ length (records_of c.seen)
few_gates told c total gates gate is long walks =
    let w : IsWalked c.seen gates gate = subst (λ (o : Option Contents). Walks o total gates gate) is walks long in
    omega (arith, ap length w.met, length-append gates (gates_of gate (records_from 0 (drop gate c.seen))), length-gates 8 (records_of c.seen))
