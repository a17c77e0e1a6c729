-- Records that are read back in their order.
use Rattle.std.proofs.Common.{◌≡◌, ℕ, zero, suc, ◌+◌, Bool, true, false, List, [], ◌∷◌, take, Option, Some, refl, ap, ◌∙◌, subst, arith}
use Rattle.ep_outside.specs.Disk.{KeepsMarks}
use Rattle.ep_history.specs.Lists.{at}
use Rattle.ep_history.specs.Pad.{PadState}
use Rattle.ep_history.specs.Records.{AreNext, IsNext, next_pad, told_from}
use Rattle.ep_history.specs.declared.record.Record.{Record}
use Rattle.ep_history.proofs.Lists.{none_some, some_same, take-next}
use Rattle.ep_history.proofs.Recorded.{told-more}
use Rattle.ep_pad_state.specs.Held.{IsPad}
use Rattle.ep_pad_state.specs.Rereading.{IsReread}
use Rattle.ep_pad_state.specs.declared.pad.Pad.{Pad}

-- of a legal list each may come behind those before it
pub next-at : (pad : PadState) (rs : List Record) (i : ℕ) (r : Record) → AreNext pad rs → at rs i ≡ Some r → IsNext (told_from pad (take i rs)) r
next-at pad [] i r n is = none_some is
next-at pad (q ∷ rs) zero r n is = subst (IsNext pad) (some_same is) n.0
next-at pad (q ∷ rs) (suc i) r n is = next-at (next_pad pad q) rs i r n.1 is

pub told-at : (pad : PadState) (rs : List Record) (i : ℕ) (r : Record) → at rs i ≡ Some r → told_from pad (take (i + 1) rs) ≡ next_pad (told_from pad (take i rs)) r
told-at pad rs i r is =
    let more : i + 1 ≡ suc i = omega arith in
    ap (λ n. told_from pad (take n rs)) more ∙ ap (told_from pad) (take-next rs i r is) ∙ told-more pad (take i rs) r

-- a record that may come next was taken in
pub never-false : (p : PadState) (r : Record) (new : Pad) (b : Bool) → IsReread p r new b → IsNext p r → b ≡ true
never-false p r new true h n = refl
never-false p r new false h n = absurd (h.0 n)

pub taken-in : (p : PadState) (r : Record) (new : Pad) (b : Bool) → IsReread p r new b → IsNext p r → IsPad new (next_pad p r)
taken-in p r new true h n = h.1
taken-in p r new false h n = absurd (h.0 n)

-- the marks of a disk stay through one call more
pub marks-on : {D : Type 0} {is_steady stops_alone : D → Bool} {left : D → Option ℕ} {old mid new : D} → KeepsMarks is_steady stops_alone left old mid
    → KeepsMarks is_steady stops_alone left mid new → KeepsMarks is_steady stops_alone left old new
marks-on a b = record { steady = b.steady ∙ a.steady; alone = b.alone ∙ a.alone; unstopped = λ none. b.unstopped (a.unstopped none) }
