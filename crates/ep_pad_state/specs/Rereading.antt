-- Records that are read back.
use Rattle.std.specs.Prelude.{◌≡◌, Bool, true, false, Option, Some, None, MatchOption}
use Rattle.ep_history.specs.Pad.{PadState}
use Rattle.ep_history.specs.Records.{IsNext, next_pad}
use Rattle.ep_history.specs.declared.record.Record.{Record}
use Rattle.ep_pad_state.specs.declared.change.PadChange.{PadChange}
use Rattle.ep_pad_state.specs.declared.pad.Pad.{Pad}
use Rattle.ep_pad_state.specs.Held.{IsPad}
use Rattle.ep_pad_state.specs.Making.{after, IsReady}

-- whether a record may come next: then the pad is the next one, and else it is as it was
abbrev pub IsReread : PadState → Record → Pad → Bool → Type 0
IsReread p r new true = IsNext p r × IsPad new (next_pad p r)
IsReread p r new false = (IsNext p r → ⊥) × IsPad new p

-- it stands for each pad that it stood for
abbrev pub StandsStill : Pad → Pad → Type 0
StandsStill old new = (p : PadState) → IsPad old p → IsPad new p

-- what a record makes of the pad, made ready, where it may come next; none where it may not
abbrev pub IsNextChange : Pad → Record → Option PadChange → Type 0
IsNextChange k r None = (p : PadState) → IsPad k p → IsNext p r → ⊥
IsNextChange k r (Some c) = IsReady k c × ((p : PadState) → IsPad k p → IsNext p r × (after c p ≡ next_pad p r))

-- a change where the last birth is there, and none where it is gone
abbrev pub WhereThere : Pad → PadChange → Option PadChange → Type 0
WhereThere k c o = MatchOption o ((p : PadState) → IsPad k p → p.present ≡ false) (λ d. (d ≡ c) × ((p : PadState) → IsPad k p → p.present ≡ true))
