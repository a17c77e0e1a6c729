-- Which revision may stand behind others.
use Rattle.std.specs.Prelude.{ℕ, List, [], ◌∷◌, ◌++◌}
use Rattle.ep_history.specs.declared.rev.Rev.{Rev}
use Rattle.ep_history.specs.History.{made, newline}
use Rattle.ep_past.specs.Revisions.{IsFirst, IsLater}

-- the time of the last of some revisions behind one of that time
abbrev pub time_after : ℕ → List Rev → ℕ
time_after time [] = time
time_after time (v ∷ vs) = time_after v.time vs

-- a revision may stand behind these: the first is a creation's, and each later one may stand behind the last document
abbrev pub MayStand : List Rev → Rev → Type 0
MayStand [] v = IsFirst v
MayStand (u ∷ us) v = IsLater (time_after 0 (u ∷ us)) (made newline (u ∷ us)) v

-- each of these may stand behind those before it
abbrev pub AllStand : List Rev → List Rev → Type 0
AllStand us [] = Unit {0}
AllStand us (v ∷ vs) = MayStand us v × AllStand (us ++ v ∷ []) vs
