-- Why a pad refuses, and in which order it asks.
use Rattle.std.specs.Prelude.{ℕ, Bool, true, false, not, ◌&&◌, ◌||◌, ◌==◌, nat_lt, nat_le, List, [], ◌∷◌, ◌++◌, length, Option, Some, None}
use Rattle.ep_units.specs.Text.{Text, text_eq}
use Rattle.ep_units.specs.PadId.{has_group}
use Rattle.ep_units.specs.declared.grant.Grant.{Grant}
use Rattle.ep_history.specs.History.{head}
use Rattle.ep_history.specs.Pad.{PadState, newest, live_count, has_live}
use Rattle.ep_history.specs.declared.pad_bad.PadBad.{PadBad}
use Rattle.ep_history.specs.declared.pad_bad.PadBad.TheVariants.{Denied, Full, Gone, BadRev}

-- of refusals in their order, the first whose cause is there
abbrev pub first_fault : List (Option PadBad) → Option PadBad
first_fault [] = None
first_fault (None ∷ fs) = first_fault fs
first_fault (Some bad ∷ fs) = Some bad

-- refused where this is so
abbrev pub fault_if : Bool → PadBad → Option PadBad
fault_if true bad = Some bad
fault_if false bad = None

-- ---- who may enter

-- too many sessions are live, and none is this author's; or too many were made since the opening
abbrev pub full_faults : PadState → Text → List (Option PadBad)
full_faults pad author =
    fault_if (nat_le pad.limits.live (live_count pad.sessions) && not (has_live author pad.sessions)) (Full pad.limits.live)
    ∷ fault_if (nat_le pad.limits.logins (length pad.sessions)) (Full pad.limits.logins)
    ∷ []

-- a pad of a group that isn't public is for the group's members
abbrev pub is_stranger : PadState → Grant → Bool
is_stranger pad g = has_group g.pad && (not g.member && not pad.public)

-- who enters makes an absent pad, but for a group's pad or by its read-only id
abbrev pub makes_none : Grant → Bool
makes_none g = has_group g.pad || g.read_only

-- why a login is refused: each reason that is there, in the order in which they count
abbrev pub login_faults : PadState → Grant → List (Option PadBad)
login_faults pad g =
    fault_if (not pad.present && makes_none g) (Denied 4)
    ∷ fault_if (pad.present && is_stranger pad g) (Denied 6)
    ∷ full_faults pad g.author

-- why a login is refused, if it is
abbrev pub login_fault : PadState → Grant → Option PadBad
login_fault pad g = first_fault (login_faults pad g)

-- whether another author is named
abbrev pub is_other : Text → Option Text → Bool
is_other author None = false
is_other author (Some named) = not (text_eq named author)

-- no birth named is the last one
abbrev pub is_birth : ℕ → Option ℕ → Bool
is_birth k None = true
is_birth k (Some named) = named == k

-- a client comes back at a revision; it may name its birth and its author
abbrev pub resume_faults : PadState → Grant → ℕ → Option ℕ → Option Text → List (Option PadBad)
resume_faults pad g rev birth author =
    fault_if (pad.present && is_stranger pad g) (Denied 6)
    ∷ fault_if (is_other g.author author) (Denied 7)
    ∷ (full_faults pad g.author
    ++ fault_if (not (pad.present && is_birth (length pad.births) birth)) Gone
    ∷ fault_if (nat_lt (head (newest pad)) rev) (BadRev (head (newest pad)))
    ∷ [])

-- why a resumption is refused, if it is
abbrev pub resume_fault : PadState → Grant → ℕ → Option ℕ → Option Text → Option PadBad
resume_fault pad g rev birth author = first_fault (resume_faults pad g rev birth author)
