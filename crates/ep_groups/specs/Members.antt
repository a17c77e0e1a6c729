-- Working words of private contracts: what one listed session decides.
use Rattle.std.specs.Prelude.{ℕ, ◌≡◌, Option, Some, None, Result, Ok}
use Rattle.ep_units.specs.Text.{Text}
use Rattle.ep_dir_records.specs.declared.values.SessionInfo.{SessionInfo}
use Rattle.ep_dir_records.specs.declared.dir_bad.DirBad.{DirBad}
use Rattle.ep_groups.specs.Policy.{member_or}

-- what a session found decides: its author, or the next ones
abbrev pub DecidesMember : Text → ℕ → Option SessionInfo → Option Text → Type 0
DecidesMember group now info None = (rest : Result (Option Text) DirBad) → member_or group now info rest ≡ rest
DecidesMember group now info (Some author) = (rest : Result (Option Text) DirBad) → member_or group now info rest ≡ Ok (Some author)
