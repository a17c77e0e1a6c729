-- What reading answers.
use Rattle.std.specs.Prelude.{◌≡◌, Result, Err}
use Rattle.ep_csread.specs.declared.bad.ReadBad.{ReadBad}
use Rattle.ep_csread.specs.declared.bad.ReadBad.TheVariants as bad

-- reading refuses so, or memory ran out
abbrev pub IsRefused : {A : Type 0} → ReadBad → Result A ReadBad → Type 0
IsRefused bad.NoMemory read = Unit {0}
IsRefused why read = read ≡ Err why
