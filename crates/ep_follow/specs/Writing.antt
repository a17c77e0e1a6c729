-- Working words of private contracts: what is written, and the kept units that wait behind it.
use Rattle.std.specs.Prelude.{◌≡◌, ℕ, zero, suc, ◌+◌, ◌≤◌, ◌<◌, ◌^◌, List, [], ◌∷◌, ◌++◌, length, drop, ◌⊎◌}
use Rattle.ep_units.specs.Text.{Text}
use Rattle.ep_attr.specs.AttrMap.{AttrMap, none, rest}
use Rattle.ep_cs.specs.Edit.{Fate}
use Rattle.ep_cs.specs.Edit.Fate.{Drop, Keep}
use Rattle.ep_cs.specs.Steps.{passed}
use Rattle.ep_cs.specs.Change.{newlines}
use Rattle.ep_cs.specs.NormalRuns.{IsLined}
use Rattle.ep_cs.specs.Draft.{Draft, keeping, dropping}
use Rattle.ep_cursor.specs.Left.{Left}
use Rattle.ep_cursor.specs.TrueDraft.{IsTrueDraft}
use Rattle.ep_follow.specs.Following.{UnderWay}
use Rattle.ep_follow.specs.declared.writer.Writer.{Writer}

-- what is said, with the units that wait
abbrev pub said : Writer → Draft
said w = keeping (keeping w.out w.lined w.lines none) w.plain 0 none

-- no units wait
abbrev pub settled : Draft → Writer
settled d = record { out = d; lined = 0; lines = 0; plain = 0 }

-- so many units more wait, which hold so many newlines
abbrev pub waiting : Writer → ℕ → ℕ → Writer
waiting w units zero = record { out = w.out; lined = w.lined; lines = w.lines; plain = w.plain + units }
waiting w units (suc lines) = record { out = w.out; lined = w.lined + (w.plain + units); lines = w.lines + suc lines; plain = 0 }

-- so many units are kept with a map: they wait, or are written
abbrev pub IsKept : Writer → ℕ → ℕ → AttrMap → Writer → Type 0
IsKept w units lines m w' = ((m ≡ none) × (w' ≡ waiting w units lines)) ⊎ (w' ≡ settled (keeping (said w) units lines m))

-- so many places of one fate in both: what follows there is said
abbrev pub IsFollowedRun : Writer → ℕ → ℕ → Fate → Fate → Writer → Type 0
IsFollowedRun w n lines Drop f w' = w' ≡ w
IsFollowedRun w n lines (Keep a) Drop w' = w' ≡ settled (dropping (said w) n lines)
IsFollowedRun w n lines (Keep a) (Keep b) w' = IsKept w n lines (rest a b) w'

-- so many units more can be said
pub record HasRoom (w : Writer) (units : ℕ) : Type 0 where
  pub inside : passed (said w).steps + units ≤ w.out.old
  pub short : w.out.old < 2 ^ 32
  pub lined : w.lines ≤ w.lined

-- places hold so many newlines, the last of them at their end, where there are places
abbrev pub AreLinedAll : ℕ → List ℕ → Type 0
AreLinedAll lines [] = lines ≡ 0
AreLinedAll lines (m ∷ ms) = IsLined lines (m ∷ ms)

-- what is written is true of a text, and the units that wait are those behind it
pub record IsTrueWriter (w : Writer) (us : Text) : Type 0 where
  pub out : IsTrueDraft w.out us
  pub front : Text
  pub plain : Text
  pub behind : Text
  pub is : drop (passed w.out.steps) us ≡ front ++ (plain ++ behind)
  pub front_long : length front ≡ w.lined
  pub plain_long : length plain ≡ w.plain
  pub front_lined : AreLinedAll w.lines (newlines front)
  pub plain_lined : AreLinedAll 0 (newlines plain)

-- what is said goes on
pub record IsGoing (made : Text) (w : Writer) (a b : Left) : Type 0 where
  pub way : UnderWay made (said w) a b
  pub writer : IsTrueWriter w made
