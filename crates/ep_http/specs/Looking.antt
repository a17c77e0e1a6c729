-- Working words of private contracts: what the steps that read a head say.
use Rattle.std.specs.Prelude.{ℕ, ◌⊎◌, ◌≤◌, List, length, Option, Result, Ok, Err}
use Rattle.httparse.specs.Grammar.{RequestHead}
use Rattle.httparse.specs.Spans.{IsRequestAt, IsRequestWithin}
use Rattle.httparse.specs.declared.spans.HeaderSpan.{HeaderSpan}
use Rattle.httparse.specs.declared.spans.RequestSpans.{RequestSpans}
use Rattle.ep_outside.specs.Outside.{IsAtEnd, Gives}
use Rattle.ep_http.specs.Heads.{most_bytes, most_fields, CanBeginNone, HasManyLines, HasNoHead, HasNoneWithin, IsUnfinished, WantsHead}
use Rattle.ep_http.specs.Taken.{GivesAtMost, HasFailed}
use Rattle.ep_http.specs.declared.head.Seen.{Seen}
use Rattle.ep_http.specs.declared.head.Seen.TheVariants.{Whole, Refused, Unfinished}
use Rattle.ep_http.specs.declared.bad.HttpBad.{HttpBad}
use Rattle.ep_http.specs.declared.bad.HttpBad.TheVariants as bad

-- the spans are those of a head of the bytes
pub record IsHeadAt (bytes : List ℕ) (fields : List HeaderSpan) (spans : RequestSpans) (h : RequestHead) : Type 0 where
  pub at : IsRequestAt bytes fields spans h
  pub within : IsRequestWithin bytes fields spans
  pub few : length h.fields ≤ most_fields

-- the bytes can't begin a head, or none ends within so many fields
pub record IsRefused (bytes : List ℕ) : Type 0 where
  pub none : HasNoHead bytes
  pub why : CanBeginNone bytes ⊎ HasManyLines bytes

-- what was seen of the bytes
abbrev pub Judges : List ℕ → List HeaderSpan → Seen → Type 0
Judges bytes fields (Whole spans) = (h : RequestHead) × IsHeadAt bytes fields spans h
Judges bytes fields Refused = IsRefused bytes
Judges bytes fields Unfinished = IsUnfinished bytes

-- the cause of a refusal before a head is whole
abbrev pub FailsToReadHead : Option (List ℕ) → Option (List ℕ) → ℕ → ℕ → List ℕ → HttpBad → Type 0
FailsToReadHead old new before now bytes bad.Head = GivesAtMost most_bytes old new bytes × HasNoneWithin bytes
FailsToReadHead old new before now bytes bad.Short = Gives old new bytes × WantsHead bytes × IsAtEnd new
FailsToReadHead old new before now bytes (bad.Read n) = Gives old new bytes × WantsHead bytes × HasFailed before now n
FailsToReadHead old new before now bytes bad.NoMemory = Unit {0}
FailsToReadHead old new before now bytes _ = ⊥

-- the source gave a head, or why not
abbrev pub ReadsHead : Option (List ℕ) → Option (List ℕ) → ℕ → ℕ → List ℕ → List HeaderSpan → Result RequestSpans HttpBad → Type 0
ReadsHead old new before now bytes fields (Ok spans) = GivesAtMost most_bytes old new bytes × ((h : RequestHead) × IsHeadAt bytes fields spans h)
ReadsHead old new before now bytes fields (Err why) = FailsToReadHead old new before now bytes why
