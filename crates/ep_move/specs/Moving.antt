-- How moving a pad ends.
use Rattle.std.specs.Prelude.{◌≡◌, ◌⊎◌, ℕ, ◌-◌, ◌≤◌, Bool, true, false, List, [], length, bytes_eq, IsUtf8, Option, Some, None, Ok, Err}
use Rattle.std.specs.List.{list_any}
use Rattle.ep_units.specs.Text.{Text}
use Rattle.ep_outside.specs.Disk.{Contents}
use Rattle.ep_outside.specs.Outside.{HasRisen, IsWhole, Takes, TakesPart}
use Rattle.ep_outside.specs.Shelf.{Holds}
use Rattle.ep_history.specs.History.{newline}
use Rattle.ep_journal.specs.File.{is_foreign, stands_for}
use Rattle.ep_import.specs.Imported.{Imports, Said}
use Rattle.ep_import.specs.declared.bad.ImportBad.{ImportBad}
use Rattle.ep_import.specs.declared.bad.ImportBad.TheVariants as bad
use Rattle.ep_put.specs.Putting.{first_long, history_records}
use Rattle.ep_put.specs.Whole.{full_with}
use Rattle.ep_verify.specs.Files.{IsFile}
use Rattle.ep_move.specs.Lines.{imported, refusal}
use Rattle.ep_move.specs.Text.{IsCut, most_read}
use Rattle.ep_move.specs.Told.{IsWritten}
use Rattle.ep_move.specs.declared.lines.Reason.{Reason}
use Rattle.ep_move.specs.declared.lines.Reason.TheVariants as reason
use Rattle.ep_move.specs.declared.moved.Moved.{Moved}
use Rattle.ep_move.specs.declared.moved.Moved.TheVariants as moved

-- the status of each end
abbrev pub code_of : Moved → ℕ
code_of moved.All = 0
code_of moved.SourceFault = 4
code_of moved.SinkFault = 5
code_of moved.DiskFault = 6
code_of moved.NoMemory = 7
code_of moved.Refused = 13

-- a device has failed since: its count rose, and it never told that it doesn't fail
pub record Fails (steady : Bool) (before now : ℕ) : Type 0 where
  pub risen : HasRisen before now
  pub unsure : steady ≡ true → ⊥

-- a disk that told what was told of the pad has failed since
abbrev pub FailsBy : {D : Type 0} → (D → Option Contents) → (D → ℕ) → Option Contents → Type 0
FailsBy {D} disk_told failures told = (first : D) × (last : D) × Holds told (disk_told first) × (1 ≤ failures last)

-- ---- a pad's history goes out

-- whether an id is among some names
abbrev pub is_among : List (List ℕ) → Text → Bool
is_among names id = list_any (λ name. bytes_eq name id) names

-- where names are told, this one isn't among them
abbrev pub IsUnnamed : Option (List (List ℕ)) → Text → Type 0
IsUnnamed None id = Unit {0}
IsUnnamed (Some names) id = is_among names id ≡ false

-- the file of a name was read, or the name isn't among those that are told
abbrev pub IsFound : Option (List (List ℕ)) → Option Contents → Text → Option (List ℕ) → Type 0
IsFound names told id None = IsUnnamed names id
IsFound names told id (Some bytes) = IsFile told bytes

-- what is written of a shelf's pad, and whether it is a refusal: a shelf that has no file of that name has no such pad
pub data IsSaid (names : Option (List (List ℕ))) (told : Option Contents) (id : Text) : Bool → List ℕ → Type 0 where
  NoFile : IsUnnamed names id → IsSaid names told id true (refusal id reason.Gone)
  OfFile : (file : List ℕ) (refuses : Bool) (out : List ℕ) → IsFile told file → IsWritten id file refuses out → IsSaid names told id refuses out

-- so a line was written, or a beginning of it
abbrev pub WritesLine : Bool → List ℕ → Option (List ℕ) → Option (List ℕ) → Moved → Type 0
WritesLine refuses out held now moved.All = (refuses ≡ false) × Takes held now out
WritesLine refuses out held now moved.Refused = (refuses ≡ true) × Takes held now out
WritesLine refuses out held now moved.SinkFault = TakesPart held now out
WritesLine refuses out held now why = ⊥

-- so it went out, or a beginning of it, or nothing
abbrev pub GoesOut : Option (List (List ℕ)) → Option Contents → Text → Option (List ℕ) → Option (List ℕ) → Moved → Type 0
GoesOut names told id held now moved.All = (out : List ℕ) × IsSaid names told id false out × Takes held now out
GoesOut names told id held now moved.Refused = (out : List ℕ) × IsSaid names told id true out × Takes held now out
GoesOut names told id held now moved.SinkFault = (refuses : Bool) × (out : List ℕ) × IsSaid names told id refuses out × TakesPart held now out
GoesOut names told id held now moved.SourceFault = ⊥
GoesOut names told id held now why = now ≡ held

-- ---- a history comes in

-- why bytes are no history
abbrev pub reason_of : ImportBad → Option Reason
reason_of (bad.TooBig n) = Some (reason.TooBig n)
reason_of bad.NotJson = Some reason.NotJson
reason_of (bad.Shape place) = Some (reason.Shape place)
reason_of (bad.Revision n) = Some (reason.Revision n)
reason_of bad.Replay = Some reason.Replay
reason_of bad.NoMemory = None

-- what a source that had these bytes, and has these left, says of a pad of this id
pub record Says (id : Text) (old new : Option (List ℕ)) (said : Said) : Type 0 where
  pub text : List ℕ
  pub whole : IsWhole old new text
  pub imports : Imports id text (Ok said)

-- bytes say nothing: they are no UTF-8, or the text is refused
pub data IsNone (id : Text) (bytes : List ℕ) : Reason → Type 0 where
  NoText : (IsUtf8 bytes → ⊥) → IsNone id bytes reason.NotJson
  NoHistory : (why : ImportBad) (r : Reason) → Imports id bytes (Err why) → reason_of why ≡ Some r → IsNone id bytes r

-- so does a source: more was read than a text may have, or what was read says nothing
pub data SaysNone (id : Text) (old new : Option (List ℕ)) : Reason → Type 0 where
  Long : IsCut old new → SaysNone id old new (reason.TooBig most_read)
  Short : (bytes : List ℕ) (why : Reason) → IsWhole old new bytes → IsNone id bytes why → SaysNone id old new why

-- so many bytes a file may have
abbrev pub most_file : ℕ
most_file = 268435456

-- why a file, where it is told, doesn't take a history
abbrev pub IsUntaken : Option Contents → Said → Reason → Type 0
IsUntaken told said reason.Exists = (c : Contents) → told ≡ Some c → stands_for c.seen ≡ Some [] → ⊥
IsUntaken told said (reason.TooLong n) = first_long newline said.revs ≡ Some n
IsUntaken told said (reason.Full n) = full_with most_file (history_records said.revs said.public) ≡ Some n
IsUntaken told said reason.Foreign = (c : Contents) → told ≡ Some c → is_foreign c.seen ≡ true
IsUntaken told said why = ⊥

-- why nothing came in: the source says no history, or the file takes none
pub data IsRefused (id : Text) (old new : Option (List ℕ)) (told : Option Contents) (why : Reason) : Type 0 where
  ByText : SaysNone id old new why → IsRefused id old new told why
  ByFile : (said : Said) → Says id old new said → IsUntaken told said why → IsRefused id old new told why

-- so a history came in, or why not was written, or a beginning of either line, or nothing
abbrev pub ComesIn : Text → Option (List ℕ) → Option (List ℕ) → Option Contents → Option (List ℕ) → Option (List ℕ) → Moved → Type 0
ComesIn id old new told held now moved.All = (said : Said) × Says id old new said × Takes held now (imported (length said.revs - 1))
ComesIn id old new told held now moved.Refused = (why : Reason) × IsRefused id old new told why × Takes held now (refusal id why)
ComesIn id old new told held now moved.SinkFault =
    ((said : Said) × Says id old new said × TakesPart held now (imported (length said.revs - 1)))
    ⊎ ((why : Reason) × IsRefused id old new told why × TakesPart held now (refusal id why))
ComesIn id old new told held now why = now ≡ held
