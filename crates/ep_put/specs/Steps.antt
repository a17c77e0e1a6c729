-- Working words of private contracts: one step of making a history's records and its file.
use Rattle.std.specs.Prelude.{◌≡◌, ◌⊎◌, ℕ, Bool, List, [], ◌∷◌, ◌++◌, if◌then◌else◌, Option, Some, None}
use Rattle.ep_journal.specs.File.{header, stands_for}
use Rattle.ep_cs.specs.Doc.{Doc}
use Rattle.ep_cs.specs.Edit.{apply}
use Rattle.ep_cs.specs.Fits.{Fits}
use Rattle.ep_history.specs.History.{lacks_newline, newline}
use Rattle.ep_history.specs.declared.record.Record.{Record}
use Rattle.ep_history.specs.declared.record.Record.TheVariants as record_of
use Rattle.ep_history.specs.declared.rev.Rev.{Rev}
use Rattle.ep_put.specs.Whole.{full_with}
use Rattle.ep_put.specs.Putting.{first_long, history_records}
use Rattle.ep_put.specs.declared.bad.PutBad.{PutBad}
use Rattle.ep_put.specs.declared.bad.PutBad.TheVariants as bad

-- the record of a revision between two documents; one that gives the first its final newline has none
abbrev pub step_records : Doc → Doc → Rev → List Record
step_records doc after v = if lacks_newline doc then [] else record_of.Rev v.session v.time v.author (lacks_newline after) v.change ∷ []

-- each of these revisions fits the document after those before it
abbrev pub AllFit : Doc → List Rev → Type 0
AllFit doc [] = Unit {0}
AllFit doc (v ∷ vs) = Fits v.change doc × AllFit (apply v.change.edit doc) vs

-- a document is too long, of which this is the length, or memory ran out
abbrev pub IsTooLong : Option ℕ → PutBad → Type 0
IsTooLong long (bad.TooLong n) = long ≡ Some n
IsTooLong long bad.NoMemory = Unit {0}
IsTooLong long why = ⊥

-- records are too long, which make so many bytes, or memory ran out
abbrev pub IsFull : Option ℕ → PutBad → Type 0
IsFull large (bad.Full n) = large ≡ Some n
IsFull large bad.NoMemory = Unit {0}
IsFull large why = ⊥

-- the file of a new journal: its header and a closed gate
abbrev pub new_file : List ℕ
new_file = header ++ 0 ∷ []

-- the image stands for no record, or is the header with an open gate and all behind it
abbrev pub IsWholeOrNone : List ℕ → List ℕ → Type 0
IsWholeOrNone body image = (stands_for image ≡ Some []) ⊎ (image ≡ header ++ 1 ∷ body)

-- what is to be written refuses before the disk is touched
abbrev pub HistoryRefused : ℕ → List Rev → Bool → PutBad → Type 0
HistoryRefused limit vs public (bad.TooLong n) = first_long newline vs ≡ Some n
HistoryRefused limit vs public (bad.Full n) = (first_long newline vs ≡ None) × (full_with limit (history_records vs public) ≡ Some n)
HistoryRefused limit vs public bad.NoMemory = Unit {0}
HistoryRefused limit vs public why = ⊥
