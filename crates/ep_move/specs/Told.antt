-- What a file tells of a history.
use Rattle.std.specs.Prelude.{◌≡◌, ℕ, Bool, true, false, List, ◌∷◌, Some, None}
use Rattle.serde_json.specs.Written.{compact_text}
use Rattle.ep_units.specs.Text.{Text}
use Rattle.ep_history.specs.Pad.{PadState, newest}
use Rattle.ep_history.specs.declared.rev.Rev.{Rev}
use Rattle.ep_journal.specs.File.{is_foreign}
use Rattle.ep_pad.specs.Opening.{IsBadAt}
use Rattle.ep_export.specs.Exported.{exported, late}
use Rattle.ep_verify.specs.Verdicts.{Tells, no_limits}
use Rattle.ep_move.specs.Lines.{line, refusal}
use Rattle.ep_move.specs.declared.lines.Reason.{Reason}
use Rattle.ep_move.specs.declared.lines.Reason.TheVariants as reason

-- the file tells a pad that is there, with these revisions, and whether anybody may enter
pub record HasPast (file : List ℕ) (vs : List Rev) (public : Bool) : Type 0 where
  pub pad : PadState
  pub tells : Tells file pad
  pub present : pad.present ≡ true
  pub revs : vs ≡ (newest pad).first ∷ (newest pad).later
  pub status : public ≡ pad.public

-- the file tells a pad that isn't there
abbrev pub IsGone : List ℕ → Type 0
IsGone file = (pad : PadState) × Tells file pad × (pad.present ≡ false)

-- Why a file's pad isn't exported: it isn't there; a revision is of too late a time; the file is no journal; or a record of
-- it is none, or can't come there.
pub data IsUnexported (file : List ℕ) : Reason → Type 0 where
  Gone : IsGone file → IsUnexported file reason.Gone
  Late : (vs : List Rev) (public : Bool) (n : ℕ) → HasPast file vs public → late 0 vs ≡ Some n → IsUnexported file (reason.Time n)
  Foreign : is_foreign file ≡ true → IsUnexported file reason.Foreign
  BadRecord : (k : ℕ) → is_foreign file ≡ false → IsBadAt no_limits file k → IsUnexported file (reason.Record k)

-- What is written of a file, and whether it is a refusal: the text of the history that it tells, or why there is none
pub data IsWritten (id : Text) (file : List ℕ) : Bool → List ℕ → Type 0 where
  Whole : (vs : List Rev) (public : Bool) → HasPast file vs public → late 0 vs ≡ None → IsWritten id file false (line (compact_text (exported id vs public)))
  Unwritten : (why : Reason) → IsUnexported file why → IsWritten id file true (refusal id why)
