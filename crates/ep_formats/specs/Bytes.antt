-- A record as bytes in a format, and which records have bytes.
use Rattle.std.specs.Prelude.{◌≡◌, ℕ, ◌≤◌, ◌==◌, if◌then◌else◌, Bool, List, [], ◌∷◌, ◌++◌}
use Rattle.ep_units.specs.Text.{Text}
use Rattle.ep_units.specs.Clean.{clean}
use Rattle.ep_units.specs.declared.session.Session.{Session}
use Rattle.ep_fields.specs.Bytes.{number, session, flag, text, change, frame, IsNumber, IsSession, IsText, IsChange, IsFrame}
use Rattle.ep_frames.specs.declared.frame_mark.FrameMark.{FrameMark}
use Rattle.ep_frames.specs.declared.frame_mark.FrameMark.TheVariants as mark
use Rattle.ep_formats.specs.declared.record.Record.{Record}
use Rattle.ep_formats.specs.declared.record.Record.TheVariants.{Open, Create, Rev, Delete, Public, Nop, Format}
use Rattle.ep_formats.specs.Formats.{next_format}

-- ---- fields that format 1 has not

-- how far apart key frames are
abbrev pub spaced : ℕ → ℕ → List ℕ
spaced format n = if format == 1 then [] else number n

-- whether a frame follows, and the frame
abbrev pub marked : FrameMark → List ℕ
marked mark.None = 0 ∷ []
marked (mark.Here c) = 1 ∷ frame c
marked mark.Left = 2 ∷ []

abbrev pub framed : ℕ → FrameMark → List ℕ
framed format m = if format == 1 then [] else marked m

-- ---- records

-- who made a revision and when, and whether a newline follows
abbrev pub maker : Session → ℕ → Text → Bool → List ℕ
maker by time author fixed = session by ++ (number time ++ (text author ++ flag fixed))

-- the byte of its kind, and its fields
abbrev pub bytes_of : ℕ → Record → List ℕ
bytes_of format (Open epoch) = 1 ∷ number epoch
bytes_of format (Create birth time spacing first) = 2 ∷ (number birth ++ (number time ++ (spaced format spacing ++ text first)))
bytes_of format (Rev by time author fixed c m) = 3 ∷ (maker by time author fixed ++ (change c ++ framed format m))
bytes_of format (Delete time) = 4 ∷ number time
bytes_of format (Public on) = 5 ∷ flag on
bytes_of format (Nop by time) = 6 ∷ (session by ++ number time)
bytes_of format Format = 7 ∷ []

-- ---- which have bytes

-- key frames may be so far apart, in format 1 only as far as is usual
abbrev pub IsSpaced : ℕ → ℕ → Type 0
IsSpaced format n = (1 ≤ n) × (n ≤ 1000) × (format ≡ 1 → n ≡ 100)

abbrev pub IsMark : FrameMark → Type 0
IsMark mark.None = Unit {0}
IsMark (mark.Here c) = IsFrame c
IsMark mark.Left = Unit {0}

-- format 1 has no frames
abbrev pub IsFramed : ℕ → FrameMark → Type 0
IsFramed format m = IsMark m × (format ≡ 1 → m ≡ mark.None)

abbrev pub IsMaker : Session → ℕ → Text → Type 0
IsMaker by time author = IsSession by × IsNumber time × IsText author

-- numbers of 64 bits, texts, changes and frames; the text of a Create is cleaned
abbrev pub IsRecord : ℕ → Record → Type 0
IsRecord format (Open epoch) = IsNumber epoch
IsRecord format (Create birth time spacing first) =
    IsNumber birth × IsNumber time × IsSpaced format spacing × IsText first × (clean first ≡ first)
IsRecord format (Rev by time author fixed c m) = IsMaker by time author × IsChange c × IsFramed format m
IsRecord format (Delete time) = IsNumber time
IsRecord format (Public on) = Unit {0}
IsRecord format (Nop by time) = IsSession by × IsNumber time
IsRecord format Format = Unit {0}

-- the bytes are this record's in this format
pub record IsEncoding (format : ℕ) (bytes : List ℕ) (r : Record) : Type 0 where
  pub is : IsRecord format r
  pub same : bytes ≡ bytes_of format r

-- each of these bytes is one of these records', in order, in a file of this format
abbrev pub AreEncodings : ℕ → List (List ℕ) → List Record → Type 0
AreEncodings format [] [] = Unit {0}
AreEncodings format (bytes ∷ all) (r ∷ rs) = IsEncoding format bytes r × AreEncodings (next_format format r) all rs
AreEncodings format [] (r ∷ rs) = ⊥
AreEncodings format (bytes ∷ all) [] = ⊥
