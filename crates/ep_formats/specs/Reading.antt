-- Working words of private contracts: a record read from the front of bytes. It is the one that the bytes are only where it is written so.
use Rattle.std.specs.Prelude.{ℕ, List, [], ◌∷◌, Option, Some, None, nat_lt, ◌==◌, if◌then◌else◌}
use Rattle.ep_fields.specs.Reading.{◌>>=◌, number_at, session_at, flag_at, text_at, change_at, frame_at}
use Rattle.ep_frames.specs.declared.frame_mark.FrameMark.{FrameMark}
use Rattle.ep_frames.specs.declared.frame_mark.FrameMark.TheVariants as mark
use Rattle.ep_formats.specs.declared.record.Record.{Record}
use Rattle.ep_formats.specs.declared.record.Record.TheVariants.{Open, Create, Rev, Delete, Public, Nop, Format}

-- ---- fields that format 1 has not

unfoldable pub mark_at : List ℕ → Option FrameMark
mark_at [] = None
mark_at (b ∷ bytes) =
    if b == 1 then frame_at bytes >>= (λ c. Some (mark.Here c.0))
    else (if b == 2 then Some mark.Left else Some mark.None)

abbrev pub framed_at : ℕ → List ℕ → Option FrameMark
framed_at format bytes = if format == 1 then Some mark.None else mark_at bytes

-- one of more than 32 bits is none
unfoldable pub spacing_at : ℕ → List ℕ → Option (ℕ × List ℕ)
spacing_at format bytes =
    if format == 1 then Some (100, bytes)
    else number_at bytes >>= (λ n. if nat_lt 4294967295 n.0 then None else Some n)

-- ---- records, behind the byte of their kind

unfoldable pub open_at : List ℕ → Option Record
open_at bytes = do
  epoch ← number_at bytes
  Some (Open epoch.0)

unfoldable pub create_at : ℕ → List ℕ → Option Record
create_at format bytes = do
  birth ← number_at bytes
  time ← number_at birth.1
  spacing ← spacing_at format time.1
  text ← text_at spacing.1
  Some (Create birth.0 time.0 spacing.0 text.0)

unfoldable pub rev_at : ℕ → List ℕ → Option Record
rev_at format bytes = do
  by ← session_at bytes
  time ← number_at by.1
  author ← text_at time.1
  fixed ← flag_at author.1
  change ← change_at fixed.1
  frame ← framed_at format change.1
  Some (Rev by.0 time.0 author.0 fixed.0 change.0 frame)

unfoldable pub delete_at : List ℕ → Option Record
delete_at bytes = do
  time ← number_at bytes
  Some (Delete time.0)

unfoldable pub public_at : List ℕ → Option Record
public_at bytes = do
  on ← flag_at bytes
  Some (Public on.0)

unfoldable pub nop_at : List ℕ → Option Record
nop_at bytes = do
  by ← session_at bytes
  time ← number_at by.1
  Some (Nop by.0 time.0)

abbrev pub of_kind : ℕ → ℕ → List ℕ → Option Record
of_kind format kind bytes =
    if kind == 1 then open_at bytes
    else (if kind == 2 then create_at format bytes
    else (if kind == 3 then rev_at format bytes
    else (if kind == 4 then delete_at bytes
    else (if kind == 5 then public_at bytes
    else (if kind == 6 then nop_at bytes
    else (if kind == 7 then Some Format
    else None))))))

unfoldable pub record_at : ℕ → List ℕ → Option Record
record_at format [] = None
record_at format (kind ∷ bytes) = of_kind format kind bytes
