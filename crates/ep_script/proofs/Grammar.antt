-- Lines that are no text, and that are one.
use Rattle.std.proofs.Common.{◌≡◌, true, false, List, ℕ, refl, Err}
use Rattle.std.specs.Prelude.{IsUtf8, if◌then◌else◌, Result}
use Rattle.std.specs.Str.{is_utf8}
use Rattle.std.proofs.lemmas.Str.{is_utf8-from_IsUtf8, IsUtf8-from_is_utf8}
use Rattle.ep_script.specs.declared.line.LineBad.{LineBad}
use Rattle.ep_script.specs.declared.line.LineBad.TheVariants.{Utf8}
use Rattle.ep_script.specs.declared.line.Line.TheVariants as line
use Rattle.ep_script.specs.declared.write_line.WriteLine.TheVariants as write
use Rattle.ep_script.specs.Line.{line_of, line_with, read_as}
use Rattle.ep_script.specs.Seen.{whole}
use Rattle.ep_script.specs.WriteLine.{write_line_of, write_line_with}

if_text : {A : Type 0} (bytes : List ℕ) (read : Result A LineBad) → IsUtf8 bytes → (if is_utf8 bytes then read else Err Utf8) ≡ read
if_text bytes read text = rw (is_utf8-from_IsUtf8 bytes text)

if_no_text : {A : Type 0} (bytes : List ℕ) (read : Result A LineBad) → ¬ (IsUtf8 bytes) → (if is_utf8 bytes then read else Err Utf8) ≡ Err Utf8
if_no_text bytes read other =
    elim (is_utf8 bytes) as (λ b. is_utf8 bytes ≡ b → (if b then read else Err Utf8) ≡ Err Utf8) [ true ↦ λ e. absurd (other (IsUtf8-from_is_utf8 bytes e)) | false ↦ λ e. refl ] refl

pub line_of-text : (bytes : List ℕ) → IsUtf8 bytes → line_of bytes ≡ read_as (whole line.Blank) line_with bytes
unfolding line_of
line_of-text bytes text = if_text bytes _ text

pub line_of-other : (bytes : List ℕ) → ¬ (IsUtf8 bytes) → line_of bytes ≡ Err Utf8
unfolding line_of
line_of-other bytes other = if_no_text bytes _ other

pub write_line_of-text : (bytes : List ℕ) → IsUtf8 bytes → write_line_of bytes ≡ read_as write.Blank write_line_with bytes
unfolding write_line_of
write_line_of-text bytes text = if_text bytes _ text

pub write_line_of-other : (bytes : List ℕ) → ¬ (IsUtf8 bytes) → write_line_of bytes ≡ Err Utf8
unfolding write_line_of
write_line_of-other bytes other = if_no_text bytes _ other
