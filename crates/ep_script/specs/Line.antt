-- What a line of a script is.
use Rattle.std.specs.Prelude.{◌≡◌, ℕ, Bool, true, false, ◌==◌, if◌then◌else◌, List, [], ◌∷◌, codes, Option, Some, None, Result, Ok, Err}
use Rattle.std.specs.Option.{ok_or}
use Rattle.std.specs.Str.{is_utf8}
use Rattle.ep_units.specs.Text.{Text}
use Rattle.ep_event.specs.declared.event.Local.{Local}
use Rattle.ep_event.specs.declared.event.Event.{Event}
use Rattle.ep_event.specs.declared.event.Event.TheVariants as event
use Rattle.ep_script.specs.Words.{Rest, first_word, behind_word, next, behind, look_up, ◌>>=◌}
use Rattle.ep_script.specs.Fields.{name, number, text, value, calls, image}
use Rattle.ep_script.specs.Edits.{insert, delete, format}
use Rattle.ep_script.specs.Seen.{Seen, whole, stopped}
use Rattle.ep_script.specs.declared.line.Line.{Line}
use Rattle.ep_script.specs.declared.line.Line.TheVariants as line
use Rattle.ep_script.specs.declared.line.LineBad.{LineBad}
use Rattle.ep_script.specs.declared.line.LineBad.TheVariants.{Utf8, Syntax, NoMemory}

abbrev pub says : Line → Option Seen
says l = Some (whole l)

abbrev pub says_event : Event → Option Seen
says_event e = says (line.Event e)

-- ---- lines of a word and a NAME

-- what each says, by its word
abbrev pub named_lines : List (List ℕ × (Text → Line))
named_lines =
    (codes "login", λ n. line.Event (event.Login n))
    ∷ (codes "guest", λ n. line.Event (event.Guest n false))
    ∷ (codes "reader", λ n. line.Event (event.Guest n true))
    ∷ (codes "undo", λ n. line.Event (event.Undo n))
    ∷ (codes "redo", λ n. line.Event (event.Redo n))
    ∷ (codes "submit", λ n. line.Event (event.Submit n))
    ∷ (codes "take", λ n. line.Event (event.Take n))
    ∷ (codes "late", λ n. line.Event (event.Late n))
    ∷ (codes "push", λ n. line.Event (event.Push n))
    ∷ (codes "hear", λ n. line.Event (event.Hear n))
    ∷ (codes "lose", λ n. line.Event (event.Lose n))
    ∷ (codes "resume", λ n. line.Event (event.Resume n))
    ∷ (codes "show", λ n. line.Show n)
    ∷ []

abbrev pub named : List ℕ → Text → Option Seen
named word n = look_up word named_lines >>= λ l. says (l n)

abbrev pub named_line : List ℕ → Rest → Option Seen
named_line word rest = name rest >>= named word

-- ---- lines of other forms, by what stands behind their word

-- TEXT, which may be empty or missing
abbrev pub create_line : Rest → Option Seen
create_line rest = value rest >>= λ t. says_event (event.Create t)

abbrev pub set_line : Rest → Option Seen
set_line rest = value rest >>= λ t. says_event (event.SetText t)

-- nothing behind the word
abbrev pub alone : Seen → Rest → Option Seen
alone l None = Some l
alone l (Some rest) = None

-- NAME, and an edit behind it
abbrev pub edit_line : Rest → Option Local → Option Seen
edit_line rest edit = name (next rest) >>= λ n. edit >>= λ e. says_event (event.Edit n e)

-- KEY VALUE, where VALUE may be empty or missing
abbrev pub attr_line : Rest → Option Seen
attr_line rest = text (next rest) >>= λ key. value (behind rest) >>= λ v. says (line.Attr key v)

-- NAME BASE CHANGESET
abbrev pub inject_line : Rest → Option Seen
inject_line rest = name (next rest) >>= λ n. number (next (behind rest)) >>= λ base. text (behind (behind rest)) >>= λ t. says (line.Inject n base t)

-- nothing, or NAME K IMAGE
abbrev pub crash_line : Rest → Option Seen
crash_line None = says_event (event.Stop None)
crash_line (Some rest) =
    name (next (Some rest)) >>= λ n. calls (next (behind (Some rest))) >>= λ k. image (behind (behind (Some rest))) >>= λ i. Some (stopped n k i)

-- R
abbrev pub text_line : Rest → Option Seen
text_line rest = number rest >>= λ rev. says (line.Text rev)

-- nothing, or NAME
abbrev pub marks_line : Rest → Option Seen
marks_line None = says line.Marks
marks_line (Some rest) = name (Some rest) >>= λ n. says (line.ViewMarks n)

-- what each says, by its word
abbrev pub other_lines : List (List ℕ × (Rest → Option Seen))
other_lines =
    (codes "create", create_line)
    ∷ (codes "set", set_line)
    ∷ (codes "drop", alone (whole (line.Event event.Delete)))
    ∷ (codes "insert", λ rest. edit_line rest (insert (behind rest)))
    ∷ (codes "delete", λ rest. edit_line rest (delete (behind rest)))
    ∷ (codes "format", λ rest. edit_line rest (format (behind rest)))
    ∷ (codes "attr", attr_line)
    ∷ (codes "inject", inject_line)
    ∷ (codes "crash", crash_line)
    ∷ (codes "head", alone (whole line.Head))
    ∷ (codes "text", text_line)
    ∷ (codes "marks", marks_line)
    ∷ []

-- ---- every line

abbrev pub line_by : Option (Rest → Option Seen) → List ℕ → Rest → Option Seen
line_by (Some form) word rest = form rest
line_by None word rest = named_line word rest

-- a line that begins with this word, with this behind it
abbrev pub line_with : List ℕ → Rest → Option Seen
line_with word rest = line_by (look_up word other_lines) word rest

-- an empty line, and one that begins with `#`, say nothing
abbrev pub is_blank : List ℕ → Bool
is_blank [] = true
is_blank (b ∷ bs) = b == 35

-- a text is blank, or its first word says what stands behind it
abbrev pub read_as : {A : Type 0} → A → (List ℕ → Rest → Option A) → List ℕ → Result A LineBad
read_as blank with_word bytes = if is_blank bytes then Ok blank else ok_or (with_word (first_word bytes) (behind_word bytes)) Syntax

-- what the bytes of a line are
unfoldable pub line_of : List ℕ → Result Seen LineBad
line_of bytes = if is_utf8 bytes then read_as (whole line.Blank) line_with bytes else Err Utf8

-- What was read is what a definition says, unless memory ran out
abbrev pub Gives : {A B : Type 0} → (A → B) → Result A LineBad → Result B LineBad → Type 0
Gives view (Ok x) said = said ≡ Ok (view x)
Gives view (Err Utf8) said = said ≡ Err Utf8
Gives view (Err Syntax) said = said ≡ Err Syntax
Gives view (Err NoMemory) said = Unit {0}
