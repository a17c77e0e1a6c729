-- Which words ask for what.
use Rattle.std.specs.Prelude.{ℕ, ◌≡◌, ◌≢◌, ◌≤◌, ⊤, false, not, ◌&&◌, List, [], ◌∷◌, codes, if◌then◌else◌, Option, Some, None, option_map, option_and_then}
use Rattle.ep_units.specs.Utf8.{units_of}
use Rattle.ep_units.specs.PadId.{is_own_id, has_group}
use Rattle.ep_words.specs.Forms.{Form, Text, form_in}
use Rattle.ep_words.specs.Forms as form
use Rattle.ep_words.specs.Numbers.{number_in, number_within}
use Rattle.ep_words.specs.declared.command.Command.{Command}
use Rattle.ep_words.specs.declared.command.Command.TheVariants as command

-- what is asked for
pub data Line : Type 0 where
  play : List ℕ → Line
  serve : Text → Text → Text → Text → Line
  write : Text → Text → Text → Line
  verify : Text → ℕ → Line
  make : ℕ → ℕ → ℕ → Line

-- what a command in code asks for
abbrev pub line_of : Command → Line
line_of (command.Play pad) = play pad
line_of (command.Serve pads api dir key) = serve pads.now api.now dir.now key.now
line_of (command.Write addr pad token) = write addr.now pad.now token.now
line_of (command.Verify dir workers) = verify dir.now workers
line_of (command.Make number clients edits) = make number clients edits

-- what its line asks of a command: an id without a group, a key, numbers within bounds
abbrev pub HasItsForm : Command → Type 0
HasItsForm (command.Play pad) = has_group pad ≡ false
HasItsForm (command.Serve pads api dir key) = key.now ≢ []
HasItsForm (command.Write addr pad token) = ⊤
HasItsForm (command.Verify dir workers) = (1 ≤ workers) × (workers ≤ 64)
HasItsForm (command.Make number clients edits) = (1 ≤ clients) × (clients ≤ 64) × (edits ≤ 100000)

-- a pad's own id without a group
abbrev pub play_line : List ℕ → Option Line
play_line id = if is_own_id id && not (has_group id) then Some (play id) else None

-- the key isn't empty
abbrev pub serve_line : Text → Text → Text → Text → Option Line
serve_line pads api dir [] = None
serve_line pads api dir (b ∷ bs) = Some (serve pads api dir (b ∷ bs))

-- 1 to 64 workers
abbrev pub verify_line : Text → Text → Option Line
verify_line dir workers = option_map (verify dir) (number_within 1 64 workers)

-- where all three are numbers
abbrev pub make_by : Option ℕ → Option ℕ → Option ℕ → Option Line
make_by (Some number) (Some clients) (Some edits) = Some (make number clients edits)
make_by _ _ _ = None

-- any number, 1 to 64 clients and at most 100,000 edits
abbrev pub make_line : Text → Text → Text → Option Line
make_line number clients edits = make_by (number_in number) (number_within 1 64 clients) (number_within 0 100000 edits)

-- what a command with these texts asks for; a script is played on the pad `pad` where none is named
abbrev pub line_by : Form → Option Line
line_by (form.play None) = play_line (units_of (codes "pad"))
line_by (form.play (Some name)) = play_line (units_of name)
line_by (form.serve pads api dir key) = serve_line pads api dir key
line_by (form.write addr pad token) = Some (write addr pad token)
line_by (form.verify dir workers) = verify_line dir workers
line_by (form.make number clients edits) = make_line number clients edits

-- what the words ask for, if it is anything
abbrev pub line_in : List Text → Option Line
line_in words = option_and_then line_by (form_in words)
