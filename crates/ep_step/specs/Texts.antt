-- The server's texts.
use Rattle.std.specs.Prelude.{ℕ, ◌+◌, length, if◌then◌else◌}
use Rattle.ep_units.specs.Text.{Text}
use Rattle.ep_units.specs.Clean.{clean}
use Rattle.ep_cs.specs.Edit.{Edit}
use Rattle.ep_cs.specs.Splice.{splice}
use Rattle.ep_cs.specs.Plain.{plain}
use Rattle.ep_history.specs.History.{lacks_newline}

-- the first edit of a birth: a text, cleaned, is inserted into the one newline that there is before
abbrev pub first_edit : Text → Edit
first_edit text = splice 1 0 0 (plain (clean text))

-- 1 where a text doesn't end in a newline
abbrev pub lacking : Text → ℕ
lacking text = if lacks_newline (plain text) then 1 else 0
