-- The edits of a line, as they stand behind the word that says which.
use Rattle.std.specs.Prelude.{Option, Some}
use Rattle.ep_event.specs.declared.event.Local.{Local}
use Rattle.ep_event.specs.declared.event.Local.TheVariants.{Insert, Delete, Format}
use Rattle.ep_script.specs.Words.{Rest, next, behind, ◌>>=◌}
use Rattle.ep_script.specs.Fields.{place, text, value}

-- AT TEXT
abbrev pub insert : Rest → Option Local
insert rest = place (next rest) >>= λ at. text (behind rest) >>= λ t. Some (Insert at t)

-- AT N
abbrev pub delete : Rest → Option Local
delete rest = place (next rest) >>= λ at. place (behind rest) >>= λ n. Some (Delete at n)

-- AT N KEY VALUE
abbrev pub format : Rest → Option Local
format rest =
    place (next rest) >>= λ at. place (next (behind rest)) >>= λ n.
    text (next (behind (behind rest))) >>= λ key. value (behind (behind (behind rest))) >>= λ v. Some (Format at n key v)
