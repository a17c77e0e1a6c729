-- Which format a record has.
use Rattle.std.specs.Prelude.{ℕ, List, [], ◌∷◌}
use Rattle.ep_formats.specs.declared.record.Record.{Record}
use Rattle.ep_formats.specs.declared.record.Record.TheVariants.{Open, Create, Rev, Delete, Public, Nop, Format}

-- the format of the record behind this one, which is of that format
abbrev pub next_format : ℕ → Record → ℕ
next_format format Format = 2
next_format format (Open epoch) = format
next_format format (Create birth time spacing first) = format
next_format format (Rev by time author fixed c m) = format
next_format format (Delete time) = format
next_format format (Public on) = format
next_format format (Nop by time) = format

-- the format of what comes behind these records in a file of this format
abbrev pub format_after : ℕ → List Record → ℕ
format_after format [] = format
format_after format (r ∷ rs) = format_after (next_format format r) rs
