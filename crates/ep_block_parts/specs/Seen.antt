-- What is seen of a text.
use Rattle.std.specs.Prelude.{◌≡◌, ◌≤◌, ◌-◌, Bool, true, false, [], ◌∷◌, length, take, drop}
use Rattle.ep_units.specs.Text.{Text, is_high}
use Rattle.ep_cs.specs.Lines.{count_lines, is_whole_lines}
use Rattle.ep_block_parts.specs.declared.seen.Seen.{Seen}

-- the last unit of a text is the first half of a pair
abbrev pub ends_high : Text → Bool
ends_high [] = false
ends_high (u ∷ []) = is_high u
ends_high (u ∷ (v ∷ us)) = ends_high (v ∷ us)

-- what is said of a text is true: all but its last `tail` units are whole lines, and these have no newline
pub record Sees (s : Seen) (us : Text) : Type 0 where
  pub units : s.units ≡ length us
  pub lines : s.lines ≡ count_lines us
  pub within : s.tail ≤ s.units
  pub before : is_whole_lines (take (s.units - s.tail) us) ≡ true
  pub behind : count_lines (drop (s.units - s.tail) us) ≡ 0
  pub high : s.high ≡ ends_high us
