-- Working words of private contracts: stretches of a text, and the pairs that are cut at their ends.
use Rattle.std.specs.Prelude.{◌≡◌, ℕ, ◌+◌, ◌-◌, ◌≤◌, ◌<◌, ◌^◌, Bool, nat_lt, cond, length, take, drop, if◌then◌else◌, Option, Some, None, Result, Ok, Err}
use Rattle.ep_units.specs.Text.{Text}
use Rattle.ep_cs.specs.Doc.{Doc, text_of}
use Rattle.ep_block_parts.specs.Seen.{ends_high}
use Rattle.ep_invert.specs.declared.bad.SpliceBad.{SpliceBad}
use Rattle.ep_invert.specs.declared.bad.SpliceBad.TheVariants.{Place}
use Rattle.ep_invert.specs.declared.stretch.Stretch.{Stretch}
use Rattle.ep_invert.specs.Refusal.{cause, cut_bad}

-- the first pair that is cut before a stretch, at its end, or at the end of the text
abbrev pub end_cut : ℕ → ℕ → Text → Option ℕ
end_cut at end us =
    if ends_high (take at us) then Some at else (if ends_high (take (end - at) (drop at us)) then Some end else (if ends_high (drop end us) then Some (length us) else None))

-- the stretch that is altered is there, and no pair is cut
pub record IsFound (at n : ℕ) (alters : Bool) (doc : Doc) (s : Stretch) : Type 0 where
  pub from : s.at ≡ cond alters at 0
  pub to : s.end ≡ cond alters (at + n) 0
  pub inside : at + n ≤ length doc
  pub small : length doc < 2 ^ 32
  pub whole : end_cut s.at s.end (text_of doc) ≡ None

-- why a stretch isn't found
abbrev pub not_found : ℕ → ℕ → Bool → Doc → Option SpliceBad
not_found at n alters doc = if nat_lt (length doc) (at + n) then Some Place else cut_bad (end_cut (cond alters at 0) (cond alters (at + n) 0) (text_of doc))

-- looking for a stretch gives it, or says why not
abbrev pub Finds : ℕ → ℕ → Bool → Doc → Result Stretch SpliceBad → Type 0
Finds at n alters doc (Ok s) = IsFound at n alters doc s
Finds at n alters doc (Err why) = cause why ≡ not_found at n alters doc
