-- Why a change doesn't fit a document.
use Rattle.std.specs.Prelude.{ℕ, ◌+◌, Bool, true, not, ◌&&◌, ◌||◌, ◌==◌, List, [], ◌∷◌, length, take, drop, if◌then◌else◌, Option, Some, None, Result, Ok, Err}
use Rattle.ep_units.specs.Text.{Text, is_high}
use Rattle.ep_cs.specs.Doc.{Doc, text_of}
use Rattle.ep_cs.specs.Edit.{Place}
use Rattle.ep_cs.specs.Change.{Change}
use Rattle.ep_cs.specs.Fits.{goes_on}
use Rattle.ep_cs.specs.Lines.{count_lines, is_whole_lines}
use Rattle.ep_cs.specs.Runs.{passed}
use Rattle.ep_cs.specs.declared.op.Kind.{Kind}
use Rattle.ep_cs.specs.declared.op.Kind.TheVariants as kind
use Rattle.ep_cs.specs.declared.op.Op.{Op}
use Rattle.ep_cs.specs.declared.bad.FitBad.{FitBad}
use Rattle.ep_cs.specs.declared.bad.FitBad.TheVariants.{OldLen, Newlines, CutsPair}

-- units hold just so many newlines, the last of them at their end
abbrev pub holds : ℕ → Text → Bool
holds lines us = (count_lines us == lines) && ((lines == 0) || is_whole_lines us)

-- what a run says of the units that it passes is true
abbrev pub is_true : Kind → ℕ → Text → Bool
is_true kind.Keep lines us = holds lines us
is_true kind.Drop lines us = holds lines us
is_true kind.Insert lines us = true

-- the first run, counted from i, that says something false of a text
abbrev pub first_untrue : ℕ → List Op → Text → Option ℕ
first_untrue i [] us = None
first_untrue i (o ∷ os) us =
    if is_true o.kind o.lines (take (passed o.kind o.units) us) then first_untrue (i + 1) os (drop (passed o.kind o.units) us) else Some i

-- the first pair that places cut, by the place of its second half, counted from `at`
abbrev pub first_cut : ℕ → List Place → Text → Option ℕ
first_cut at [] us = None
first_cut at (p ∷ ps) [] = None
first_cut at (p ∷ ps) (u ∷ us) = if is_high u && not (goes_on p.fate ps) then Some (at + 1) else first_cut (at + 1) ps us

-- a cut pair is refused by its place
abbrev pub cuts : Option ℕ → Option FitBad
cuts None = None
cuts (Some at) = Some (CutsPair at)

-- a run that says something false counts before a cut pair
abbrev pub untrue_or : Option ℕ → Option FitBad → Option FitBad
untrue_or None later = later
untrue_or (Some i) later = Some (Newlines i)

-- the first reason why a change doesn't fit
abbrev pub fit_bad : Change → Doc → Option FitBad
fit_bad c doc =
    if length doc == length c.edit.places
    then untrue_or (first_untrue 0 c.runs (text_of doc)) (cuts (first_cut 0 c.edit.places (text_of doc)))
    else Some (OldLen (length doc) (length c.edit.places))

-- refused for this reason, where there is one
abbrev pub answer : Option FitBad → Result (Unit {0}) FitBad
answer None = Ok tt
answer (Some why) = Err why
