-- Working words of private contracts: steps as gaps and places, and what follows of them.
use Rattle.std.specs.Prelude.{◌≡◌, ℕ, ◌≤◌, Bool, true, false, List, [], ◌∷◌, ◌++◌}
use Rattle.ep_units.specs.Text.{Text, is_newline}
use Rattle.ep_attr.specs.AttrMap.{AttrMap, rest}
use Rattle.ep_cs.specs.Doc.{Cell}
use Rattle.ep_cs.specs.Edit.{Fate, Edit, Step, with_place}
use Rattle.ep_cs.specs.Edit.Fate.{Drop, Keep}
use Rattle.ep_cs.specs.Edit.Step.{Insert, Pass}
use Rattle.ep_cs.specs.Draft.{Draft, keeping, dropping}
use Rattle.ep_cs.specs.Follow.{follow_steps}
use Rattle.ep_cs.specs.declared.op.Kind.{Kind}
use Rattle.ep_cs.specs.declared.op.Kind.TheVariants as kind
use Rattle.ep_cs.specs.declared.op.Op.{Op}

-- the edit of these steps, each insert in the gap where it stands
abbrev pub gather : List Cell → List Step → Edit
gather waiting [] = record { places = []; last = waiting }
gather waiting (Insert c ∷ steps) = gather (waiting ++ c ∷ []) steps
gather waiting (Pass f ∷ steps) = with_place (record { before = waiting; fate = f }) (gather [] steps)

abbrev pub between : Bool → Edit → Edit → List Step
between side a b = follow_steps side a.places b.places a.last b.last

-- the steps of t that follow those of s
abbrev pub followed : Bool → List Step → List Step → List Step
followed side s t = between side (gather [] s) (gather [] t)

-- the cells that are inserted before the next place
abbrev pub piece : List Step → List Cell
piece [] = []
piece (Insert c ∷ steps) = c ∷ piece steps
piece (Pass f ∷ steps) = []

-- the steps from the next place on
abbrev pub behind : List Step → List Step
behind [] = []
behind (Insert c ∷ steps) = behind steps
behind (Pass f ∷ steps) = Pass f ∷ steps

-- a part of a piece is written: what is written, and then the rest of the piece, stays the same
pub record Moves (write : List Cell → List Step) (out from out' from' : List Step) : Type 0 where
  pub same : out' ++ write (piece from') ≡ out ++ write (piece from)
  pub behind : behind from' ≡ behind from

abbrev pub units_begin_with_newline : Text → Bool
units_begin_with_newline [] = false
units_begin_with_newline (u ∷ us) = is_newline u

abbrev pub is_insert : Kind → Bool
is_insert kind.Keep = false
is_insert kind.Drop = false
is_insert kind.Insert = true

abbrev pub begins_with_insert : List Op → Bool
begins_with_insert [] = false
begins_with_insert (o ∷ os) = is_insert o.kind

abbrev pub has_runs : List Op → Bool
has_runs [] = false
has_runs (o ∷ os) = true

-- the first run has units
abbrev pub HasUnits : List Op → Type 0
HasUnits [] = Unit {0}
HasUnits (o ∷ os) = 1 ≤ o.units

-- what a run that passes places makes of each
abbrev pub fate_of : Kind → AttrMap → Fate
fate_of kind.Keep m = Keep m
fate_of kind.Drop m = Drop
fate_of kind.Insert m = Keep m

-- how many of so many places are kept
abbrev pub kept_of : ℕ → Fate → ℕ
kept_of n Drop = 0
kept_of n (Keep m) = n

-- so many places of one fate in both: what follows there
abbrev pub followed_run : Draft → ℕ → ℕ → Fate → Fate → Draft
followed_run d n lines Drop f = d
followed_run d n lines (Keep a) Drop = dropping d n lines
followed_run d n lines (Keep a) (Keep b) = keeping d n lines (rest a b)
