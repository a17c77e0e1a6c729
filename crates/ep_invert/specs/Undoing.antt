-- Working words of private contracts: what undoes one run of a change.
use Rattle.std.specs.Prelude.{◌≡◌, ℕ, ◌+◌, ◌≤◌, ◌<◌, ◌^◌, List, [], map, length, take}
use Rattle.ep_units.specs.Text.{Text}
use Rattle.ep_attr.specs.AttrMap.{AttrMap}
use Rattle.ep_cs.specs.Doc.{Cell, text_of}
use Rattle.ep_cs.specs.Edit.{Step, inserts}
use Rattle.ep_cs.specs.Edit.Fate.{Keep}
use Rattle.ep_cs.specs.Edit.Step.{Pass}
use Rattle.ep_cs.specs.Steps.{passed}
use Rattle.ep_cs.specs.Splice.{dropped}
use Rattle.ep_cs.specs.Change.{newlines}
use Rattle.ep_cs.specs.Draft.{Draft, inserted_by}
use Rattle.ep_cs.specs.NormalRuns.{IsLined}
use Rattle.ep_cs.specs.declared.op.Kind.{Kind}
use Rattle.ep_cs.specs.declared.op.Kind.TheVariants as kind
use Rattle.ep_apply.specs.Documents.{HasNoEmpty}
use Rattle.ep_invert.specs.Inverse.{restoring}

-- cells are kept, each with what gives its map back after a map
abbrev pub restored : AttrMap → List Cell → List Step
restored m cs = map (λ c. Pass (Keep (restoring c.attrs m))) cs

-- what undoes a run over the cells that it passes
abbrev pub undone : Kind → ℕ → AttrMap → List Cell → List Step
undone kind.Keep n m cs = restored m cs
undone kind.Drop n m cs = inserts cs
undone kind.Insert n m cs = dropped n

-- the text that a run leaves
abbrev pub left_by : Kind → Text → List Cell → Text
left_by kind.Keep text cs = text_of cs
left_by kind.Drop text cs = []
left_by kind.Insert text cs = text

-- a run is true of the cells and of its text, and what undoes it can be written
abbrev pub CanUndo : Kind → ℕ → ℕ → Text → List Cell → Draft → Type 0
CanUndo kind.Keep n lines text cs out =
    (1 ≤ n) × (n ≤ length cs) × IsLined lines (newlines (text_of (take n cs))) × (passed out.steps + n ≤ out.old) × (out.old < 2 ^ 32)
CanUndo kind.Drop n lines text cs out = (n ≤ length cs) × (inserted_by out.steps + n < 2 ^ 32) × HasNoEmpty cs
CanUndo kind.Insert n lines text cs out = (1 ≤ n) × (length text ≡ n) × IsLined lines (newlines text) × (passed out.steps + n ≤ out.old)
