-- Working words of private contracts: a piece of history that is to be shown in steps.
use Rattle.std.specs.Prelude.{◌≡◌, ◌⊎◌, List, Some, None, Result, Ok, Err}
use Rattle.ep_cs.specs.Change.{Change}
use Rattle.ep_cs.specs.Doc.{Doc}
use Rattle.ep_cs.specs.Made.{AreMade}
use Rattle.ep_cs.specs.declared.bad.FitBad.{FitBad}
use Rattle.ep_history.specs.declared.pad_bad.PadBad.TheVariants.{Fit}
use Rattle.ep_session.specs.Session.{unfit}
use Rattle.ep_session.specs.declared.act.Steps.{Steps}
use Rattle.ep_session.specs.declared.end.End.{End}
use Rattle.ep_session.specs.declared.end.End.TheVariants.{Broken, NoMemory}

-- its changes are made to its document one after another; or the first that doesn't fit is told; or memory ran out
abbrev pub StepsOf : Doc → List Change → Result Steps End → Type 0
StepsOf doc cs (Ok s) = (s.doc ≡ doc) × (s.changes.items ≡ cs) × (unfit doc cs ≡ None) × AreMade doc cs
StepsOf doc cs (Err e) = (e ≡ NoMemory) ⊎ ((why : FitBad) × (unfit doc cs ≡ Some why) × (e ≡ Broken (Fit why)))
