-- Why a call isn't made: the first change that doesn't fit.
use Rattle.std.specs.Prelude.{◌≡◌, ◌⊎◌, Err, List, [], ◌∷◌}
use Rattle.ep_cs.specs.Doc.{Doc}
use Rattle.ep_cs.specs.Edit.{apply}
use Rattle.ep_cs.specs.Change.{Change}
use Rattle.ep_cs.specs.Fits.{Fits}
use Rattle.ep_cs.specs.Fitting.{answer, fit_bad}
use Rattle.easysync.specs.declared.calc_bad.CalcBad.{CalcBad}
use Rattle.easysync.specs.declared.calc_bad.CalcBad.TheVariants as bad

-- the first reason why a change doesn't fit; want of memory says nothing of it
abbrev pub IsUnfit : CalcBad → Change → Doc → Type 0
IsUnfit (bad.Fit why) change doc = answer (fit_bad change doc) ≡ Err why
IsUnfit bad.NoMemory change doc = Unit {0}

-- the first change doesn't fit, or it does and the second doesn't fit what it makes
abbrev pub IsUnfitAfter : CalcBad → Change → Change → Doc → Type 0
IsUnfitAfter why first second doc = IsUnfit why first doc ⊎ (Fits first doc × IsUnfit why second (apply first.edit doc))

-- the first doesn't fit, or it does and the second doesn't
abbrev pub IsUnfitBeside : CalcBad → Change → Change → Doc → Type 0
IsUnfitBeside why a b doc = IsUnfit why a doc ⊎ (Fits a doc × IsUnfit why b doc)

-- one of these doesn't fit what those before it make, which fit; want of memory says nothing of them
abbrev pub IsUnfitAmong : CalcBad → List Change → Doc → Type 0
IsUnfitAmong bad.NoMemory changes doc = Unit {0}
IsUnfitAmong (bad.Fit why) [] doc = ⊥
IsUnfitAmong (bad.Fit why) (c ∷ cs) doc = (answer (fit_bad c doc) ≡ Err why) ⊎ (Fits c doc × IsUnfitAmong (bad.Fit why) cs (apply c.edit doc))

-- the change doesn't fit, or it does and one of those made since doesn't
abbrev pub IsUnfitBehind : CalcBad → Change → List Change → Doc → Type 0
IsUnfitBehind why change since doc = IsUnfit why change doc ⊎ (Fits change doc × IsUnfitAmong why since doc)
