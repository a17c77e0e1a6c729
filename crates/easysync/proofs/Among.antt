-- A walk over changes that are made to a document one after another.
use Rattle.std.proofs.Common.{List, ◌∷◌, inl, inr}
use Rattle.ep_cs.specs.Doc.{Doc}
use Rattle.ep_cs.specs.Edit.{apply}
use Rattle.ep_cs.specs.Change.{Change}
use Rattle.ep_cs.specs.Fits.{Fits}
use Rattle.ep_cs.specs.Made.{AreMade}
use Rattle.easysync.specs.Unfit.{IsUnfit, IsUnfitAmong}
use Rattle.easysync.specs.declared.calc_bad.CalcBad.{CalcBad}
use Rattle.easysync.specs.declared.calc_bad.CalcBad.TheVariants as bad

-- what is found of the changes that are left is so of all
pub record StandsFor (all rest : List Change) (doc now : Doc) : Type 0 where
  pub made : AreMade now rest → AreMade doc all
  pub unfit : (why : CalcBad) → IsUnfitAmong why rest now → IsUnfitAmong why all doc

pub stands_for_all : (all : List Change) (doc : Doc) → StandsFor all all doc doc
stands_for_all all doc = record { made = λ m. m; unfit = λ why u. u }

later_unfit : (c : Change) (rest : List Change) (now : Doc) (why : CalcBad) → Fits c now → IsUnfitAmong why rest (apply c.edit now) → IsUnfitAmong why (c ∷ rest) now
later_unfit c rest now bad.NoMemory fits unfit = tt
later_unfit c rest now (bad.Fit why) fits unfit = inr (fits, unfit)

first_unfit : (c : Change) (rest : List Change) (now : Doc) (why : CalcBad) → IsUnfit why c now → IsUnfitAmong why (c ∷ rest) now
first_unfit c rest now bad.NoMemory unfit = tt
first_unfit c rest now (bad.Fit why) unfit = inl unfit

-- one of them fits
pub one_fits : (all rest : List Change) (c : Change) (doc now : Doc) → StandsFor all (c ∷ rest) doc now → Fits c now → StandsFor all rest doc (apply c.edit now)
one_fits all rest c doc now stands fits = record { made = λ made. stands.made (fits, made); unfit = λ why unfit. stands.unfit why (later_unfit c rest now why fits unfit) }

-- one of them doesn't
pub one_unfit : (all rest : List Change) (c : Change) (doc now : Doc) (why : CalcBad) → StandsFor all (c ∷ rest) doc now → IsUnfit why c now → IsUnfitAmong why all doc
one_unfit all rest c doc now why stands unfit = stands.unfit why (first_unfit c rest now why unfit)
