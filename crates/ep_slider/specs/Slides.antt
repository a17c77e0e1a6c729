-- Slides: what steps of changes do at once, forward and backward.
use Rattle.std.specs.Prelude.{◌≡◌, ℕ, ◌-◌, nat_lt, ◌&&◌, List, [], ◌∷◌, take, drop, if◌then◌else◌, Option, Some, None, Result, Ok, Err}
use Rattle.ep_cs.specs.Doc.{Doc, text_of}
use Rattle.ep_cs.specs.Edit.{apply}
use Rattle.ep_cs.specs.Change.{Change, stamped}
use Rattle.ep_compose.specs.Composed.{composed}
use Rattle.ep_invert.specs.Inverse.{inverse}
use Rattle.ep_slider.specs.declared.bad.SlideBad.{SlideBad}
use Rattle.ep_slider.specs.declared.bad.SlideBad.TheVariants.{Granularity, NoMemory}

-- one change for a change of a document and those that are made after it
abbrev pub at_once : Doc → Change → List Change → Change
at_once doc c [] = c
at_once doc c (d ∷ ds) = at_once doc (composed c d doc) ds

-- the change that undoes a change of a document
abbrev pub undone : Change → Doc → Change
undone c doc = stamped (inverse c.edit doc) (text_of (apply c.edit doc))

-- step by step: the one change for the next g changes, as many as are left, and the one that undoes it
abbrev pub AreSlides : ℕ → Doc → List Change → List Change → List Change → Type 0
AreSlides g doc [] [] [] = Unit {0}
AreSlides g doc (c ∷ cs) (f ∷ fs) (b ∷ bs) = (f ≡ at_once doc c (take (g - 1) cs)) × (b ≡ undone f doc) × AreSlides g (apply f.edit doc) (drop (g - 1) cs) fs bs
AreSlides g doc cs fs bs = ⊥

-- a step is of 1 to 100 changes
abbrev pub slide_bad : ℕ → Option SlideBad
slide_bad g = if nat_lt 0 g && nat_lt g 101 then None else Some Granularity

-- the refusal of an answer, if it isn't for want of memory
abbrev pub refusal : {A : Type 0} → Result A SlideBad → Option SlideBad
refusal (Ok x) = None
refusal (Err Granularity) = Some Granularity
refusal (Err NoMemory) = None
