-- A birth's revisions fit, one after another.
use Rattle.std.proofs.Common.{ℕ, ◌≤◌, List, [], ◌∷◌, length, refl, sym, subst, arith}
use Rattle.ep_units.specs.Text.{Text}
use Rattle.ep_units.specs.Clean.{clean}
use Rattle.ep_cs.specs.Doc.{Doc}
use Rattle.ep_cs.specs.Edit.{apply}
use Rattle.ep_cs.specs.Fits.{Fits}
use Rattle.ep_cs.specs.Made.{AreMade}
use Rattle.ep_cs.specs.Plain.{plain}
use Rattle.ep_cs.proofs.Splices.{length-splice}
use Rattle.ep_step.proofs.Uncut.{first-pairs}
use Rattle.ep_history.specs.History.{first_rev, newline}
use Rattle.ep_history.specs.declared.rev.Rev.{Rev}
use Rattle.ep_past.specs.Revisions.{AreLater, AreRevisions, IsFirst, text_in}
use Rattle.ep_export.specs.Exported.{changes_of}

first_fits : (now : ℕ) (text : Text) → Fits (first_rev now text).change newline
first_fits now text = record { length = sym (length-splice 1 0 0 (plain (clean text)) (omega arith)); runs = refl; pairs = first-pairs (plain (clean text)) }

first_fit : (v : Rev) → IsFirst v → Fits v.change newline
first_fit v f = subst (λ (w : Rev). Fits w.change newline) (sym f.is) (first_fits v.time (text_in v))

later_made : (time : ℕ) (doc : Doc) (vs : List Rev) → AreLater time doc vs → AreMade doc (changes_of vs)
later_made time doc [] are = tt
later_made time doc (v ∷ vs) are = (are.0.fits, later_made v.time (apply v.change.edit doc) vs are.1)

pub exportable : (vs : List Rev) → AreRevisions vs → (1 ≤ length vs) × AreMade newline (changes_of vs)
exportable [] are = absurd are
exportable (v ∷ vs) are = (omega arith, (first_fit v are.0, later_made v.time (apply v.change.edit newline) vs are.1))
