-- What is read of a text with attributes fits the document without units.
use Rattle.std.proofs.Common.{◌≡◌, ℕ, true, List, [], ◌∷◌, length, Ok, refl, sym, ap, ◌∙◌, subst, arith}
use Rattle.ep_units.specs.Text.{Text}
use Rattle.ep_attr.specs.AttrMap.{Pair}
use Rattle.ep_cs.specs.Doc.{Cell}
use Rattle.ep_cs.specs.Edit.{Edit, Place, apply}
use Rattle.ep_cs.specs.Change.{Change}
use Rattle.ep_cs.specs.Fits.{Fits, keeps_pairs}
use Rattle.ep_cs.specs.Normal.{runs_from}
use Rattle.ep_cs.specs.NormalRuns.{IsNormal}
use Rattle.ep_cs.specs.Runs.{marks_of}
use Rattle.ep_cs.specs.declared.op.Op.{Op}
use Rattle.ep_cs.proofs.Pairs.{same_cells}
use Rattle.ep_cs.proofs.RunBank.{length_is}
use Rattle.ep_apply.specs.Documents.{insertion}
use Rattle.ep_csread.specs.Reading.{reading_attribs}
use Rattle.ep_csread.proofs.Spelled.{read_spells_text}

no_places : (places : List Place) (last : List Cell) (marks : List ℕ) → length places ≡ 0 → runs_from places last marks ≡ runs_from places last []
no_places [] last marks none = refl
no_places (p ∷ ps) last marks none = absurd (omega (arith, none))

nothing_kept : (places : List Place) → keeps_pairs places [] ≡ true
nothing_kept [] = refl
nothing_kept (p ∷ ps) = refl

runs_there : (c : Change) → IsNormal c → length c.edit.places ≡ 0 → c.runs ≡ runs_from c.edit.places c.edit.last []
runs_there c is none =
    let runs : c.runs ≡ runs_from c.edit.places c.edit.last (marks_of c.runs) =
    subst (λ (e : Edit). c.runs ≡ runs_from e.places e.last (marks_of c.runs)) (sym (ap (λ (x : Change). x.edit) is.is)) (ap (λ (x : Change). x.runs) is.is) in
    runs ∙ no_places c.edit.places c.edit.last (marks_of c.runs) none

pub fits_nothing : (c : Change) → IsNormal c → length c.edit.places ≡ 0 → Fits c []
fits_nothing c is none = record { length = sym none; runs = runs_there c is none; pairs = nothing_kept c.edit.places }

-- a change on no units inserts the document that it makes
pub insertion_is : (c : Change) → IsNormal c → length c.edit.places ≡ 0 → insertion (apply c.edit []) ≡ c
insertion_is c is none = by c.edit.places c.edit.last c.runs refl none (runs_there c is none)
  where
    by : (places : List Place) (last : List Cell) (runs : List Op) → record { edit = record { places = places; last = last }; runs = runs } ≡ c → length places ≡ 0 → runs ≡ runs_from places last []
        → insertion (apply (record { places = places; last = last }) []) ≡ c
    by [] last runs whole e told =
        ap (λ (cs : List Cell). insertion cs) (same_cells last) ∙ ap (λ (os : List Op). record { edit = record { places = []; last = last }; runs = os }) (sym told) ∙ whole
    by (p ∷ ps) last runs whole e told = absurd (omega (arith, e))

pub no_units : (pool : List Pair) (us attribs : Text) (c : Change) → reading_attribs pool us attribs ≡ Ok c → length c.edit.places ≡ 0
no_units pool us attribs c is =
    let s = read_spells_text pool us attribs c is in
    ap (λ (x : Change). length x.edit.places) s.right.change ∙ length_is 0 _ us s.right.passed
