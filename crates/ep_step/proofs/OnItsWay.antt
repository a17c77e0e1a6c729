-- An edit on its way through the revisions made since.
use Rattle.std.proofs.Common.{◌≡◌, true, List, [], ◌∷◌, refl, ap, ◌∙◌, subst}
use Rattle.ep_cs.specs.Doc.{Doc, text_of}
use Rattle.ep_cs.specs.Edit.{Edit, apply}
use Rattle.ep_cs.specs.Change.{Change, stamped}
use Rattle.ep_cs.specs.Fits.{Fits}
use Rattle.ep_cs.specs.Follow.{follow}
use Rattle.ep_cs.specs.declared.bad.First.TheVariants as first
use Rattle.ep_follow.specs.Follows.{Follows}
use Rattle.ep_history.specs.declared.rev.Rev.{Rev}
use Rattle.ep_history.specs.History.{made, rebased}
use Rattle.ep_cs.specs.Made.{AreMade}
use Rattle.ep_step.specs.Changes.{changes_of}

-- the change stands before the rest of the revisions
pub record IsBefore (all rest : List Rev) (begun now : Change) (doc : Doc) : Type 0 where
  pub here : Doc
  pub revs : AreMade here (changes_of rest)
  pub fits : Fits now here
  pub same : rebased rest now.edit ≡ rebased all begun.edit
  pub ends : made here rest ≡ made doc all

abbrev pub IsOnItsWay : List Rev → List Rev → Change → Change → Type 0
IsOnItsWay all rest begun now = (doc : Doc) → AreMade doc (changes_of all) → Fits begun doc → IsBefore all rest begun now doc

pub sets_out : (all : List Rev) (begun : Change) → IsOnItsWay all all begun begun
sets_out all begun doc revs fits = record { here = doc; revs = revs; fits = fits; same = refl; ends = refl }

pub one_further : (all rest : List Rev) (v : Rev) (begun now next : Change) → IsOnItsWay all (v ∷ rest) begun now → Follows first.A v.change now next
    → ((doc : Doc) → Fits v.change doc → Fits now doc → Fits next (apply v.change.edit doc)) → IsOnItsWay all rest begun next
one_further all rest v begun now next way follows fits doc revs begun_fits =
    let at = way doc revs begun_fits in
    let is : next.edit ≡ follow true v.change.edit now.edit = ap (λ (c : Change). c.edit) (follows at.here at.revs.0 at.fits) in
    record { here = apply v.change.edit at.here; revs = at.revs.1; fits = fits at.here at.revs.0 at.fits; same = ap (rebased rest) is ∙ at.same; ends = at.ends }

pub arrives : (all : List Rev) (begun now : Change) → IsOnItsWay all [] begun now → (doc : Doc) → AreMade doc (changes_of all) → Fits begun doc
    → (now ≡ stamped (rebased all begun.edit) (text_of (made doc all))) × Fits now (made doc all)
arrives all begun now way doc revs begun_fits =
    let at = way doc revs begun_fits in
    let fits : Fits now (made doc all) = subst (Fits now) at.ends at.fits in
    let stamp : now ≡ stamped now.edit (text_of (made doc all)) = λ i. record { edit = now.edit; runs = fits.runs i } in
    (stamp ∙ ap (λ (e : Edit). stamped e (text_of (made doc all))) at.same, fits)
