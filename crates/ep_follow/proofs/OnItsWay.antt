-- A change on its way through the changes made since.
use Rattle.std.proofs.Common.{◌≡◌, true, List, [], ◌∷◌, ◌++◌, refl, ap, ◌∙◌, subst}
use Rattle.ep_cs.specs.Doc.{Doc, text_of}
use Rattle.ep_cs.specs.Edit.{Edit, apply}
use Rattle.ep_cs.specs.Change.{Change, stamped}
use Rattle.ep_cs.specs.Fits.{Fits}
use Rattle.ep_cs.specs.Follow.{follow}
use Rattle.ep_cs.specs.Rebase.{rebase}
use Rattle.ep_cs.specs.declared.bad.First.TheVariants as first
use Rattle.ep_follow.specs.Follows.{Follows}
use Rattle.ep_cs.specs.Made.{AreMade, after_all, edits_of}

-- the change stands before the rest of those made since
pub record IsBefore (all rest : List Change) (begun now : Change) (doc : Doc) : Type 0 where
  pub here : Doc
  pub made : AreMade here rest
  pub fits : Fits now here
  pub same : rebase (edits_of rest) now.edit ≡ rebase (edits_of all) begun.edit
  pub ends : after_all here rest ≡ after_all doc all

abbrev pub IsOnItsWay : List Change → List Change → Change → Change → Type 0
IsOnItsWay all rest begun now = (doc : Doc) → AreMade doc all → Fits begun doc → IsBefore all rest begun now doc

pub sets_out : (all : List Change) (begun : Change) → IsOnItsWay all all begun begun
sets_out all begun doc made fits = record { here = doc; made = made; fits = fits; same = refl; ends = refl }

pub one_further : (all rest : List Change) (b begun now next : Change) → IsOnItsWay all (b ∷ rest) begun now → Follows first.A b now next → ((doc : Doc) → Fits b doc → Fits now doc → Fits next (apply b.edit doc)) → IsOnItsWay all rest begun next
one_further all rest b begun now next way follows fits doc made begun_fits =
    let at = way doc made begun_fits in
    let is : next.edit ≡ follow true b.edit now.edit = ap (λ (c : Change). c.edit) (follows at.here at.made.0 at.fits) in
    record { here = apply b.edit at.here; made = at.made.1; fits = fits at.here at.made.0 at.fits; same = ap (rebase (edits_of rest)) is ∙ at.same; ends = at.ends }

pub arrives : (all : List Change) (begun now : Change) → IsOnItsWay all [] begun now → (doc : Doc) → AreMade doc all → Fits begun doc
    → (now ≡ stamped (rebase (edits_of all) begun.edit) (text_of (after_all doc all))) × Fits now (after_all doc all)
arrives all begun now way doc made begun_fits =
    let at = way doc made begun_fits in
    let fits : Fits now (after_all doc all) = subst (Fits now) at.ends at.fits in
    let stamp : now ≡ stamped now.edit (text_of (after_all doc all)) = λ i. record { edit = now.edit; runs = fits.runs i } in
    (stamp ∙ ap (λ (e : Edit). stamped e (text_of (after_all doc all))) at.same, fits)

-- one more change is made
pub made_more : (doc : Doc) (cs : List Change) (c : Change) → AreMade doc cs → Fits c (after_all doc cs) → AreMade doc (cs ++ c ∷ [])
made_more doc [] c made fits = (fits, tt)
made_more doc (d ∷ cs) c made fits = (made.0, made_more (apply d.edit doc) cs c made.1 fits)

pub after_more : (doc : Doc) (cs : List Change) (c : Change) → after_all doc (cs ++ c ∷ []) ≡ apply c.edit (after_all doc cs)
after_more doc [] c = refl
after_more doc (d ∷ cs) c = after_more (apply d.edit doc) cs c
