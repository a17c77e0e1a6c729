-- A step: its document, its revisions.
use Rattle.std.proofs.Common.{◌≡◌, ℕ, Bool, true, false, if◌then◌else◌, List, [], ◌∷◌, length, Option, Some, None, is_some, refl, sym, ap, ◌∙◌, subst}
use Rattle.ep_cs.specs.Doc.{Doc, text_of}
use Rattle.ep_cs.specs.Edit.{Edit, apply}
use Rattle.ep_cs.specs.Change.{stamped}
use Rattle.ep_cs.specs.Fits.{Fits}
use Rattle.ep_apply.specs.Documents.{IsDocument}
use Rattle.ep_history.specs.declared.rev.Rev.{Rev}
use Rattle.ep_history.specs.History.{By, by_nobody, lacks_newline, made, newline_edit, newline_rev, rev_by, step_doc, step_revs}
use Rattle.ep_history.proofs.Newline.{fit-newline}
use Rattle.ep_step.specs.declared.step.Made.{Made}
use Rattle.ep_step.specs.declared.step.Step.{Step}
use Rattle.ep_step.specs.declared.revised.NewRev.{NewRev}
use Rattle.ep_step.specs.Revised.{IsNewRev}
use Rattle.ep_step.specs.Step.{made_of, newline_of, step_of}
use Rattle.ep_step.proofs.Ending.{document-ends}

-- ---- the document after it

abbrev pub last_made : Doc → Option Made → Doc
last_made doc None = doc
last_made doc (Some m) = m.doc

pub last-step : (e : Edit) (head : Doc) → last_made (apply e head) (newline_of (apply e head)) ≡ step_doc e head
last-step e head = go (lacks_newline (apply e head))
  where
    go : (b : Bool) → last_made (apply e head) (if b then Some (made_of (newline_edit (length (apply e head))) (apply e head)) else None)
        ≡ made (apply e head) (if b then newline_rev 0 (apply e head) ∷ [] else [])
    go true = refl
    go false = refl

pub last-of : (s : Step) (e : Edit) (head : Doc) (m : Option Made) → s.newline ≡ m → s ≡ step_of e head → last_made s.edit.doc m ≡ step_doc e head
last-of s e head m is h = ap (last_made s.edit.doc) (sym is) ∙ ap (λ (s : Step). last_made s.edit.doc s.newline) h ∙ last-step e head

pub some-newline : (doc : Doc) → is_some (newline_of doc) ≡ lacks_newline doc
some-newline doc = go (lacks_newline doc)
  where
    go : (b : Bool) → is_some (if b then Some (made_of (newline_edit (length doc)) doc) else None) ≡ b
    go true = refl
    go false = refl

-- ---- its revisions

-- a change that was made, as this author's revision
abbrev pub rev_from : By → Made → Rev
rev_from by m = record { change = m.change; author = by.author; session = by.session; time = by.time }

abbrev pub newline_from : ℕ → Option Made → List Rev
newline_from time None = []
newline_from time (Some m) = rev_from (by_nobody time) m ∷ []

pub revs-step : (by : By) (e : Edit) (head : Doc) → rev_from by (made_of e head) ∷ newline_from by.time (newline_of (apply e head)) ≡ step_revs by e head
revs-step by e head = ap (λ vs. rev_by by e head ∷ vs) (go (lacks_newline (apply e head)))
  where
    go : (b : Bool) → newline_from by.time (if b then Some (made_of (newline_edit (length (apply e head))) (apply e head)) else None)
        ≡ (if b then newline_rev by.time (apply e head) ∷ [] else [])
    go true = refl
    go false = refl

pub revs-of : (by : By) (s : Step) (e : Edit) (head : Doc) (m : Option Made) → s.newline ≡ m → s ≡ step_of e head
    → rev_from by s.edit ∷ newline_from by.time m ≡ step_revs by e head
revs-of by s e head m is h =
    ap (λ m. rev_from by s.edit ∷ newline_from by.time m) (sym is) ∙ ap (λ (s : Step). rev_from by s.edit ∷ newline_from by.time s.newline) h ∙ revs-step by e head

-- the newline's change fits
pub newline-fits : (doc : Doc) → IsDocument doc → Fits (stamped (newline_edit (length doc)) (text_of doc)) doc
newline-fits doc d = let f = fit-newline doc (document-ends doc d) in record { length = f.long; runs = refl; pairs = f.pairs }

-- where there is a newline, it is that of the document
pub newline-is : (doc : Doc) (m : Made) → newline_of doc ≡ Some m → m ≡ made_of (newline_edit (length doc)) doc
newline-is doc m h = go (lacks_newline doc) h
  where
    go : (b : Bool) → (if b then Some (made_of (newline_edit (length doc)) doc) else None) ≡ Some m → m ≡ made_of (newline_edit (length doc)) doc
    go true h = cc
    go false h = absurd cc

-- ---- what is made of a step

pub new-rev : (by : By) (v : NewRev) (m : Made) (e : Edit) (head : Doc) → v.rev ≡ rev_from by m → v.doc ≡ m.doc → m ≡ made_of e head → Fits m.change head → IsNewRev v head
new-rev by v m e head r d h f = record {
  fits = subst (λ (x : Rev). Fits x.change head) (sym r) f;
  doc = d ∙ ap (λ (m : Made). m.doc) h ∙ ap (λ (x : Edit). apply x head) (sym (ap (λ (x : Rev). x.change.edit) r ∙ ap (λ (m : Made). m.change.edit) h));
}

pub new-newline : (time : ℕ) (v : NewRev) (m : Made) (s : Step) (e : Edit) (head : Doc) → s ≡ step_of e head → s.newline ≡ Some m → IsDocument s.edit.doc
    → v.rev ≡ rev_from (by_nobody time) m → v.doc ≡ m.doc → IsNewRev v s.edit.doc
new-newline time v m s e head h n d r w =
    new-rev (by_nobody time) v m (newline_edit (length s.edit.doc)) s.edit.doc r w is (subst (λ (m : Made). Fits m.change s.edit.doc) (sym is) (newline-fits s.edit.doc d))
  where
    is : m ≡ made_of (newline_edit (length s.edit.doc)) s.edit.doc
    is = newline-is s.edit.doc m (ap newline_of (ap (λ (s : Step). s.edit.doc) h) ∙ sym (ap (λ (s : Step). s.newline) h) ∙ n)
