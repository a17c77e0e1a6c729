-- What is read of the last birth, and what is pushed to it.
use Rattle.std.proofs.Common.{◌≡◌, ℕ, zero, suc, ◌≤◌, List, [], ◌∷◌, ◌++◌, length, take, drop, Some, min, sym, ap, ◌∙◌, subst, arith}
use Rattle.ep_cs.specs.Edit.{apply}
use Rattle.ep_history.specs.declared.rev.Rev.{Rev}
use Rattle.ep_history.specs.History.{Birth, head, doc_at, newline}
use Rattle.ep_history.specs.Lists.{at}
use Rattle.ep_history.specs.Readings.{edited, last_rev, revs_behind}
use Rattle.ep_history.proofs.Lists.{some_same}
use Rattle.ep_revs.specs.Revisions.{doc_of, last_doc, head_of}
use Rattle.ep_step.specs.declared.revised.NewRev.{NewRev}
use Rattle.ep_step.specs.declared.revised.Revised.{Revised}
use Rattle.ep_step.specs.Revised.{AreNewRevs, IsNewRev}
use Rattle.ep_pad_state.proofs.Pads.{at-last, made-append}

pub number-of : (vs : List Rev) (b : Birth) (n : ℕ) → Some n ≡ head_of vs → vs ≡ b.first ∷ b.later → n ≡ head b
number-of vs b n e r = some_same (e ∙ ap head_of r)

pub edited-of : (vs : List Rev) (b : Birth) (n : ℕ) (v : Rev) → n ≡ head b → vs ≡ b.first ∷ b.later → at vs n ≡ Some v → v.time ≡ edited b
edited-of vs b n v e r a =
    let same : v ≡ last_rev b.first b.later = some_same (sym a ∙ ap (λ us. at us n) r ∙ ap (at (b.first ∷ b.later)) e ∙ at-last b.first b.later) in
    ap (λ (w : Rev). w.time) same

pub doc-of : (vs : List Rev) (b : Birth) (r : ℕ) → vs ≡ b.first ∷ b.later → doc_of vs r ≡ doc_at b r
doc-of vs b r e = ap (λ us. doc_of us r) e

take-min : (n : ℕ) (vs : List Rev) → take (min (length vs) n) vs ≡ take n vs
take-min zero vs = let e : min (length vs) 0 ≡ 0 = omega arith in ap (λ k. take k vs) e
take-min (suc n) [] = let e : min 0 (suc n) ≡ 0 = omega arith in ap (λ k. take k none) e
  where
    none : List Rev
    none = []
take-min (suc n) (v ∷ vs) = let e : min (suc (length vs)) (suc n) ≡ suc (min (length vs) n) = omega arith in ap (λ k. take k (v ∷ vs)) e ∙ ap (λ us. v ∷ us) (take-min n vs)

-- the first revisions behind one, all where they are fewer
pub behind-of : (vs later : List Rev) (b : Birth) (r n : ℕ) → vs ≡ b.first ∷ b.later → later ≡ drop (suc r) vs → take (min (length later) n) later ≡ revs_behind b r n
behind-of vs later b r n e l = take-min n later ∙ ap (take n) (l ∙ ap (drop (suc r)) e)

-- ---- pushes

pub pushed-doc : (us : List Rev) (v : Rev) → last_doc (us ++ v ∷ []) ≡ apply v.change.edit (last_doc us)
pushed-doc us v = made-append newline us (v ∷ [])

-- the newline's revision was made to the document after the edit's
pub second-fits : (us : List Rev) (r : Revised) (v : NewRev) → AreNewRevs r (last_doc us) → r.newline ≡ Some v → IsNewRev v (last_doc (us ++ r.edit.rev ∷ []))
second-fits us r v h e = subst (λ doc. IsNewRev v doc) (h.edit.doc ∙ sym (pushed-doc us r.edit.rev)) (h.newline v e)

pub some-more : (us vs : List Rev) → 1 ≤ length us → 1 ≤ length (us ++ vs)
some-more [] vs h = absurd (omega (arith, h))
some-more (u ∷ us) vs h = omega arith

-- the first revisions of a birth are its first step's
pub first-revs : (us vs ws : List Rev) (v : Rev) → us ≡ [] → vs ≡ us ++ ws → ws ≡ v ∷ [] → vs ≡ v ∷ []
first-revs us vs ws v n e f = e ∙ ap (λ xs. xs ++ ws) n ∙ f
