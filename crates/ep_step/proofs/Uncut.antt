-- Splices that cut no pair, and so are not refused.
use Rattle.std.proofs.Common.{◌≡◌, ℕ, ◌+◌, ◌-◌, ◌≤◌, Bool, true, false, nat_lt, if◌then◌else◌, List, [], ◌∷◌, ◌++◌, length, Option, Some, None, Result, Err, refl, sym, ap, ◌∙◌, arith, append-nil, append_assoc}
use Rattle.std.proofs.lemmas.Bool.Decides.{nat_tests}
use Rattle.ep_units.specs.Text.{Text, is_well_formed}
use Rattle.ep_attr.specs.AttrMap.{none, after}
use Rattle.ep_attr.proofs.Maps.{after-none}
use Rattle.ep_attr.proofs.SameMap.{first_true}
use Rattle.ep_cs.specs.Doc.{Cell, Doc, text_of}
use Rattle.ep_cs.specs.Edit.{Edit, Step, inserts, settle}
use Rattle.ep_cs.specs.Runs.{cells}
use Rattle.ep_cs.specs.Plain.{plain}
use Rattle.ep_cs.specs.Splice.{kept, splice}
use Rattle.ep_cs.specs.Change.{Change, stamped}
use Rattle.ep_cs.specs.Fits.{Fits, keeps_pairs}
use Rattle.ep_cs.specs.Fitting.{fit_bad, first_cut, first_untrue, untrue_or, cuts}
use Rattle.ep_cs.specs.declared.bad.FitBad.{FitBad}
use Rattle.ep_cs.proofs.Refusals.{not_refused, at_length}
use Rattle.ep_cs.proofs.Splices.{length-splice}
use Rattle.ep_cs.proofs.EditFits.{fits_true}
use Rattle.ep_apply.specs.Documents.{IsDocument}
use Rattle.ep_invert.specs.Refusal.{splice_bad, cut_bad, cause, refusal}
use Rattle.ep_invert.specs.declared.bad.SpliceBad.{SpliceBad}
use Rattle.ep_invert.specs.declared.bad.SpliceBad.TheVariants.{Place}
use Rattle.ep_history.specs.History.{lacks_newline, newline, newline_edit}
use Rattle.ep_history.specs.Server.{set_edit}
use Rattle.ep_history.proofs.Refused.{less-not}
use Rattle.ep_history.proofs.Newline.{fit-newline}
use Rattle.ep_history.proofs.Texts.{text-fits}
use Rattle.ep_step.proofs.Ending.{newline-splice, document-ends}

-- the map of a piece that is inserted plainly
pub plain_cells : (us : Text) → cells (after none none) us ≡ plain us
plain_cells us = ap (λ m. cells m us) (after-none none)

-- an edit that cuts no pair has no first cut
pub uncut : (e : Edit) (doc : Doc) → length doc ≡ length e.places → keeps_pairs e.places (text_of doc) ≡ true → first_cut 0 e.places (text_of doc) ≡ None
uncut e doc l k = go (first_untrue 0 c.runs (text_of doc)) (first_cut 0 e.places (text_of doc)) (sym (at_length c doc l) ∙ not_refused c doc f)
  where
    c : Change
    c = stamped e (text_of doc)

    f : Fits c doc
    f = record { length = l; runs = refl; pairs = k }

    go : (u k : Option ℕ) → untrue_or u (cuts k) ≡ None → k ≡ None
    go None None e = refl
    go None (Some at) e = absurd cc
    go (Some i) k e = absurd cc

-- a splice inside a document that cuts no pair is not refused
pub unrefused : (at n : ℕ) (piece : List Cell) (doc : Doc) → at + n ≤ length doc → keeps_pairs (splice (length doc) at n piece).places (text_of doc) ≡ true
    → splice_bad (splice (length doc) at n piece) (at + n) doc ≡ None
unrefused at n piece doc h k =
    ap (λ b. if b then Some Place else cut_bad (first_cut 0 (splice (length doc) at n piece).places (text_of doc))) (less-not (length doc) (at + n) h)
    ∙ ap cut_bad (uncut (splice (length doc) at n piece) doc (sym (length-splice (length doc) at n piece h)) k)

-- ---- the three that are made

pub newline-pairs : (doc : Doc) → IsDocument doc → keeps_pairs (splice (length doc) (length doc) 0 (plain (10 ∷ []))).places (text_of doc) ≡ true
newline-pairs doc d = ap (λ (e : Edit). keeps_pairs e.places (text_of doc)) (newline-splice (length doc)) ∙ (fit-newline doc (document-ends doc d)).pairs

pub set-pairs : (text : Text) (doc : Doc) → is_well_formed text ≡ true → IsDocument doc → lacks_newline doc ≡ false → keeps_pairs (set_edit text doc).places (text_of doc) ≡ true
set-pairs text doc w d l = (fits_true (set_edit text doc) doc (text-fits text doc w (first_true _ _ d.pairs) l)).pairs

settle-new : (waiting cells : List Cell) (steps : List Step) → settle waiting (inserts cells ++ steps) ≡ settle (waiting ++ cells) steps
settle-new waiting [] steps = ap (λ w. settle w steps) (sym (append-nil waiting))
settle-new waiting (c ∷ cells) steps = settle-new (waiting ++ c ∷ []) cells steps ∙ ap (λ w. settle w steps) (append_assoc waiting (c ∷ []) cells)

pub first-pairs : (piece : List Cell) → keeps_pairs (splice 1 0 0 piece).places (text_of newline) ≡ true
first-pairs piece = ap (λ (e : Edit). keeps_pairs e.places (text_of newline)) (settle-new [] piece (kept 1))

-- no other refusal stands beside none
pub never : (r : Result Change SpliceBad) (why : SpliceBad) (piece other : List Cell) (at n : ℕ) (doc : Doc) → piece ≡ other → r ≡ Err why
    → refusal r ≡ splice_bad (splice (length doc) at n piece) (at + n) doc → at + n ≤ length doc → keeps_pairs (splice (length doc) at n other).places (text_of doc) ≡ true → cause why ≡ None
never r why piece other at n doc p e h inside k =
    sym (ap refusal e) ∙ h ∙ ap (λ cs. splice_bad (splice (length doc) at n cs) (at + n) doc) p ∙ unrefused at n other doc inside k
