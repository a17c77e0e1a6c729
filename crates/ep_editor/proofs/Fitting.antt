-- An edit that isn't refused fits what is shown.
use Rattle.std.proofs.Common.{◌≡◌, ℕ, zero, suc, ◌+◌, ◌-◌, ◌≤◌, nat_lt, Bool, true, false, cond, not, ◌&&◌, ◌||◌, if◌then◌else◌, List, [], ◌∷◌, ◌++◌, length, Option, Some, None, refl, sym, ap, ◌∙◌, arith}
use Rattle.std.proofs.lemmas.Bool.Decides.{nat_tests}
use Rattle.ep_units.specs.Text.{Text, is_high, is_low, is_paired, is_well_formed}
use Rattle.ep_attr.specs.AttrMap.{AttrMap, none}
use Rattle.ep_attr.proofs.SameMap.{both_true, first_true, second_true}
use Rattle.ep_cs.specs.Doc.{Doc, text_of}
use Rattle.ep_cs.specs.Edit.{Place, Edit, Step, edit_of, inserts}
use Rattle.ep_cs.specs.EditFits.{fits}
use Rattle.ep_cs.specs.Fits.{goes_on, keeps_pairs}
use Rattle.ep_cs.specs.Fitting.{first_cut}
use Rattle.ep_cs.specs.Runs.{cells}
use Rattle.ep_cs.specs.Splice.{dropped, kept, splice}
use Rattle.ep_cs.proofs.EditFits.{is_whole, true_fits, whole-settle}
use Rattle.ep_cs.proofs.Items.{settle_settled}
use Rattle.ep_cs.proofs.Splices.{length-splice}
use Rattle.ep_history.proofs.Lists.{none_some}
use Rattle.ep_invert.specs.Paint.{paint, paint_steps}
use Rattle.ep_invert.specs.Refusal.{cut_bad, splice_bad}
use Rattle.ep_invert.specs.declared.bad.SpliceBad.TheVariants as splice_bads
use Rattle.ep_invert.proofs.Answered.{length-paint}

-- ---- what isn't refused ends within the document, and cuts no pair

pub inside : (e : Edit) (end : ℕ) (doc : Doc) → splice_bad e end doc ≡ None → end ≤ length doc
inside e end doc h = go (nat_lt (length doc) end) refl h
  where
    go : (t : Bool) → nat_lt (length doc) end ≡ t → (if t then Some splice_bads.Place else cut_bad (first_cut 0 e.places (text_of doc))) ≡ None → end ≤ length doc
    go true is none = none_some (sym none)
    go false is none = grind (arith, nat_tests)

no_cut : (o : Option ℕ) → cut_bad o ≡ None → o ≡ None
no_cut None h = refl
no_cut (Some low) h = none_some (sym h)

cuts_none : (e : Edit) (end : ℕ) (doc : Doc) → splice_bad e end doc ≡ None → first_cut 0 e.places (text_of doc) ≡ None
cuts_none e end doc h = go (nat_lt (length doc) end) h
  where
    go : (t : Bool) → (if t then Some splice_bads.Place else cut_bad (first_cut 0 e.places (text_of doc))) ≡ None → first_cut 0 e.places (text_of doc) ≡ None
    go true none = none_some (sym none)
    go false none = no_cut (first_cut 0 e.places (text_of doc)) none

keeps_all : (at : ℕ) (ps : List Place) (us : Text) → first_cut at ps us ≡ None → keeps_pairs ps us ≡ true
keeps_all at [] us e = refl
keeps_all at (p ∷ ps) [] e = refl
keeps_all at (p ∷ ps) (u ∷ us) e = go (is_high u) (goes_on p.fate ps) e (keeps_all (at + 1) ps us)
  where
    go : (h g : Bool) → (if h && not g then Some (at + 1) else first_cut (at + 1) ps us) ≡ None → (first_cut (at + 1) ps us ≡ None → keeps_pairs ps us ≡ true) → ((not h || g) && keeps_pairs ps us) ≡ true
    go true true e again = again e
    go true false e again = none_some (sym e)
    go false g e again = again e

fits_made : (steps : List Step) (end : ℕ) (doc : Doc) → is_whole false steps ≡ true → length (edit_of steps).places ≡ length doc → splice_bad (edit_of steps) end doc ≡ None → fits (edit_of steps) doc ≡ true
fits_made steps end doc w l h =
    true_fits (edit_of steps) doc
    (record {
      long = sym l;
      pairs = keeps_all 0 (edit_of steps).places (text_of doc) (cuts_none (edit_of steps) end doc h);
      settled = settle_settled [] steps;
      pieces = whole-settle [] false steps (λ us. refl) w;
    })

-- ---- what steps insert is a text

whole_kept : (n : ℕ) (steps : List Step) → is_whole false steps ≡ true → is_whole false (kept n ++ steps) ≡ true
whole_kept zero steps h = h
whole_kept (suc n) steps h = whole_kept n steps h

whole_painted : (n : ℕ) (m : AttrMap) (steps : List Step) → is_whole false steps ≡ true → is_whole false (paint_steps n m ++ steps) ≡ true
whole_painted zero m steps h = h
whole_painted (suc n) m steps h = whole_painted n m steps h

whole_dropped : (n : ℕ) (steps : List Step) → is_whole false steps ≡ true → is_whole false (dropped n ++ steps) ≡ true
whole_dropped zero steps h = h
whole_dropped (suc n) steps h = whole_dropped n steps h

whole_rest : (n : ℕ) → is_whole false (kept n) ≡ true
whole_rest zero = refl
whole_rest (suc n) = whole_rest n

is_false : (b : Bool) → not b ≡ true → b ≡ false
is_false true e = cc
is_false false e = refl

whole_cells : (half : Bool) (m : AttrMap) (us : Text) (steps : List Step) → is_paired half us ≡ true → is_whole false steps ≡ true → is_whole half (inserts (cells m us) ++ steps) ≡ true
whole_cells half m [] steps e h = ap (λ b. is_whole b steps) (is_false half e) ∙ h
whole_cells half m (u ∷ us) steps e h =
    both_true _ _ (first_true _ _ e) (whole_cells (is_high u) m us steps (second_true (cond half (is_low u) (not (is_low u))) _ e) h)

-- ---- the edits of an editor

pub put_fits : (at drop : ℕ) (put : Text) (m : AttrMap) (doc : Doc) → is_well_formed put ≡ true → splice_bad (splice (length doc) at drop (cells m put)) (at + drop) doc ≡ None
    → fits (splice (length doc) at drop (cells m put)) doc ≡ true
put_fits at drop put m doc w h =
    let rest = length doc - (at + drop) in
    fits_made (kept at ++ (dropped drop ++ (inserts (cells m put) ++ kept rest))) (at + drop) doc
    (whole_kept at _ (whole_dropped drop _ (whole_cells false m put (kept rest) w (whole_rest rest))))
    (length-splice (length doc) at drop (cells m put) (inside (splice (length doc) at drop (cells m put)) (at + drop) doc h)) h

pub paint_fits : (at count : ℕ) (m : AttrMap) (doc : Doc) → splice_bad (paint (length doc) at count m) (at + count) doc ≡ None → fits (paint (length doc) at count m) doc ≡ true
paint_fits at count m doc h =
    let rest = length doc - (at + count) in
    fits_made (kept at ++ (paint_steps count m ++ kept rest)) (at + count) doc
    (whole_kept at _ (whole_painted count m (kept rest) (whole_rest rest)))
    (length-paint (length doc) at count m (inside (paint (length doc) at count m) (at + count) doc h)) h
