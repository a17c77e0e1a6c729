-- What a splice and a painting answer.
use Rattle.std.proofs.Common.{◌≡◌, ℕ, zero, suc, ◌+◌, ◌-◌, ◌<◌, ◌≤◌, ◌^◌, Bool, true, false, cond, not, ◌&&◌, ◌||◌, MatchBool, nat_lt, ◌⊎◌, inl, inr, List, [], ◌∷◌, ◌++◌, length, Some, None, if◌then◌else◌, refl, sym, ap, ◌∙◌, subst, arith}
use Rattle.std.specs.Result.{IsErrAnd}
use Rattle.std.specs.Prelude.{Result, Ok, Err}
use Rattle.std.proofs.lemmas.List.{length-map}
use Rattle.std.proofs.lemmas.Bool.Decides.{nat_tests}
use Rattle.ep_units.specs.Text.{Text, is_high}
use Rattle.ep_attr.specs.AttrMap.{AttrMap, none, is_none}
use Rattle.ep_cs.specs.Doc.{Cell, Doc, text_of}
use Rattle.ep_cs.specs.Edit.{Edit, Place, identity}
use Rattle.ep_cs.specs.Edit.Fate.{Keep}
use Rattle.ep_cs.specs.Splice.{kept, splice}
use Rattle.ep_cs.specs.Runs.{cells}
use Rattle.ep_cs.specs.Change.{Change, stamped}
use Rattle.ep_cs.specs.Fits.{Fits, goes_on, keeps_pairs}
use Rattle.ep_cs.proofs.Items.{length-settle}
use Rattle.ep_cs.proofs.Plain.{length-text_of}
use Rattle.ep_cs.proofs.Splices.{splice-nothing}
use Rattle.ep_cs.specs.Fitting.{first_cut}
use Rattle.ep_cursor.proofs.Made.{passed-append, passed_times}
use Rattle.ep_invert.specs.declared.bad.SpliceBad.{SpliceBad}
use Rattle.ep_invert.specs.declared.bad.SpliceBad.TheVariants as bad
use Rattle.ep_invert.specs.declared.stretch.Stretch.{Stretch}
use Rattle.ep_invert.specs.Paint.{paint_steps, paint}
use Rattle.ep_invert.specs.Refusal.{cut_bad, splice_bad, cause, refusal}
use Rattle.ep_invert.specs.Stretch.{end_cut, IsFound, not_found}
use Rattle.ep_invert.proofs.Cut.{splice_cut, paint_cut, paint_nothing}

-- an edit is the one of the stretch that is altered, and cuts what is cut there
pub record IsAltered (e : Edit) (of : ℕ → ℕ → Edit) (at n : ℕ) (alters : Bool) (us : Text) : Type 0 where
  pub same : e ≡ of (cond alters at 0) (cond alters (at + n) 0 - cond alters at 0)
  pub cut : first_cut 0 e.places us ≡ end_cut (cond alters at 0) (cond alters (at + n) 0) us

gap : (at n : ℕ) → n ≡ at + n - at
gap at n = omega arith

pub splice_altered : (us : Text) (at n : ℕ) (piece : List Cell) (alters : Bool) → MatchBool alters (1 ≤ n + length piece) (n + length piece ≡ 0) → at + n ≤ length us
    → IsAltered (splice (length us) at n piece) (λ a k. splice (length us) a k piece) at n alters us
splice_altered us at n piece true some h = record { same = ap (λ (k : ℕ). splice (length us) at k piece) (gap at n); cut = splice_cut us at n piece h (inr some) }
splice_altered us at zero [] false none_ h =
    let e : splice (length us) at 0 [] ≡ splice (length us) 0 0 [] = splice-nothing (length us) at (omega (arith, h)) ∙ sym (splice-nothing (length us) 0 (omega arith)) in
    record { same = e; cut = ap (λ (x : Edit). first_cut 0 x.places us) e ∙ splice_cut us 0 0 [] (omega arith) (inl refl) }
splice_altered us at zero (c ∷ piece) false none_ h = absurd (omega (arith, none_))
splice_altered us at (suc n) piece false none_ h = absurd (omega (arith, none_))

pub paint_altered : (us : Text) (at n : ℕ) (m : AttrMap) (alters : Bool) → MatchBool alters ((1 ≤ n) × (is_none m ≡ false)) ((n ≡ 0) ⊎ (is_none m ≡ true)) → at + n ≤ length us
    → IsAltered (paint (length us) at n m) (λ a k. paint (length us) a k m) at n alters us
paint_altered us at n m true some h = record { same = ap (λ (k : ℕ). paint (length us) at k m) (gap at n); cut = paint_cut us at n m h some.0 some.1 }
paint_altered us at n m false why h =
    let e : paint (length us) at n m ≡ identity (length us) = paint_nothing (length us) at n m h why in
    let f : paint (length us) 0 0 m ≡ identity (length us) = paint_nothing (length us) 0 0 m (omega arith) (inl refl) in
    record { same = e ∙ sym f; cut = ap (λ (x : Edit). first_cut 0 x.places us) (e ∙ sym (splice-nothing (length us) 0 (omega arith))) ∙ splice_cut us 0 0 [] (omega arith) (inl refl) }

pub length-paint : (n at count : ℕ) (m : AttrMap) → at + count ≤ n → length (paint n at count m).places ≡ n
length-paint n at count m h =
    let k = n - (at + count) in
    let all : at + (count + k) ≡ n = omega arith in
    length-settle [] (kept at ++ (paint_steps count m ++ kept k)) ∙ passed-append (kept at) (paint_steps count m ++ kept k)
    ∙ (λ i. passed_times at (Keep none) i + (passed-append (paint_steps count m) (kept k) ∙ (λ j. passed_times count (Keep m) j + passed_times k (Keep none) j)) i) ∙ all

-- places that cut no pair
keeps_all : (at : ℕ) (ps : List Place) (us : Text) → first_cut at ps us ≡ None → keeps_pairs ps us ≡ true
keeps_all at [] us e = refl
keeps_all at (p ∷ ps) [] e = refl
keeps_all at (p ∷ ps) (u ∷ us) e = go (is_high u) (goes_on p.fate ps) e (keeps_all (at + 1) ps us)
  where
    go : (h g : Bool) → (if h && not g then Some (at + 1) else first_cut (at + 1) ps us) ≡ None → (first_cut (at + 1) ps us ≡ None → keeps_pairs ps us ≡ true) → ((not h || g) && keeps_pairs ps us) ≡ true
    go true true e again = again e
    go true false e again = absurd cc
    go false g e again = again e

below : (a b : ℕ) → a ≤ b → nat_lt b a ≡ false
below a b h = grind (arith, nat_tests)

-- ---- a refusal

pub same_refusal : (e : Edit) (of : ℕ → ℕ → Edit) (at n : ℕ) (alters : Bool) (doc : Doc) → (at + n ≤ length doc → IsAltered e of at n alters (text_of doc)) → not_found at n alters doc ≡ splice_bad e (at + n) doc
same_refusal e of at n alters doc is = go (nat_lt (length doc) (at + n)) refl
  where
    go : (b : Bool) → nat_lt (length doc) (at + n) ≡ b
        → (if b then Some bad.Place else cut_bad (end_cut (cond alters at 0) (cond alters (at + n) 0) (text_of doc))) ≡ (if b then Some bad.Place else cut_bad (first_cut 0 e.places (text_of doc)))
    go true h = refl
    go false h = ap cut_bad (sym (is (grind (arith, nat_tests))).cut)

pub refused_so : {A : Type 0} (r : Result A SpliceBad) (why : SpliceBad) → IsErrAnd r (λ e. e ≡ why) → refusal r ≡ cause why
refused_so (Ok x) why h = absurd h
refused_so (Err e) why h = ap cause h

-- ---- a stretch that is found

pub found_right : (e : Edit) (of : ℕ → ℕ → Edit) (at n : ℕ) (alters : Bool) (doc : Doc) (s : Stretch) → IsFound at n alters doc s → IsAltered e of at n alters (text_of doc) → None ≡ splice_bad e (at + n) doc
found_right e of at n alters doc s f is =
    sym (ap (λ b. if b then Some bad.Place else cut_bad (first_cut 0 e.places (text_of doc))) (below (at + n) (length doc) f.inside)
    ∙ ap cut_bad (is.cut ∙ (λ i. end_cut (sym f.from i) (sym f.to i) (text_of doc)) ∙ f.whole))

-- the change that was made is the one that was asked for
pub found_made : (e : Edit) (of : ℕ → ℕ → Edit) (at n : ℕ) (alters : Bool) (doc : Doc) (s : Stretch) (c : Change) → IsFound at n alters doc s → IsAltered e of at n alters (text_of doc)
    → c ≡ stamped (of s.at (s.end - s.at)) (text_of doc) → c ≡ stamped e (text_of doc)
found_made e of at n alters doc s c f is h =
    h ∙ (λ i. stamped (of (f.from i) (f.to i - f.from i)) (text_of doc)) ∙ ap (λ (x : Edit). stamped x (text_of doc)) (sym is.same)

pub found_fits : (e : Edit) (of : ℕ → ℕ → Edit) (at n : ℕ) (alters : Bool) (doc : Doc) (s : Stretch) (c : Change) → IsFound at n alters doc s → IsAltered e of at n alters (text_of doc)
    → length e.places ≡ length doc → c ≡ stamped e (text_of doc) → Fits c doc
found_fits e of at n alters doc s c f is long h =
    subst (λ (x : Change). Fits x doc) (sym h)
    (record { length = sym long; runs = refl; pairs = keeps_all 0 e.places (text_of doc) (is.cut ∙ (λ i. end_cut (sym f.from i) (sym f.to i) (text_of doc)) ∙ f.whole) })

pub ends_in_order : (at n : ℕ) (alters : Bool) (doc : Doc) (s : Stretch) → IsFound at n alters doc s → s.at ≤ s.end
ends_in_order at n true doc s f = omega (arith, f.from, f.to)
ends_in_order at n false doc s f = omega (arith, f.from, f.to)

pub ends_inside : (at n : ℕ) (alters : Bool) (doc : Doc) (s : Stretch) → IsFound at n alters doc s → s.end ≤ length doc
ends_inside at n true doc s f = omega (arith, f.to, f.inside)
ends_inside at n false doc s f = omega (arith, f.to)

pub as_long : (at n : ℕ) (alters : Bool) (doc : Doc) (s : Stretch) (more : ℕ) → IsFound at n alters doc s → (alters ≡ false → n ≡ 0) → length doc - n + more < 2 ^ 32 → length doc - (s.end - s.at) + more < 2 ^ 32
as_long at n true doc s more f z h = omega (arith, f.from, f.to, h)
as_long at n false doc s more f z h = omega (arith, f.from, f.to, h, z refl)

-- ---- in the document's words

pub splice_asked : (doc : Doc) (at n : ℕ) (m : AttrMap) (text : Text) (alters : Bool) → MatchBool alters (1 ≤ n + length text) (n + length text ≡ 0) → at + n ≤ length doc
    → IsAltered (splice (length doc) at n (cells m text)) (λ a k. splice (length doc) a k (cells m text)) at n alters (text_of doc)
splice_asked doc at n m text alters why h =
    let long : length (text_of doc) ≡ length doc = length-text_of doc in
    let same : length text ≡ length (cells m text) = sym (length-map text (λ u. record { unit = u; attrs = m })) in
    subst (λ (k : ℕ). IsAltered (splice k at n (cells m text)) (λ a j. splice k a j (cells m text)) at n alters (text_of doc)) long
    (splice_altered (text_of doc) at n (cells m text) alters (subst (λ (k : ℕ). MatchBool alters (1 ≤ n + k) (n + k ≡ 0)) same why) (omega (arith, long, h)))

pub paint_asked : (doc : Doc) (at n : ℕ) (m : AttrMap) (alters : Bool) → MatchBool alters ((1 ≤ n) × (is_none m ≡ false)) ((n ≡ 0) ⊎ (is_none m ≡ true)) → at + n ≤ length doc
    → IsAltered (paint (length doc) at n m) (λ a k. paint (length doc) a k m) at n alters (text_of doc)
paint_asked doc at n m alters why h =
    let long : length (text_of doc) ≡ length doc = length-text_of doc in
    subst (λ (k : ℕ). IsAltered (paint k at n m) (λ a j. paint k a j m) at n alters (text_of doc)) long
    (paint_altered (text_of doc) at n m alters why (omega (arith, long, h)))

pub nothing_gone : (n k : ℕ) (alters : Bool) → MatchBool alters (1 ≤ n + k) (n + k ≡ 0) → alters ≡ false → n ≡ 0
nothing_gone n k true why e = absurd cc
nothing_gone n k false why e = omega (arith, why)
