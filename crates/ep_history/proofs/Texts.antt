-- Texts stay texts, a step ends in a newline, and the server's text fits.
use Rattle.std.proofs.Common.{◌≡◌, ℕ, zero, suc, ◌+◌, ◌-◌, ◌≤◌, Bool, true, false, cond, not, ◌||◌, if◌then◌else◌, List, [], ◌∷◌, ◌++◌, length, refl, sym, ap, ◌∙◌, subst, T, arith, append_assoc, append-nil}
use Rattle.std.proofs.lemmas.Bool.Decides.{nat_tests}
use Rattle.ep_units.specs.Text.{Text, is_high, is_low, is_paired, is_well_formed, is_newline}
use Rattle.ep_attr.specs.AttrMap.{none}
use Rattle.ep_cs.specs.Doc.{Cell, Doc, text_of, painted}
use Rattle.ep_cs.specs.Edit.{Step, inserts, settle, with_place, Place, Edit, is_empty, are_settled, over, apply, identity}
use Rattle.ep_cs.specs.Splice.{kept, dropped, splice}
use Rattle.ep_cs.specs.Plain.{plain}
use Rattle.ep_cs.proofs.Plain.{text_of-plain}
use Rattle.ep_cs.specs.Edit.Fate.{Drop, Keep}
use Rattle.ep_cs.specs.Fits.{keeps_pairs}
use Rattle.ep_cs.specs.Fits.{ArePieces}
use Rattle.ep_attr.proofs.SameMap.{both_true, first_true, second_true}
use Rattle.ep_cs.specs.EditFits.{fits}
use Rattle.ep_history.specs.History.{newline_rev, lacks_newline, made, newline, newline_edit}
use Rattle.ep_history.specs.Server.{set_edit, EndsInNewline, TextFits, TextsStay}
use Rattle.ep_cs.proofs.Whole.{is_kept}
use Rattle.ep_cs.proofs.EditFits.{fits_true, true_fits, text-apply}

-- ---- texts stay texts

pub texts-stay : TextsStay
texts-stay e doc f t = text-apply e doc (fits_true e doc f) t

-- ---- a step ends in a newline

over-newline : (doc : Doc) → lacks_newline (over painted (λ c. c) (identity (length doc)).places newline doc) ≡ false
over-newline [] = refl
over-newline (c ∷ []) = refl
over-newline (c ∷ (d ∷ doc)) = over-newline (d ∷ doc)

pub ends-in-newline : EndsInNewline
ends-in-newline e doc = go (lacks_newline (apply e doc)) refl
  where
    go : (t : Bool) → lacks_newline (apply e doc) ≡ t
        → lacks_newline (made (apply e doc) (if t then newline_rev 0 (apply e doc) ∷ [] else [])) ≡ false
    go true h = over-newline (apply e doc)
    go false h = h

-- ---- the server's text

-- every unit dropped
abbrev drop_all : Doc → List Place
drop_all [] = []
drop_all (c ∷ doc) = record { before = []; fate = Drop } ∷ drop_all doc

-- every unit but the last dropped, and these cells before that
abbrev drop_but_last : List Cell → Doc → List Place
drop_but_last cells [] = []
drop_but_last cells (c ∷ []) = record { before = cells; fate = Keep none } ∷ []
drop_but_last cells (c ∷ (d ∷ doc)) = record { before = []; fate = Drop } ∷ drop_but_last cells (d ∷ doc)

settle-new : (waiting cells : List Cell) (steps : List Step) → settle waiting (inserts cells ++ steps) ≡ settle (waiting ++ cells) steps
settle-new waiting [] steps = ap (λ w. settle w steps) (sym (append-nil waiting))
settle-new waiting (c ∷ cells) steps = settle-new (waiting ++ c ∷ []) cells steps ∙ ap (λ w. settle w steps) (append_assoc waiting (c ∷ []) cells)

all-dropped : (cells : List Cell) (doc : Doc) (m : ℕ) → m ≡ 0 → settle [] (dropped (length doc) ++ (inserts cells ++ kept m)) ≡ record { places = drop_all doc; last = cells }
all-dropped cells [] m e = settle-new [] cells (kept m) ∙ ap (λ n. settle cells (kept n)) e
all-dropped cells (c ∷ doc) m e = ap (with_place (record { before = []; fate = Drop })) (all-dropped cells doc m e)

but-last-dropped : (cells : List Cell) (doc : Doc) (k m : ℕ) → suc k ≡ length doc → m ≡ 1 → settle [] (dropped k ++ (inserts cells ++ kept m)) ≡ record { places = drop_but_last cells doc; last = [] }
but-last-dropped cells [] k m e h = absurd (omega (arith, e))
but-last-dropped cells (c ∷ []) zero m e h = settle-new [] cells (kept m) ∙ ap (λ n. settle cells (kept n)) h
but-last-dropped cells (c ∷ []) (suc k) m e h = absurd (omega (arith, e))
but-last-dropped cells (c ∷ (d ∷ doc)) zero m e h = absurd (omega (arith, e))
but-last-dropped cells (c ∷ (d ∷ doc)) (suc k) m e h = ap (with_place (record { before = []; fate = Drop })) (but-last-dropped cells (d ∷ doc) k m (omega (arith, e)) h)

pub some-units : (doc : Doc) → lacks_newline doc ≡ false → 1 ≤ length doc
some-units [] e = absurd (subst T e tt)
some-units (c ∷ doc) e = omega arith

or_true : (a b : Bool) → b ≡ true → (a || b) ≡ true
or_true true b e = refl
or_true false b e = e

or_left : (a b : Bool) → a ≡ true → (a || b) ≡ true
or_left true b e = refl
or_left false b e = absurd (subst T (sym e) tt)

newline-unit : (u : ℕ) → is_newline u ≡ true → u ≡ 10
newline-unit u e = grind (arith, nat_tests)

low-then : (h : Bool) (u : ℕ) (us : Text) → is_paired h (u ∷ us) ≡ true → u ≡ 10 → not h ≡ true
low-then true u us e z = absurd (subst T (sym (first_true (is_low u) _ e) ∙ ap is_low z) tt)
low-then false u us e z = refl

not-not : (b : Bool) → not b ≡ false → b ≡ true
not-not true e = refl
not-not false e = absurd (subst T e tt)

-- the last unit is a newline, and the one before it no first half
but-last-pairs : (cells : List Cell) (half : Bool) (doc : Doc) → is_paired half (text_of doc) ≡ true → lacks_newline doc ≡ false → keeps_pairs (drop_but_last cells doc) (text_of doc) ≡ true
but-last-pairs cells half [] t e = refl
but-last-pairs cells half (c ∷ []) t e = both_true _ _ (or_left _ _ (ap (λ u. not (is_high u)) (newline-unit c.unit (not-not _ e)))) refl
but-last-pairs cells half (c ∷ (d ∷ [])) t e =
    let r = second_true (cond half (is_low c.unit) (not (is_low c.unit))) _ t in
    both_true _ _ (or_left _ _ (low-then (is_high c.unit) d.unit [] r (newline-unit d.unit (not-not _ e)))) (but-last-pairs cells (is_high c.unit) (d ∷ []) r e)
but-last-pairs cells half (c ∷ (d ∷ (f ∷ doc))) t e =
    both_true _ _ (or_true _ _ refl) (but-last-pairs cells (is_high c.unit) (d ∷ (f ∷ doc)) (second_true (cond half (is_low c.unit) (not (is_low c.unit))) _ t) e)

all-pairs : (half : Bool) (doc : Doc) → is_paired half (text_of doc) ≡ true → keeps_pairs (drop_all doc) (text_of doc) ≡ true
all-pairs half [] t = refl
all-pairs half (c ∷ []) t = both_true _ _ (or_left _ _ (second_true (cond half (is_low c.unit) (not (is_low c.unit))) _ t)) refl
all-pairs half (c ∷ (d ∷ doc)) t = both_true _ _ (or_true _ _ refl) (all-pairs (is_high c.unit) (d ∷ doc) (second_true (cond half (is_low c.unit) (not (is_low c.unit))) _ t))

length-all : (doc : Doc) → length doc ≡ length (drop_all doc)
length-all [] = refl
length-all (c ∷ doc) = ap suc (length-all doc)

length-but : (cells : List Cell) (doc : Doc) → length doc ≡ length (drop_but_last cells doc)
length-but cells [] = refl
length-but cells (c ∷ []) = refl
length-but cells (c ∷ (d ∷ doc)) = ap suc (length-but cells (d ∷ doc))

settled-all : (doc : Doc) → are_settled (drop_all doc) ≡ true
settled-all [] = refl
settled-all (c ∷ doc) = settled-all doc

settled-but : (cells : List Cell) (doc : Doc) → are_settled (drop_but_last cells doc) ≡ true
settled-but cells [] = refl
settled-but cells (c ∷ []) = refl
settled-but cells (c ∷ (d ∷ doc)) = settled-but cells (d ∷ doc)

pieces-all : (cells : List Cell) (doc : Doc) → is_well_formed (text_of cells) ≡ true → ArePieces (drop_all doc) cells
pieces-all cells [] w = w
pieces-all cells (c ∷ doc) w = (refl, pieces-all cells doc w)

pieces-but : (cells : List Cell) (doc : Doc) → is_well_formed (text_of cells) ≡ true → ArePieces (drop_but_last cells doc) []
pieces-but cells [] w = refl
pieces-but cells (c ∷ []) w = (w, refl)
pieces-but cells (c ∷ (d ∷ doc)) w = (refl, pieces-but cells (d ∷ doc) w)

pub text-fits : TextFits
text-fits text doc w t e = go (lacks_newline (plain text))
  where
    cw : is_well_formed (text_of (plain text)) ≡ true
    cw = ap is_well_formed (text_of-plain text) ∙ w

    n : 1 ≤ length doc
    n = some-units doc e

    go : (b : Bool) → fits (if b then splice (length doc) 0 (length doc - 1) (plain text) else splice (length doc) 0 (length doc) (plain text)) doc ≡ true
    go true =
        ap (λ x. fits x doc) (but-last-dropped (plain text) doc (length doc - 1) (length doc - (0 + (length doc - 1))) (omega (arith, n)) (omega (arith, n)))
        ∙ true_fits _ doc (record { long = length-but (plain text) doc; pairs = but-last-pairs (plain text) false doc t e; settled = settled-but (plain text) doc; pieces = pieces-but (plain text) doc cw })
    go false =
        ap (λ x. fits x doc) (all-dropped (plain text) doc (length doc - (0 + length doc)) (omega arith))
        ∙ true_fits _ doc (record { long = length-all doc; pairs = all-pairs false doc t; settled = settled-all doc; pieces = pieces-all (plain text) doc cw })

-- ---- it is no newline's

abbrev keeps_first : List Place → Bool
keeps_first [] = true
keeps_first (p ∷ ps) = is_kept p.fate

abbrev has_last : Edit → Bool
has_last e = not (is_empty e.last)

pub set-no-newline : (text : Text) (doc : Doc) → 1 ≤ length doc → set_edit text doc ≡ newline_edit (length doc) → ⊥
set-no-newline text doc n e = go (lacks_newline (plain text)) e
  where
    one : (b : Bool) → b ≡ true → b ≡ false → ⊥
    one true p q = absurd (subst T q tt)
    one false p q = absurd (subst T (sym p) tt)

    all : (doc : Doc) → 1 ≤ length doc → ◌≡◌ {A = Edit} (record { places = drop_all doc; last = plain text }) (newline_edit (length doc)) → ⊥
    all [] n e = absurd (omega (arith, n))
    all (c ∷ doc) n e = one (keeps_first (drop_all (c ∷ doc))) (ap (λ (x : Edit). keeps_first x.places) e) refl

    go : (b : Bool) → (if b then splice (length doc) 0 (length doc - 1) (plain text) else splice (length doc) 0 (length doc) (plain text)) ≡ newline_edit (length doc) → ⊥
    go true e = one (has_last (record { places = drop_but_last (plain text) doc; last = [] })) (ap has_last (sym (but-last-dropped (plain text) doc (length doc - 1) (length doc - (0 + (length doc - 1))) (omega (arith, n)) (omega (arith, n))) ∙ e)) refl
    go false e = all doc n (sym (all-dropped (plain text) doc (length doc - (0 + length doc)) (omega arith)) ∙ e)
