-- Pieces are documents exactly where no half of a pair stands alone in its gap.
use Rattle.std.proofs.Common.{◌≡◌, ℕ, zero, suc, ◌+◌, ◌-◌, Bool, true, false, cond, not, ◌&&◌, ◌||◌, List, [], ◌∷◌, ◌++◌, Option, Some, None, refl, sym, ap, ◌∙◌, append_assoc, append-nil}
use Rattle.ep_units.specs.Text.{Text, is_high, is_low, is_paired}
use Rattle.ep_attr.specs.AttrMap.{AttrMap, same_map}
use Rattle.ep_cs.specs.Doc.{Cell, text_of, has_equal_halves, is_document}
use Rattle.ep_cs.specs.Edit.{Step, settle}
use Rattle.ep_cs.specs.Edit.Step.{Insert, Pass}
use Rattle.ep_cs.specs.Edit.Fate.{Drop, Keep}
use Rattle.ep_cs.specs.declared.op.Op.{Op}
use Rattle.ep_cs.specs.Runs.{steps_of, all_passed, rest_kept}
use Rattle.ep_cs.specs.Change.{change_of}
use Rattle.ep_cs.specs.Fits.{AreDocuments}
use Rattle.ep_csread.specs.Reading.{first_half}
use Rattle.ep_csread.proofs.Cuts.{low_not_high}

-- cells that are a document behind a first half with this map
abbrev goes_on : Option AttrMap → List Cell → Bool
goes_on None [] = true
goes_on (Some h) [] = false
goes_on None (c ∷ cs) = cond (is_high c.unit) (goes_on (Some c.attrs) cs) (not (is_low c.unit) && goes_on None cs)
goes_on (Some h) (c ∷ cs) = (is_low c.unit && same_map h c.attrs) && goes_on None cs

abbrev is_half : Option AttrMap → Bool
is_half None = false
is_half (Some h) = true

abbrev first_is : Option AttrMap → List Cell → Bool
first_is None cs = true
first_is (Some h) [] = true
first_is (Some h) (c ∷ cs) = same_map h c.attrs

-- such cells, as the two parts of a document
same_parts : (half : Option AttrMap) (cs : List Cell) → goes_on half cs ≡ (is_paired (is_half half) (text_of cs) && (first_is half cs && has_equal_halves cs))
same_parts None [] = refl
same_parts (Some h) [] = refl
same_parts None (c ∷ cs) = go (is_high c.unit) refl (same_parts (Some c.attrs) cs) (same_parts None cs)
  where
    halves : (b : Bool) (cs : List Cell) → is_high c.unit ≡ b → has_equal_halves (c ∷ cs) ≡ (cond b (first_is (Some c.attrs) cs) true && has_equal_halves cs)
    halves true [] e = refl
    halves false [] e = refl
    halves true (d ∷ ds) e = ap (λ (x : Bool). (not x || same_map c.attrs d.attrs) && has_equal_halves (d ∷ ds)) e
    halves false (d ∷ ds) e = ap (λ (x : Bool). (not x || same_map c.attrs d.attrs) && has_equal_halves (d ∷ ds)) e

    high_not_low : (u : ℕ) → is_high u ≡ true → is_low u ≡ false
    high_not_low u e = by (is_low u) refl
      where
        by : (b : Bool) → is_low u ≡ b → b ≡ false
        by false q = refl
        by true q = let n = low_not_high u q in absurd cc

    and_assoc : (a b c : Bool) → ((a && b) && c) ≡ (a && (b && c))
    and_assoc true b c = refl
    and_assoc false b c = refl

    go : (b : Bool) → is_high c.unit ≡ b
        → goes_on (Some c.attrs) cs ≡ (is_paired true (text_of cs) && (first_is (Some c.attrs) cs && has_equal_halves cs))
        → goes_on None cs ≡ (is_paired false (text_of cs) && (true && has_equal_halves cs))
        → cond b (goes_on (Some c.attrs) cs) (not (is_low c.unit) && goes_on None cs) ≡ ((not (is_low c.unit) && is_paired (is_high c.unit) (text_of cs)) && (true && has_equal_halves (c ∷ cs)))
    go true b high plain =
        high ∙ (λ i. is_paired (sym b i) (text_of cs) && (sym (halves true cs b) i))
        ∙ ap (λ (x : Bool). (not x && is_paired (is_high c.unit) (text_of cs)) && has_equal_halves (c ∷ cs)) (sym (high_not_low c.unit b))
    go false b high plain =
        ap (λ (x : Bool). not (is_low c.unit) && x) plain
        ∙ (λ i. not (is_low c.unit) && (is_paired (sym b i) (text_of cs) && sym (halves false cs b) i))
        ∙ sym (and_assoc (not (is_low c.unit)) (is_paired (is_high c.unit) (text_of cs)) (has_equal_halves (c ∷ cs)))
same_parts (Some h) (c ∷ cs) = go (is_low c.unit) refl (same_map h c.attrs) (same_parts None cs)
  where
    halves : (b : Bool) (cs : List Cell) → is_high c.unit ≡ false → has_equal_halves (c ∷ cs) ≡ has_equal_halves cs
    halves b [] e = refl
    halves b (d ∷ ds) e = ap (λ (x : Bool). (not x || same_map c.attrs d.attrs) && has_equal_halves (d ∷ ds)) e

    turn : (a b c : Bool) → (b && (a && c)) ≡ (a && (b && c))
    turn true true c = refl
    turn true false c = refl
    turn false true c = refl
    turn false false c = refl

    go : (b : Bool) → is_low c.unit ≡ b → (m : Bool) → goes_on None cs ≡ (is_paired false (text_of cs) && (true && has_equal_halves cs))
        → ((is_low c.unit && m) && goes_on None cs) ≡ ((is_low c.unit && is_paired (is_high c.unit) (text_of cs)) && (m && has_equal_halves (c ∷ cs)))
    go false b m plain = (λ i. (b i && m) && goes_on None cs) ∙ sym (λ i. (b i && is_paired (is_high c.unit) (text_of cs)) && (m && has_equal_halves (c ∷ cs)))
    go true b m plain =
        let high : is_high c.unit ≡ false = low_not_high c.unit b in
        (λ i. (b i && m) && plain i) ∙ turn (is_paired false (text_of cs)) m (has_equal_halves cs)
        ∙ sym (λ i. (b i && is_paired (high i) (text_of cs)) && (m && halves true cs high i))

pub same_document : (cs : List Cell) → goes_on None cs ≡ is_document cs
same_document cs = same_parts None cs

-- what waits in a gap leads to this half
abbrev Leads : Option AttrMap → List Cell → Type 0
Leads half waiting = (cs : List Cell) → goes_on None (waiting ++ cs) ≡ goes_on half cs

nothing_leads : Leads None []
nothing_leads cs = refl

one_more : (half half' : Option AttrMap) (waiting : List Cell) (c : Cell) → Leads half waiting → ((cs : List Cell) → goes_on half (c ∷ cs) ≡ goes_on half' cs) → Leads half' (waiting ++ c ∷ [])
one_more half half' waiting c l e cs = ap (goes_on None) (append_assoc waiting (c ∷ []) cs) ∙ l (c ∷ cs) ∙ e cs

document_is : (waiting : List Cell) → Leads None waiting → is_document waiting ≡ true
document_is waiting l = sym (same_document waiting) ∙ ap (goes_on None) (sym (append-nil waiting)) ∙ l []

no_document : (waiting : List Cell) (h : AttrMap) → Leads (Some h) waiting → is_document waiting ≡ true → ⊥
no_document waiting h l e = let f : true ≡ false = sym e ∙ sym (same_document waiting) ∙ ap (goes_on None) (sym (append-nil waiting)) ∙ l [] in cc

high_on : (c : Cell) → is_high c.unit ≡ true → (cs : List Cell) → goes_on None (c ∷ cs) ≡ goes_on (Some c.attrs) cs
high_on c b cs = ap (λ (x : Bool). cond x (goes_on (Some c.attrs) cs) (not (is_low c.unit) && goes_on None cs)) b

plain_on : (c : Cell) → is_high c.unit ≡ false → is_low c.unit ≡ false → (cs : List Cell) → goes_on None (c ∷ cs) ≡ goes_on None cs
plain_on c b l cs =
    ap (λ (x : Bool). cond x (goes_on (Some c.attrs) cs) (not (is_low c.unit) && goes_on None cs)) b
    ∙ ap (λ (x : Bool). not x && goes_on None cs) l

low_on : (c : Cell) → is_high c.unit ≡ false → is_low c.unit ≡ true → (cs : List Cell) → goes_on None (c ∷ cs) ≡ false
low_on c b l cs =
    ap (λ (x : Bool). cond x (goes_on (Some c.attrs) cs) (not (is_low c.unit) && goes_on None cs)) b
    ∙ ap (λ (x : Bool). not x && goes_on None cs) l

second_on : (h : AttrMap) (c : Cell) → (is_low c.unit && same_map h c.attrs) ≡ true → (cs : List Cell) → goes_on (Some h) (c ∷ cs) ≡ goes_on None cs
second_on h c b cs = ap (λ (x : Bool). x && goes_on None cs) b

other_on : (h : AttrMap) (c : Cell) → (is_low c.unit && same_map h c.attrs) ≡ false → (cs : List Cell) → goes_on (Some h) (c ∷ cs) ≡ false
other_on h c b cs = ap (λ (x : Bool). x && goes_on None cs) b

abbrev Documents : List Cell → List Step → Type 0
Documents waiting steps = AreDocuments (settle waiting steps).places (settle waiting steps).last

pub pieces_are : (steps : List Step) (at : ℕ) (half : Option AttrMap) (waiting : List Cell) → Leads half waiting → first_half at half steps ≡ None → Documents waiting steps
pieces_are [] at None waiting l e = document_is waiting l
pieces_are [] at (Some h) waiting l e = absurd cc
pieces_are (Pass Drop ∷ steps) at None waiting l e = (refl, pieces_are steps at None waiting l e)
pieces_are (Pass Drop ∷ steps) at (Some h) waiting l e = (refl, pieces_are steps at (Some h) waiting l e)
pieces_are (Pass (Keep m) ∷ steps) at None waiting l e = (document_is waiting l, pieces_are steps at None [] nothing_leads e)
pieces_are (Pass (Keep m) ∷ steps) at (Some h) waiting l e = absurd cc
pieces_are (Insert c ∷ steps) at None waiting l e =
    go (λ half k f. pieces_are steps (at + 1) half (waiting ++ c ∷ []) k f) (is_high c.unit) (is_low c.unit) refl refl e
  where
    go : ((half : Option AttrMap) → Leads half (waiting ++ c ∷ []) → first_half (at + 1) half steps ≡ None → Documents (waiting ++ c ∷ []) steps)
        → (b low : Bool) → is_high c.unit ≡ b → is_low c.unit ≡ low → cond b (first_half (at + 1) (Some c.attrs) steps) (cond low (Some at) (first_half (at + 1) None steps)) ≡ None → Documents (waiting ++ c ∷ []) steps
    go again true low b k e = again (Some c.attrs) (one_more None (Some c.attrs) waiting c l (high_on c b)) e
    go again false true b k e = absurd cc
    go again false false b k e = again None (one_more None None waiting c l (plain_on c b k)) e
pieces_are (Insert c ∷ steps) at (Some h) waiting l e = go (λ k f. pieces_are steps (at + 1) None (waiting ++ c ∷ []) k f) (is_low c.unit && same_map h c.attrs) refl e
  where
    go : (Leads None (waiting ++ c ∷ []) → first_half (at + 1) None steps ≡ None → Documents (waiting ++ c ∷ []) steps)
        → (b : Bool) → (is_low c.unit && same_map h c.attrs) ≡ b → cond b (first_half (at + 1) None steps) (Some (at - 1)) ≡ None → Documents (waiting ++ c ∷ []) steps
    go again true b e = again (one_more (Some h) None waiting c l (second_on h c b)) e
    go again false b e = absurd cc

-- what waits begins a piece
begun : (steps : List Step) (waiting : List Cell) → Documents waiting steps → (more : List Cell) × (goes_on None (waiting ++ more) ≡ true)
begun [] waiting d = ([], ap (goes_on None) (append-nil waiting) ∙ same_document waiting ∙ d)
begun (Pass Drop ∷ steps) waiting d = begun steps waiting d.1
begun (Pass (Keep m) ∷ steps) waiting d = ([], ap (goes_on None) (append-nil waiting) ∙ same_document waiting ∙ d.0)
begun (Insert c ∷ steps) waiting d = let b = begun steps (waiting ++ c ∷ []) d in (c ∷ b.0, ap (goes_on None) (sym (append_assoc waiting (c ∷ []) b.0)) ∙ b.1)

no_more : (half : Option AttrMap) (steps : List Step) (waiting : List Cell) (c : Cell) → Leads half waiting → ((cs : List Cell) → goes_on half (c ∷ cs) ≡ false) → Documents (waiting ++ c ∷ []) steps → ⊥
no_more half steps waiting c l e d =
    let b = begun steps (waiting ++ c ∷ []) d in
    let f : true ≡ false = sym b.1 ∙ ap (goes_on None) (append_assoc waiting (c ∷ []) b.0) ∙ l (c ∷ b.0) ∙ e b.0 in
    cc

pub none_alone : (steps : List Step) (at : ℕ) (half : Option AttrMap) (waiting : List Cell) → Leads half waiting → Documents waiting steps → first_half at half steps ≡ None
none_alone [] at None waiting l d = refl
none_alone [] at (Some h) waiting l d = absurd (no_document waiting h l d)
none_alone (Pass Drop ∷ steps) at None waiting l d = none_alone steps at None waiting l d.1
none_alone (Pass Drop ∷ steps) at (Some h) waiting l d = none_alone steps at (Some h) waiting l d.1
none_alone (Pass (Keep m) ∷ steps) at None waiting l d = none_alone steps at None [] nothing_leads d.1
none_alone (Pass (Keep m) ∷ steps) at (Some h) waiting l d = absurd (no_document waiting h l d.0)
none_alone (Insert c ∷ steps) at None waiting l d =
    go (λ half k. none_alone steps (at + 1) half (waiting ++ c ∷ []) k d) (is_high c.unit) (is_low c.unit) refl refl
  where
    go : ((half : Option AttrMap) → Leads half (waiting ++ c ∷ []) → first_half (at + 1) half steps ≡ None)
        → (b low : Bool) → is_high c.unit ≡ b → is_low c.unit ≡ low → cond b (first_half (at + 1) (Some c.attrs) steps) (cond low (Some at) (first_half (at + 1) None steps)) ≡ None
    go again true low b k = again (Some c.attrs) (one_more None (Some c.attrs) waiting c l (high_on c b))
    go again false true b k = absurd (no_more None steps waiting c l (low_on c b k) d)
    go again false false b k = again None (one_more None None waiting c l (plain_on c b k))
none_alone (Insert c ∷ steps) at (Some h) waiting l d = go (λ k. none_alone steps (at + 1) None (waiting ++ c ∷ []) k d) (is_low c.unit && same_map h c.attrs) refl
  where
    go : (Leads None (waiting ++ c ∷ []) → first_half (at + 1) None steps ≡ None)
        → (b : Bool) → (is_low c.unit && same_map h c.attrs) ≡ b → cond b (first_half (at + 1) None steps) (Some (at - 1)) ≡ None
    go again true b = again (one_more (Some h) None waiting c l (second_on h c b))
    go again false b = absurd (no_more (Some h) steps waiting c l (other_on h c b) d)

-- kept places behind the last operation cut nothing more
rest_none : (r at : ℕ) → first_half at None (rest_kept r) ≡ None
rest_none zero at = refl
rest_none (suc r) at = rest_none r at

with_rest : (steps : List Step) (r at : ℕ) (half : Option AttrMap) → first_half at half (steps ++ rest_kept r) ≡ first_half at half steps
with_rest [] r at None = rest_none r at
with_rest [] zero at (Some h) = refl
with_rest [] (suc r) at (Some h) = refl
with_rest (Pass Drop ∷ steps) r at None = with_rest steps r at None
with_rest (Pass Drop ∷ steps) r at (Some h) = with_rest steps r at (Some h)
with_rest (Pass (Keep m) ∷ steps) r at None = with_rest steps r at None
with_rest (Pass (Keep m) ∷ steps) r at (Some h) = refl
with_rest (Insert c ∷ steps) r at None =
    λ i. cond (is_high c.unit) (with_rest steps r (at + 1) (Some c.attrs) i) (cond (is_low c.unit) (Some at) (with_rest steps r (at + 1) None i))
with_rest (Insert c ∷ steps) r at (Some h) = λ i. cond (is_low c.unit && same_map h c.attrs) (with_rest steps r (at + 1) None i) (Some (at - 1))

pub are_pieces : (old : ℕ) (ops : List Op) (bank : Text) → first_half 0 None (steps_of ops bank) ≡ None → AreDocuments (change_of old ops bank).edit.places (change_of old ops bank).edit.last
are_pieces old ops bank e =
    let r = old - all_passed ops in
    pieces_are (steps_of ops bank ++ rest_kept r) 0 None [] nothing_leads (with_rest (steps_of ops bank) r 0 None ∙ e)

pub no_half : (old : ℕ) (ops : List Op) (bank : Text) → AreDocuments (change_of old ops bank).edit.places (change_of old ops bank).edit.last → first_half 0 None (steps_of ops bank) ≡ None
no_half old ops bank d =
    let r = old - all_passed ops in
    sym (with_rest (steps_of ops bank) r 0 None) ∙ none_alone (steps_of ops bank ++ rest_kept r) 0 None [] nothing_leads d
