-- What an edit's steps insert, and what signs it step by step.
use Rattle.std.proofs.Common.{◌≡◌, ℕ, zero, suc, ◌+◌, ◌≤◌, Bool, true, false, ◌||◌, List, [], ◌∷◌, ◌++◌, map, length, take, drop, replicate, refl, sym, ap, ap₂, ◌∙◌, arith, append_assoc, append-nil}
use Rattle.std.specs.List.{list_any}
use Rattle.std.proofs.lemmas.List.Folds.{list_any-append}
use Rattle.ep_units.specs.Text.{Text}
use Rattle.ep_attr.specs.AttrMap.{AttrMap, none}
use Rattle.ep_cs.specs.Doc.{Cell}
use Rattle.ep_cs.specs.Edit.{Fate, Place, Edit, Step, Item, at_place, over, inserts, settle, edit_of, items, painted_item, numbered, pieces, compose}
use Rattle.ep_cs.specs.Edit.Fate.{Drop, Keep}
use Rattle.ep_cs.specs.Edit.Step.{Insert, Pass}
use Rattle.ep_cs.specs.Edit.Item.{Kept, New}
use Rattle.ep_cs.specs.Steps.{passed, run}
use Rattle.ep_cs.specs.Change.{Change, bank_of, newlines}
use Rattle.ep_cs.specs.Draft.{inserted_by}
use Rattle.ep_cs.specs.NormalRuns.{IsLined, IsRun, AreNormal, IsNormal}
use Rattle.ep_cs.specs.Runs.{cells, inserted, run_steps, steps_of, rest_kept}
use Rattle.ep_cs.specs.declared.op.Kind.{Kind}
use Rattle.ep_cs.specs.declared.op.Kind.TheVariants as kind
use Rattle.ep_cs.specs.declared.op.Op.{Op}
use Rattle.ep_cs.proofs.Composed.{over-settle}
use Rattle.ep_cs.proofs.Items.{length-settle, items-compose}
use Rattle.ep_cursor.specs.Left.{left_of, steps_left}
use Rattle.ep_cursor.specs.Made.{given}
use Rattle.ep_cursor.proofs.Starts.{edit_left}
use Rattle.ep_sign.specs.Signing.{names_another, inserts_another, mark, kept_with, signing, signed}
use Rattle.ep_sign.specs.Writing.{inserted_as, is_anothers, keeps}
use Rattle.ep_sign.proofs.Signed.{placed, signed_is, signed_names_no_other}

-- ---- which units are kept, and with what

pub keeps-append : (author : Text) (s t : List Step) → keeps author (s ++ t) ≡ keeps author s ++ keeps author t
keeps-append author [] t = refl
keeps-append author (Insert c ∷ s) t = ap (λ x. Pass (Keep (mark author c.attrs)) ∷ x) (keeps-append author s t)
keeps-append author (Pass Drop ∷ s) t = keeps-append author s t
keeps-append author (Pass (Keep m) ∷ s) t = ap (λ x. Pass (Keep none) ∷ x) (keeps-append author s t)

pub keeps_kept : (author : Text) (n : ℕ) (m : AttrMap) → keeps author (replicate n (Pass (Keep m))) ≡ replicate n (Pass (Keep none))
keeps_kept author zero m = refl
keeps_kept author (suc n) m = ap (λ x. Pass (Keep none) ∷ x) (keeps_kept author n m)

pub keeps_dropped : (author : Text) (n : ℕ) → keeps author (replicate n (Pass Drop)) ≡ []
keeps_dropped author zero = refl
keeps_dropped author (suc n) = keeps_dropped author n

pub keeps_new : (author : Text) (m : AttrMap) (us : Text) → keeps author (inserts (cells m us)) ≡ replicate (length us) (Pass (Keep (mark author m)))
keeps_new author m [] = refl
keeps_new author m (u ∷ us) = ap (λ x. Pass (Keep (mark author m)) ∷ x) (keeps_new author m us)

pub passed_keeps : (author : Text) (s : List Step) → passed (keeps author s) ≡ given s
passed_keeps author [] = refl
passed_keeps author (Insert c ∷ s) = ap suc (passed_keeps author s)
passed_keeps author (Pass Drop ∷ s) = passed_keeps author s
passed_keeps author (Pass (Keep m) ∷ s) = ap suc (passed_keeps author s)

pub inserted_keeps : (author : Text) (s : List Step) → inserted_by (keeps author s) ≡ 0
inserted_keeps author [] = refl
inserted_keeps author (Insert c ∷ s) = inserted_keeps author s
inserted_keeps author (Pass Drop ∷ s) = inserted_keeps author s
inserted_keeps author (Pass (Keep m) ∷ s) = inserted_keeps author s

-- ---- what signs the edit of steps

items_of : (s : List Step) → items (edit_of s) ≡ run painted_item New s (numbered 0 (passed s))
items_of s =
    over-settle painted_item New [] s (numbered 0 (length (edit_of s).places)) ∙ ap (λ (n : ℕ). run painted_item New s (numbered 0 n)) (length-settle [] s)

places_of : (author : Text) (i : ℕ) (s : List Step) → placed author (run painted_item New s (numbered i (passed s))) ≡ (edit_of (keeps author s)).places
places_of author i [] = refl
places_of author i (Insert c ∷ s) = ap (λ (ps : List Place). kept_with (mark author c.attrs) ∷ ps) (places_of author i s)
places_of author i (Pass Drop ∷ s) = places_of author (i + 1) s
places_of author i (Pass (Keep m) ∷ s) = ap (λ (ps : List Place). kept_with none ∷ ps) (places_of author (i + 1) s)

last_of : (author : Text) (s : List Step) → (edit_of (keeps author s)).last ≡ []
last_of author [] = refl
last_of author (Insert c ∷ s) = last_of author s
last_of author (Pass Drop ∷ s) = last_of author s
last_of author (Pass (Keep m) ∷ s) = last_of author s

pub signing_steps : (author : Text) (s : List Step) → signing author (edit_of s) ≡ edit_of (keeps author s)
signing_steps author s =
    let places : placed author (items (edit_of s)) ≡ (edit_of (keeps author s)).places = ap (placed author) (items_of s) ∙ places_of author 0 s in
    λ i. record { places = places i; last = sym (last_of author s) i }

-- ---- what steps insert

abbrev new_cells : List Step → List Cell
new_cells [] = []
new_cells (Insert c ∷ s) = c ∷ new_cells s
new_cells (Pass f ∷ s) = new_cells s

new_cells-append : (s t : List Step) → new_cells (s ++ t) ≡ new_cells s ++ new_cells t
new_cells-append [] t = refl
new_cells-append (Insert c ∷ s) t = ap (λ cs. c ∷ cs) (new_cells-append s t)
new_cells-append (Pass f ∷ s) t = new_cells-append s t

pieces_settle : (w : List Cell) (s : List Step) → pieces (settle w s).places (settle w s).last ≡ w ++ new_cells s
pieces_settle w [] = sym (append-nil w)
pieces_settle w (Insert c ∷ s) = pieces_settle (w ++ c ∷ []) s ∙ append_assoc w (c ∷ []) (new_cells s)
pieces_settle w (Pass Drop ∷ s) = pieces_settle w s
pieces_settle w (Pass (Keep m) ∷ s) = ap (λ cs. w ++ cs) (pieces_settle [] s)

abbrev is_such : Text → Cell → Bool
is_such author c = names_another author c.attrs

none_kept : (author : Text) (n : ℕ) (m : AttrMap) → list_any (is_such author) (new_cells (replicate n (Pass (Keep m)))) ≡ false
none_kept author zero m = refl
none_kept author (suc n) m = none_kept author n m

none_dropped : (author : Text) (n : ℕ) → list_any (is_such author) (new_cells (replicate n (Pass Drop))) ≡ false
none_dropped author zero = refl
none_dropped author (suc n) = none_dropped author n

new_inserts : (cs : List Cell) → new_cells (inserts cs) ≡ cs
new_inserts [] = refl
new_inserts (c ∷ cs) = ap (λ ds. c ∷ ds) (new_inserts cs)

or_false : (b : Bool) → (b || false) ≡ b
or_false true = refl
or_false false = refl

or_itself : (b : Bool) → (b || b) ≡ b
or_itself true = refl
or_itself false = refl

any_cells : (author : Text) (m : AttrMap) (us : Text) → 1 ≤ length us → list_any (is_such author) (cells m us) ≡ names_another author m
any_cells author m [] h = absurd (omega (arith, h))
any_cells author m (u ∷ []) h = or_false (names_another author m)
any_cells author m (u ∷ (v ∷ us)) h = ap (λ b. names_another author m || b) (any_cells author m (v ∷ us) (omega arith)) ∙ or_itself (names_another author m)

pub some_lined : (lines : ℕ) (us : Text) → IsLined lines (newlines us) → 1 ≤ length us
some_lined lines [] h = absurd h
some_lined lines (u ∷ us) h = omega arith

any_run : (author : Text) (k : Kind) (n lines : ℕ) (m : AttrMap) (text : Text) → IsRun k n lines m text → list_any (is_such author) (new_cells (run_steps k n m text)) ≡ inserted_as author k m
any_run author kind.Keep n lines m text is = none_kept author n m
any_run author kind.Drop n lines m text is = none_dropped author n
any_run author kind.Insert n lines m text is = ap (list_any (is_such author)) (new_inserts (cells m text)) ∙ any_cells author m text (some_lined lines text is.1)

any_runs : (author : Text) (os : List Op) (bank : Text) (r : ℕ) → AreNormal os bank → list_any (is_such author) (new_cells (steps_of os bank ++ rest_kept r)) ≡ list_any (is_anothers author) os
any_runs author [] bank r n = none_kept author r none
any_runs author (o ∷ os) bank r n =
    let here = run_steps o.kind o.units o.attrs (take (inserted o.kind o.units) bank) in
    let rest = steps_of os (drop (inserted o.kind o.units) bank) ++ rest_kept r in
    ap (λ (s : List Step). list_any (is_such author) (new_cells s)) (append_assoc here (steps_of os (drop (inserted o.kind o.units) bank)) (rest_kept r))
    ∙ ap (list_any (is_such author)) (new_cells-append here rest) ∙ list_any-append (is_such author) (new_cells here) (new_cells rest)
    ∙ ap₂ (λ a b. a || b) (any_run author o.kind o.units o.lines o.attrs (take (inserted o.kind o.units) bank) n.0) (any_runs author os (drop (inserted o.kind o.units) bank) r n.2)

-- the runs of a change tell whether it inserts what names another
pub anothers_found : (author : Text) (c : Change) → IsNormal c → inserts_another author c.edit ≡ list_any (is_anothers author) c.runs
anothers_found author c n =
    ap (inserts_another author) (edit_left c n) ∙ ap (list_any (is_such author)) (pieces_settle [] (steps_left (left_of c))) ∙ any_runs author c.runs (bank_of c.edit) (left_of c).rest n.normal

-- ---- an edit and what signs it as one

-- the new units of a result
abbrev news : List Item → List Cell
news [] = []
news (New c ∷ is) = c ∷ news is
news (Kept place m ∷ is) = news is

news_piece : (cs : List Cell) (is : List Item) → news (map New cs ++ is) ≡ cs ++ news is
news_piece [] is = refl
news_piece (c ∷ cs) is = ap (λ ds. c ∷ ds) (news_piece cs is)

news_last : (cs : List Cell) → news (map New cs) ≡ cs
news_last [] = refl
news_last (c ∷ cs) = ap (λ ds. c ∷ ds) (news_last cs)

news_place : (f : Fate) (i : ℕ) (is : List Item) → news (at_place painted_item New f (Kept i none) ++ is) ≡ news is
news_place Drop i is = refl
news_place (Keep m) i is = refl

pieces_are : (ps : List Place) (last : List Cell) (i : ℕ) → pieces ps last ≡ news (over painted_item New ps last (numbered i (length ps)))
pieces_are [] last i = sym (news_last last)
pieces_are (p ∷ ps) last i =
    let is : List Item = over painted_item New ps last (numbered (i + 1) (length ps)) in
    ap (λ (cs : List Cell). p.before ++ cs) (pieces_are ps last (i + 1) ∙ sym (news_place p.fate i is)) ∙ sym (news_piece p.before (at_place painted_item New p.fate (Kept i none) ++ is))

news_signed : (author : Text) (is : List Item) → news (over painted_item New (placed author is) [] is) ≡ map (signed author) (news is)
news_signed author [] = refl
news_signed author (New c ∷ is) = ap₂ (λ (d : Cell) (ds : List Cell). d ∷ ds) (signed_is author c) (news_signed author is)
news_signed author (Kept place m ∷ is) = news_signed author is

-- together they insert what the edit inserts, signed
pub pieces_signed : (author : Text) (e : Edit) → pieces (compose e (signing author e)).places (compose e (signing author e)).last ≡ map (signed author) (pieces e.places e.last)
pieces_signed author e =
    let both : Edit = compose e (signing author e) in
    pieces_are both.places both.last 0 ∙ ap news (items-compose e (signing author e)) ∙ news_signed author (items e) ∙ ap (map (signed author)) (sym (pieces_are e.places e.last 0))

none_signed : (author : Text) (cs : List Cell) → list_any (is_such author) (map (signed author) cs) ≡ false
none_signed author [] = refl
none_signed author (c ∷ cs) = ap₂ (λ a b. a || b) (signed_names_no_other author c) (none_signed author cs)

pub nothing_names_another : (author : Text) (e : Edit) → inserts_another author (compose e (signing author e)) ≡ false
nothing_names_another author e = ap (list_any (is_such author)) (pieces_signed author e) ∙ none_signed author (pieces e.places e.last)
