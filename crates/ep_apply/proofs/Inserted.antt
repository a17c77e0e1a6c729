-- A document, inserted stretch by stretch.
use Rattle.std.proofs.Common.{◌≡◌, ℕ, ◌+◌, ◌-◌, ◌<◌, ◌^◌, true, List, [], ◌∷◌, ◌++◌, length, refl, sym, ap, ◌∙◌, subst, arith, append_assoc, append-nil, length-append}
use Rattle.std.proofs.lemmas.List.{map-append}
use Rattle.ep_units.specs.Text.{Text}
use Rattle.ep_attr.specs.AttrMap.{AttrMap, none, after}
use Rattle.ep_cs.specs.Doc.{Cell, is_document}
use Rattle.ep_cs.specs.Edit.{Step, inserts, edit_of}
use Rattle.ep_cs.specs.Edit.Step.{Insert}
use Rattle.ep_cs.specs.Runs.{cells, rest_kept}
use Rattle.ep_cs.specs.Steps.{passed}
use Rattle.ep_cs.specs.Draft.{Draft, blank, drafted, inserting, dropped_by, inserted_by, new_length}
use Rattle.ep_cs.specs.Fits.{AreDocuments}
use Rattle.ep_cs.specs.Change.{Change, change_with}
use Rattle.ep_cs.proofs.Canonical.{settle-inserts}
use Rattle.ep_cs.proofs.Drafts.{inserted-append}
use Rattle.ep_apply.specs.Documents.{HasNoEmpty, insertion, inserting_all}
use Rattle.ep_blocks.proofs.Pieces.{length_cells}

-- what is left of a document is still to be inserted
pub record IsInserting (doc : List Cell) (start d : Draft) (rest : List Cell) : Type 0 where
  pub steps : d.steps ++ inserts rest ≡ start.steps ++ inserts doc
  pub old : d.old ≡ start.old
  pub marks : d.marks ≡ start.marks
  pub values : HasNoEmpty rest

pub begin_inserting : (doc rest : List Cell) (d : Draft) → rest ≡ doc → HasNoEmpty doc → IsInserting doc d d rest
begin_inserting doc rest d e v = record { steps = ap (λ cs. d.steps ++ inserts cs) e; old = refl; marks = refl; values = subst HasNoEmpty (sym e) v }

set_alike : (m : AttrMap) (us : Text) (rest : List Cell) → HasNoEmpty (cells m us ++ rest) → cells (after none m) us ≡ cells m us
set_alike m [] rest h = refl
set_alike m (u ∷ us) rest h = ap (λ m. cells m (u ∷ us)) (sym h.0)

behind : (front rest : List Cell) → HasNoEmpty (front ++ rest) → HasNoEmpty rest
behind [] rest h = h
behind (c ∷ cs) rest h = behind cs rest h.1

pub more_inserting : (doc : List Cell) (start d d' : Draft) (m : AttrMap) (us : Text) (rest later : List Cell) → IsInserting doc start d rest → rest ≡ cells m us ++ later → d' ≡ inserting d us m → IsInserting doc start d' later
more_inserting doc start d d' m us rest later is cut told =
    let values = subst HasNoEmpty cut is.values in
    record {
      steps =
          ap (λ (d : Draft). d.steps ++ inserts later) told
          ∙ append_assoc d.steps (inserts (cells (after none m) us)) (inserts later)
          ∙ ap (λ cs. d.steps ++ (inserts cs ++ inserts later)) (set_alike m us later values)
          ∙ ap (λ (s : List Step). d.steps ++ s) (sym (map-append Insert (cells m us) later) ∙ ap inserts (sym cut))
          ∙ is.steps;
      old = ap (λ (d : Draft). d.old) told ∙ is.old;
      marks = ap (λ (d : Draft). d.marks) told ∙ is.marks;
      values = behind (cells m us) later values;
    }

cells_inserted : (cs : List Cell) → inserted_by (inserts cs) ≡ length cs
cells_inserted [] = refl
cells_inserted (c ∷ cs) = omega (arith, cells_inserted cs)

none_dropped : (cs : List Cell) → dropped_by (inserts cs) ≡ 0
none_dropped [] = refl
none_dropped (c ∷ cs) = none_dropped cs

all_inserted : (steps : List Step) (cs : List Cell) → inserted_by (steps ++ inserts cs) ≡ inserted_by steps + length cs
all_inserted steps cs = inserted-append steps (inserts cs) ∙ ap (λ (n : ℕ). inserted_by steps + n) (cells_inserted cs)

pub insert_short : (doc : List Cell) (start d : Draft) (m : AttrMap) (us : Text) (rest later : List Cell) → IsInserting doc start d rest → rest ≡ cells m us ++ later → inserted_by start.steps + length doc < 2 ^ 32 → inserted_by d.steps + length us < 2 ^ 32
insert_short doc start d m us rest later is cut short =
    omega (arith, all_inserted d.steps rest, ap inserted_by is.steps, all_inserted start.steps doc, ap length cut, length-append (cells m us) later, length_cells m us, short)

-- all is inserted
pub inserted_whole : (doc : List Cell) (start d : Draft) (rest : List Cell) → IsInserting doc start d rest → rest ≡ [] → d ≡ inserting_all start doc
inserted_whole doc start d rest is h =
    let steps : d.steps ≡ start.steps ++ inserts doc = sym (append-nil d.steps) ∙ ap (λ cs. d.steps ++ inserts cs) (sym h) ∙ is.steps in
    λ j. record { old = is.old j; steps = steps j; marks = is.marks j }

-- ---- on no units

none_passed : (cs : List Cell) → passed (inserts cs) ≡ 0
none_passed [] = refl
none_passed (c ∷ cs) = none_passed cs

pub is_insertion : (doc : List Cell) (d : Draft) → d ≡ inserting_all (blank 0) doc → drafted d ≡ insertion doc
is_insertion doc d e =
    let n : 0 - passed (inserts doc) ≡ 0 = omega arith in
    ap drafted e ∙ ap (λ (n : ℕ). change_with (edit_of (inserts doc ++ rest_kept n)) []) n ∙ ap (λ e. change_with e []) (settle-inserts [] doc [])

pub inserted_length : (doc : List Cell) (d : Draft) → d ≡ inserting_all (blank 0) doc → length doc < 2 ^ 32 → new_length d < 2 ^ 32
inserted_length doc d e short = omega (arith, ap new_length e, none_dropped doc, cells_inserted doc, short)

pub inserted_pieces : (doc : List Cell) (d : Draft) → d ≡ inserting_all (blank 0) doc → is_document doc ≡ true → AreDocuments (drafted d).edit.places (drafted d).edit.last
inserted_pieces doc d e pairs = subst (λ (c : Change). AreDocuments c.edit.places c.edit.last) (sym (is_insertion doc d e)) pairs
