-- Each piece that a composition inserts is a document.
use Rattle.std.proofs.Common.{◌≡◌, ℕ, zero, suc, ◌+◌, ◌≤◌, Bool, true, false, cond, not, ◌||◌, List, [], ◌∷◌, ◌++◌, map, length, take, drop, refl, sym, ap, ◌∙◌, subst, T, arith, append_assoc, append-nil, length-drop}
use Rattle.std.proofs.lemmas.List.{map-append, length-map, length-take-le}
use Rattle.ep_units.specs.Text.{Text, is_high, is_low, is_paired, is_well_formed}
use Rattle.ep_attr.specs.AttrMap.{AttrMap}
use Rattle.ep_attr.proofs.SameMap.{both_true, first_true, second_true}
use Rattle.ep_cs.specs.Doc.{Cell, Doc, text_of, painted, is_document}
use Rattle.ep_cs.specs.Edit.{Fate, Place, Edit, Step, at_place, over, apply, inserts, steps_from, steps_of, pieces, step_over_new, steps_over, compose}
use Rattle.ep_cs.specs.Edit.Fate.{Drop, Keep}
use Rattle.ep_cs.specs.Edit.Step.{Insert, Pass}
use Rattle.ep_cs.specs.Fits.{goes_on, keeps_pairs, AreDocuments}
use Rattle.ep_cs.proofs.Documents.{documents-append, AreBlocks, blocks, document_after}

-- the text of a piece waits
blocks_wait : (w cs : List Cell) (s : List Step) → AreBlocks (w ++ cs) s → AreBlocks w (inserts cs ++ s)
blocks_wait w [] s h = subst (λ (v : List Cell). AreBlocks v s) (append-nil w) h
blocks_wait w (c ∷ cs) s h = blocks_wait (w ++ c ∷ []) cs s (subst (λ (v : List Cell). AreBlocks v s) (sym (append_assoc w (c ∷ []) cs)) h)

-- what the second edit makes of a piece of the first
abbrev made : List Place → List Cell → List Cell
made qs cs = over painted (λ c. c) (take (length cs) qs) [] cs

steps_over_piece : (cs : List Cell) (t : List Step) (qs : List Place) (last : List Cell) → length cs ≤ length qs
    → steps_over (inserts cs ++ t) qs last ≡ inserts (made qs cs) ++ steps_over t (drop (length cs) qs) last
steps_over_piece [] t qs last h = refl
steps_over_piece (c ∷ cs) t [] last h = absurd (omega (arith, h))
steps_over_piece (c ∷ cs) t (q ∷ qs) last h =
    ap (λ s. inserts q.before ++ (step_over_new c q.fate ++ s)) (steps_over_piece cs t qs last (omega (arith, h)))
    ∙ ap (λ s. inserts q.before ++ s) (sym (append_assoc (step_over_new c q.fate) (inserts (made qs cs)) rest))
    ∙ sym (append_assoc (inserts q.before) (step_over_new c q.fate ++ inserts (made qs cs)) rest)
    ∙ ap (λ s. s ++ rest) (whole q.fate)
  where
    rest : List Step
    rest = steps_over t (drop (length cs) qs) last

    at : (f : Fate) → step_over_new c f ++ inserts (made qs cs) ≡ inserts (at_place painted (λ c. c) f c ++ made qs cs)
    at Drop = refl
    at (Keep m) = refl

    same : (ds : List Cell) → map (λ (d : Cell). d) ds ≡ ds
    same [] = refl
    same (d ∷ ds) = ap (λ es. d ∷ es) (same ds)

    whole : (f : Fate) → inserts q.before ++ (step_over_new c f ++ inserts (made qs cs)) ≡ inserts (map (λ (d : Cell). d) q.before ++ (at_place painted (λ c. c) f c ++ made qs cs))
    whole f =
        ap (λ s. inserts q.before ++ s) (at f)
        ∙ sym (map-append Insert q.before (at_place painted (λ c. c) f c ++ made qs cs))
        ∙ ap (λ ds. inserts (ds ++ (at_place painted (λ c. c) f c ++ made qs cs))) (sym (same q.before))

documents_front : (n : ℕ) (qs : List Place) (last : List Cell) → AreDocuments qs last → AreDocuments (take n qs) []
documents_front zero qs last h = refl
documents_front (suc n) [] last h = refl
documents_front (suc n) (q ∷ qs) last h = (h.0, documents_front n qs last h.1)

documents_behind : (n : ℕ) (qs : List Place) (last : List Cell) → AreDocuments qs last → AreDocuments (drop n qs) last
documents_behind zero qs last h = h
documents_behind (suc n) [] last h = h
documents_behind (suc n) (q ∷ qs) last h = documents_behind n qs last h.1

-- at the end of a text no pair goes on
keeps_front : (half : Bool) (qs : List Place) (us vs : Text) → length us ≤ length qs → is_paired half us ≡ true → keeps_pairs qs (us ++ vs) ≡ true → keeps_pairs (take (length us) qs) us ≡ true
keeps_front half qs [] vs n w h = refl
keeps_front half [] (u ∷ us) vs n w h = absurd (omega (arith, n))
keeps_front half (q ∷ qs) (u ∷ []) vs n w h = both_true _ _ (go (is_high u) (second_true (cond half (is_low u) (not (is_low u))) _ w)) refl
  where
    go : (b : Bool) → not b ≡ true → (not b || false) ≡ true
    go true e = absurd (subst T (sym e) tt)
    go false e = refl
keeps_front half (q ∷ []) (u ∷ (v ∷ us)) vs n w h = absurd (omega (arith, n))
keeps_front half (q ∷ (p ∷ qs)) (u ∷ (v ∷ us)) vs n w h =
    both_true _ _ (first_true (not (is_high u) || goes_on q.fate (p ∷ qs)) _ h)
    (keeps_front (is_high u) (p ∷ qs) (v ∷ us) vs (omega (arith, n)) (second_true (cond half (is_low u) (not (is_low u))) _ w) (second_true (not (is_high u) || goes_on q.fate (p ∷ qs)) _ h))

keeps_behind : (us : Text) (qs : List Place) (vs : Text) → length us ≤ length qs → keeps_pairs qs (us ++ vs) ≡ true → keeps_pairs (drop (length us) qs) vs ≡ true
keeps_behind [] qs vs n h = h
keeps_behind (u ∷ us) [] vs n h = absurd (omega (arith, n))
keeps_behind (u ∷ us) (q ∷ qs) vs n h = keeps_behind us qs vs (omega (arith, n)) (second_true (not (is_high u) || goes_on q.fate qs) _ h)

-- the places of the second edit that a piece of the first stands on
record IsOver (cs : List Cell) (qs : List Place) (last : List Cell) (z : Text) : Type 0 where
  inside : length cs ≤ length qs
  document : is_document (made qs cs) ≡ true
  later : keeps_pairs (drop (length cs) qs) z ≡ true
  behind : AreDocuments (drop (length cs) qs) last

piece_over : (cs : List Cell) (qs : List Place) (last : List Cell) (z : Text) → length cs ≤ length qs → is_document cs ≡ true → AreDocuments qs last → keeps_pairs qs (text_of cs ++ z) ≡ true → IsOver cs qs last z
piece_over cs qs last z n d documents keeps =
    let wide : length (text_of cs) ≡ length cs = length-map cs (λ c. c.unit) in
    let front = keeps_front false qs (text_of cs) z (omega (arith, n, wide)) (first_true (is_well_formed (text_of cs)) _ d) keeps in
    record {
      inside = n;
      document = document_after (take (length cs) qs) [] cs (sym (length-take-le (length cs) qs n)) (documents_front (length cs) qs last documents)
          (ap (λ (k : ℕ). keeps_pairs (take k qs) (text_of cs)) (sym wide) ∙ front) d;
      later = ap (λ (k : ℕ). keeps_pairs (drop k qs) z) (sym wide) ∙ keeps_behind (text_of cs) qs z (omega (arith, n, wide)) keeps;
      behind = documents_behind (length cs) qs last documents;
    }

-- the text behind a piece
text_behind : (cs : List Cell) (rest : Doc) → text_of (map (λ (c : Cell). c) cs ++ rest) ≡ text_of cs ++ text_of rest
text_behind [] rest = refl
text_behind (c ∷ cs) rest = ap (λ us. c.unit ∷ us) (text_behind cs rest)

length_behind : (cs : List Cell) (rest : Doc) → length (map (λ (c : Cell). c) cs ++ rest) ≡ length cs + length rest
length_behind [] rest = omega arith
length_behind (c ∷ cs) rest = omega (arith, length_behind cs rest)

blocks_over : (ps : List Place) (la : List Cell) (qs : List Place) (lb : List Cell) (doc : Doc) → length doc ≡ length ps → length (over painted (λ c. c) ps la doc) ≡ length qs
    → AreDocuments ps la → AreDocuments qs lb → keeps_pairs qs (text_of (over painted (λ c. c) ps la doc)) ≡ true
    → AreBlocks [] (steps_over (steps_from ps la) qs lb)
blocks_over [] la qs lb doc n m d e keeps =
    let long : length la ≡ length qs = sym (length-map la (λ c. c)) ∙ m in
    let text : text_of (map (λ (c : Cell). c) la) ≡ text_of la ++ [] = ap (λ ds. text_of (ds)) (sym (append-nil (map (λ (c : Cell). c) la))) ∙ text_behind la [] in
    let o = piece_over la qs lb [] (omega (arith, long)) d e (ap (keeps_pairs qs) (sym text) ∙ keeps) in
    let none : drop (length la) qs ≡ [] = ap (λ (k : ℕ). drop k qs) long ∙ drop_all qs in
    subst (AreBlocks [])
    (sym (ap (λ s. steps_over s qs lb) (sym (append-nil (inserts la))) ∙ steps_over_piece la [] qs lb o.inside ∙ ap (λ rs. inserts (made qs la) ++ inserts (pieces rs lb)) none ∙ sym (map-append Insert (made qs la) lb)))
    (only (made qs la ++ lb) (documents-append (made qs la) lb o.document (subst (λ rs. AreDocuments rs lb) none o.behind)))
  where
    drop_all : (rs : List Place) → drop (length rs) rs ≡ []
    drop_all [] = refl
    drop_all (r ∷ rs) = drop_all rs

    only : (cs : List Cell) → is_document cs ≡ true → AreBlocks [] (inserts cs)
    only cs h = subst (AreBlocks []) (append-nil (inserts cs)) (blocks_wait [] cs [] h)
blocks_over (p ∷ ps) la qs lb [] n m d e keeps = absurd (omega (arith, n))
blocks_over (p ∷ ps) la qs lb (c ∷ doc) n m d e keeps = go p.fate m keeps (λ rs l b t. blocks_over ps la rs lb doc (omega (arith, n)) l d.1 b t)
  where
    rest : Doc
    rest = over painted (λ c. c) ps la doc

    steps : Fate → List Step
    steps f = Pass f ∷ steps_from ps la

    Later : Type 0
    Later = (rs : List Place) → length rest ≡ length rs → AreDocuments rs lb → keeps_pairs rs (text_of rest) ≡ true → AreBlocks [] (steps_over (steps_from ps la) rs lb)

    place : (k : AttrMap) (rs : List Place) → suc (length rest) ≡ length rs → AreDocuments rs lb → keeps_pairs rs (c.unit ∷ text_of rest) ≡ true → is_document (made qs p.before) ≡ true
        → Later → AreBlocks (made qs p.before) (steps_over (steps (Keep k)) rs lb)
    place k [] l b t w later = absurd (omega (arith, l))
    place k (r ∷ rs) l b t w later =
        blocks_wait (made qs p.before) r.before _
        (documents-append (made qs p.before) r.before w b.0, later rs (omega (arith, l)) b.1 (second_true (not (is_high c.unit) || goes_on r.fate rs) _ t))

    go : (f : Fate) → length (map (λ (c : Cell). c) p.before ++ (at_place painted (λ c. c) f c ++ rest)) ≡ length qs
        → keeps_pairs qs (text_of (map (λ (c : Cell). c) p.before ++ (at_place painted (λ c. c) f c ++ rest))) ≡ true
        → Later → AreBlocks [] (steps_over (inserts p.before ++ steps f) qs lb)
    go Drop m keeps later =
        let long = length_behind p.before rest in
        let o = piece_over p.before qs lb (text_of rest) (omega (arith, long, m)) d.0 e (ap (keeps_pairs qs) (sym (text_behind p.before rest)) ∙ keeps) in
        subst (AreBlocks []) (sym (steps_over_piece p.before (steps Drop) qs lb o.inside))
        (blocks_wait [] (made qs p.before) _ (o.document, later (drop (length p.before) qs) (omega (arith, length-drop (length p.before) qs, long, m)) o.behind o.later))
    go (Keep k) m keeps later =
        let long = length_behind p.before (painted c k ∷ rest) in
        let o = piece_over p.before qs lb (c.unit ∷ text_of rest) (omega (arith, long, m)) d.0 e (ap (keeps_pairs qs) (sym (text_behind p.before (painted c k ∷ rest))) ∙ keeps) in
        subst (AreBlocks []) (sym (steps_over_piece p.before (steps (Keep k)) qs lb o.inside))
        (blocks_wait [] (made qs p.before) _
        (place k (drop (length p.before) qs) (omega (arith, length-drop (length p.before) qs, long, m)) o.behind o.later o.document later))

-- a composition inserts documents where both edits do, and the second cuts no pair of the first's result
pub composed_documents : (a b : Edit) (doc : Doc) → length doc ≡ length a.places → length (apply a doc) ≡ length b.places → AreDocuments a.places a.last → AreDocuments b.places b.last
    → keeps_pairs b.places (text_of (apply a doc)) ≡ true → AreDocuments (compose a b).places (compose a b).last
composed_documents a b doc n m d e keeps = blocks [] [] (steps_over (steps_of a) b.places b.last) refl (blocks_over a.places a.last b.places b.last doc n m d e keeps)
