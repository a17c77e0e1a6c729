-- Stretches of a text, taken and added.
use Rattle.std.proofs.Common.{◌≡◌, inl, inr, ℕ, suc, ◌+◌, ◌-◌, ◌<◌, ◌≤◌, Bool, true, false, List, [], ◌∷◌, ◌++◌, length, take, drop, get_or, slice_index_or, slice_set, if◌then◌else◌, refl, sym, ap, ap₂, ◌∙◌, subst, arith, append_assoc, append-nil, length-append, length-drop, take-append-drop, drop-drop}
use Rattle.std.proofs.lemmas.List.{take-append-le, drop-append-le, length-map, map-append, take-map, drop-map}
use Rattle.std.proofs.Math.Seq.{take-length, take-add, take-append-add, drop-append-add}
use Rattle.ep_units.specs.Text.{Text}
use Rattle.ep_attr.specs.AttrMap.{AttrMap, same_map}
use Rattle.ep_attr.proofs.SameMap.{exact_map}
use Rattle.ep_cs.specs.Doc.{Cell, text_of}
use Rattle.ep_cs.specs.Runs.{cells}
use Rattle.ep_block_parts.specs.declared.span.Span.{Span}
use Rattle.ep_block_parts.specs.Splices.{spliced}
use Rattle.ep_block_parts.specs.Spans.{Adds, AddsCells, cells_of, all_units, AreSpans, joined_on, first_units, left_of, left_units, AreLeft}

text_cells : (m : AttrMap) (us : Text) → text_of (cells m us) ≡ us
text_cells m [] = refl
text_cells m (u ∷ us) = ap (λ vs. u ∷ vs) (text_cells m us)

length_cells : (m : AttrMap) (us : Text) → length (cells m us) ≡ length us
length_cells m us = length-map us (λ u. record { unit = u; attrs = m })

pub text_spans : (ss : List Span) (us : Text) → all_units ss ≡ length us → text_of (cells_of ss us) ≡ us
text_spans [] [] h = refl
text_spans [] (u ∷ us) h = absurd (omega (arith, h))
text_spans (s ∷ ss) us h =
    map-append (λ (c : Cell). c.unit) (cells s.attrs (take s.units us)) (cells_of ss (drop s.units us))
    ∙ ap₂ (λ (a b : Text). a ++ b) (text_cells s.attrs (take s.units us)) (text_spans ss (drop s.units us) (omega (arith, h, length-drop s.units us)))
    ∙ take-append-drop s.units us

pub length_spans : (ss : List Span) (us : Text) → all_units ss ≡ length us → length (cells_of ss us) ≡ length us
length_spans ss us h = sym (length-map (cells_of ss us) (λ (c : Cell). c.unit)) ∙ ap length (text_spans ss us h)

-- ---- more stretches

pub units-append : (ss ts : List Span) → all_units (ss ++ ts) ≡ all_units ss + all_units ts
units-append [] ts = omega arith
units-append (s ∷ ss) ts = omega (arith, units-append ss ts)

pub spans-append : (ss ts : List Span) → AreSpans ss → AreSpans ts → AreSpans (ss ++ ts)
spans-append [] ts h k = k
spans-append (s ∷ ss) ts h k = (h.0, spans-append ss ts h.1 k)

pub cells-append : (ss ts : List Span) (us vs : Text) → all_units ss ≡ length us → cells_of (ss ++ ts) (us ++ vs) ≡ cells_of ss us ++ cells_of ts vs
cells-append [] ts [] vs h = refl
cells-append [] ts (u ∷ us) vs h = absurd (omega (arith, h))
cells-append (s ∷ ss) ts us vs h =
    let room : s.units ≤ length us = omega (arith, h) in
    let m = s.attrs in
    ap₂ (λ (a b : Text). cells m a ++ cells_of (ss ++ ts) b) (take-append-le s.units us vs room) (drop-append-le s.units us vs room)
    ∙ ap (λ cs. cells m (take s.units us) ++ cs) (cells-append ss ts (drop s.units us) vs (omega (arith, h, length-drop s.units us)))
    ∙ sym (append_assoc (cells m (take s.units us)) (cells_of ss (drop s.units us)) (cells_of ts vs))

pub cells-cut : (m : AttrMap) (us vs : Text) → cells m (us ++ vs) ≡ cells m us ++ cells m vs
cells-cut m us vs = map-append (λ u. record { unit = u; attrs = m }) us vs

-- one stretch, joined to the last where both have one map
joined_units : (ss : List Span) (s : Span) → all_units (joined_on ss s) ≡ all_units ss + s.units
joined_units [] s = omega arith
joined_units (t ∷ []) s = go (same_map t.attrs s.attrs)
  where
    go : (b : Bool) → all_units (if b then record { units = t.units + s.units; attrs = s.attrs } ∷ [] else (t ∷ (s ∷ []))) ≡ t.units + 0 + s.units
    go true = omega arith
    go false = omega arith
joined_units (t ∷ (u ∷ ss)) s = omega (arith, joined_units (u ∷ ss) s)

joined_spans : (ss : List Span) (s : Span) → AreSpans ss → 1 ≤ s.units → AreSpans (joined_on ss s)
joined_spans [] s h k = (k, tt)
joined_spans (t ∷ []) s h k = go (same_map t.attrs s.attrs)
  where
    go : (b : Bool) → AreSpans (if b then record { units = t.units + s.units; attrs = s.attrs } ∷ [] else (t ∷ (s ∷ [])))
    go true = (omega arith, tt)
    go false = (h.0, (k, tt))
joined_spans (t ∷ (u ∷ ss)) s h k = (h.0, joined_spans (u ∷ ss) s h.1 k)

joined_cells : (ss : List Span) (s : Span) (us : Text) → cells_of (joined_on ss s) us ≡ cells_of (ss ++ s ∷ []) us
joined_cells [] s us = refl
joined_cells (t ∷ []) s us = go (same_map t.attrs s.attrs) refl
  where
    go : (b : Bool) → (same_map t.attrs s.attrs) ≡ b → cells_of (if b then record { units = t.units + s.units; attrs = s.attrs } ∷ [] else (t ∷ (s ∷ []))) us ≡ cells_of (t ∷ (s ∷ [])) us
    go true e =
        append-nil _ ∙ ap (cells s.attrs) (take-add t.units s.units us) ∙ cells-cut s.attrs (take t.units us) (take s.units (drop t.units us))
        ∙ ap (λ (m : AttrMap). cells m (take t.units us) ++ cells s.attrs (take s.units (drop t.units us))) (sym (exact_map t.attrs s.attrs e))
        ∙ ap (λ cs. cells t.attrs (take t.units us) ++ cs) (sym (append-nil _))
    go false e = refl
joined_cells (t ∷ (u ∷ ss)) s us = ap (λ cs. cells t.attrs (take t.units us) ++ cs) (joined_cells (u ∷ ss) s (drop t.units us))

-- ---- what is left

pub text_left : (ss : List Span) (left : ℕ) (us : Text) → left_units ss left ≡ length us → text_of (left_of ss left us) ≡ us
text_left [] left [] h = refl
text_left [] left (u ∷ us) h = absurd (omega (arith, h))
text_left (s ∷ ss) left us h =
    map-append (λ (c : Cell). c.unit) (cells s.attrs (take left us)) (cells_of ss (drop left us))
    ∙ ap₂ (λ (a b : Text). a ++ b) (text_cells s.attrs (take left us)) (text_spans ss (drop left us) (omega (arith, h, length-drop left us)))
    ∙ take-append-drop left us

pub length_text : (cs : List Cell) → length (text_of cs) ≡ length cs
length_text cs = length-map cs (λ (c : Cell). c.unit)

pub length_left : (ss : List Span) (left : ℕ) (us : Text) → left_units ss left ≡ length us → length (left_of ss left us) ≡ length us
length_left ss left us h = sym (length_text (left_of ss left us)) ∙ ap length (text_left ss left us h)

pub all_left : (ss : List Span) (us : Text) → left_of ss (first_units ss) us ≡ cells_of ss us
all_left [] us = refl
all_left (s ∷ ss) us = refl

pub all_left_units : (ss : List Span) → left_units ss (first_units ss) ≡ all_units ss
all_left_units [] = refl
all_left_units (s ∷ ss) = refl

pub all_are_left : (ss : List Span) → AreSpans ss → AreLeft ss (first_units ss)
all_are_left [] h = tt
all_are_left (s ∷ ss) h = h

-- a piece of the first stretch
pub piece_of : (s : Span) (ss : List Span) (left k : ℕ) (us : Text) → k ≤ left
    → left_of (s ∷ ss) left us ≡ cells s.attrs (take k us) ++ left_of (s ∷ ss) (left - k) (drop k us)
piece_of s ss left k us h =
    let m = s.attrs in
    let n : left ≡ k + (left - k) = omega (arith, h) in
    ap (λ (n : ℕ). cells m (take n us) ++ cells_of ss (drop n us)) n
    ∙ ap₂ (λ (cs : List Cell) (vs : Text). cs ++ cells_of ss vs) (ap (cells m) (take-add k (left - k) us) ∙ cells-cut m (take k us) (take (left - k) (drop k us))) (sym (drop-drop (left - k) k us))
    ∙ append_assoc (cells m (take k us)) (cells m (take (left - k) (drop k us))) (cells_of ss (drop (left - k) (drop k us)))

pub headed : (ss : List Span) (s : Span) → 1 ≤ length ss → s ≡ get_or ss 0 s → ss ≡ s ∷ drop 1 ss
headed [] s h e = absurd (omega (arith, h))
headed (t ∷ ss) s h e = ap (λ t. t ∷ ss) (sym e)

pub some_left : (ss : List Span) (left : ℕ) → 1 ≤ length ss → AreLeft ss left → 1 ≤ left
some_left [] left h l = absurd (omega (arith, h))
some_left (s ∷ ss) left h l = l.0

-- the first stretch is shorter, or gone
pub less_left : (ss : List Span) (left k : ℕ) → AreLeft ss left → k < left → AreLeft ss (left - k)
less_left [] left k a h = tt
less_left (s ∷ ss) left k a h = (omega (arith, h), a.1)

pub less_units : (ss : List Span) (left k : ℕ) (us : Text) → 1 ≤ length ss → left_units ss left ≡ length us → k ≤ left → left_units ss (left - k) ≡ length (drop k us)
less_units [] left k us some h l = absurd (omega (arith, some))
less_units (s ∷ ss) left k us some h l = omega (arith, h, l, length-drop k us)

pub later_left : (ss : List Span) (left : ℕ) → AreLeft ss left → AreLeft (drop 1 ss) (first_units (drop 1 ss))
later_left [] left a = tt
later_left (s ∷ ss) left a = all_are_left ss a.1

pub later_units : (ss : List Span) (left : ℕ) (us : Text) → left_units ss left ≡ length us → left_units (drop 1 ss) (first_units (drop 1 ss)) ≡ length (drop left us)
later_units [] left us h = omega (arith, h, length-drop left us)
later_units (s ∷ ss) left us h = all_left_units ss ∙ (let e : all_units ss ≡ length (drop left us) = omega (arith, h, length-drop left us) in e)

pub piece_at : (ss : List Span) (s : Span) (left k : ℕ) (us : Text) → 1 ≤ length ss → s ≡ get_or ss 0 s → k ≤ left
    → left_of ss left us ≡ cells s.attrs (take k us) ++ left_of ss (left - k) (drop k us)
piece_at ss s left k us h e l =
    let is = headed ss s h e in
    ap (λ ss. left_of ss left us) is ∙ piece_of s (drop 1 ss) left k us l ∙ ap (λ ss. cells s.attrs (take k us) ++ left_of ss (left - k) (drop k us)) (sym is)

pub piece_to_end : (ss : List Span) (s : Span) (left : ℕ) (us : Text) → 1 ≤ length ss → s ≡ get_or ss 0 s
    → left_of ss left us ≡ cells s.attrs (take left us) ++ left_of (drop 1 ss) (first_units (drop 1 ss)) (drop left us)
piece_to_end ss s left us h e =
    ap (λ ss. left_of ss left us) (headed ss s h e) ∙ ap (λ cs. cells s.attrs (take left us) ++ cs) (sym (all_left (drop 1 ss) (drop left us)))

-- ---- one stretch more, by its text

-- the last one, to which it is joined, and its units
pub joined_set : (ss : List Span) (t s : Span) → 0 < length ss → t ≡ slice_index_or ss (length ss - 1) t → same_map t.attrs s.attrs ≡ true
    → slice_set ss (length ss - 1) (record { units = t.units + s.units; attrs = t.attrs }) ≡ joined_on ss s
joined_set [] t s h e m = absurd (omega (arith, h))
joined_set (u ∷ []) t s h e m =
    let one : AttrMap → List Span = λ k. record { units = t.units + s.units; attrs = k } ∷ [] in
    ap one (exact_map t.attrs s.attrs m) ∙ ap (λ (b : Bool). if b then one s.attrs else (t ∷ (s ∷ []))) (sym m)
    ∙ ap (λ (x : Span). joined_on (x ∷ []) s) e
joined_set (u ∷ (v ∷ ss)) t s h e m =
    let k : length (u ∷ (v ∷ ss)) - 1 ≡ suc (length (v ∷ ss) - 1) = omega arith in
    let x : Span = record { units = t.units + s.units; attrs = t.attrs } in
    ap (λ (n : ℕ). slice_set (u ∷ (v ∷ ss)) n x) k ∙ ap (λ us. u ∷ us) (joined_set (v ∷ ss) t s (omega arith) (e ∙ ap (λ (n : ℕ). slice_index_or (u ∷ (v ∷ ss)) n t) k) m)

pub last_units : (ss : List Span) (t : Span) → 0 < length ss → t ≡ slice_index_or ss (length ss - 1) t → t.units ≤ all_units ss
last_units [] t h e = absurd (omega (arith, h))
last_units (u ∷ []) t h e = omega (arith, ap (λ (x : Span). x.units) e)
last_units (u ∷ (v ∷ ss)) t h e =
    let k : length (u ∷ (v ∷ ss)) - 1 ≡ suc (length (v ∷ ss) - 1) = omega arith in
    omega (arith, last_units (v ∷ ss) t (omega arith) (e ∙ ap (λ (n : ℕ). slice_index_or (u ∷ (v ∷ ss)) n t) k))

more_cells : (ss : List Span) (s : Span) (us vs : Text) → all_units ss ≡ length us → s.units ≡ length vs
    → cells_of (joined_on ss s) (us ++ vs) ≡ cells_of ss us ++ cells s.attrs vs
more_cells ss s us vs h e =
    joined_cells ss s (us ++ vs) ∙ cells-append ss (s ∷ []) us vs h
    ∙ ap (λ cs. cells_of ss us ++ cs) (append-nil _ ∙ ap (λ (n : ℕ). cells s.attrs (take n vs)) e ∙ ap (cells s.attrs) (take-length vs))

-- one stretch more, joined or not
pub added_units : (ss ts : List Span) (s : Span) → Adds ss s ts → all_units ts ≡ all_units ss + s.units
added_units ss ts s (inl e) = ap all_units e ∙ joined_units ss s
added_units ss ts s (inr e) = omega (arith, ap all_units e, units-append ss (s ∷ []))

pub added_spans : (ss ts : List Span) (s : Span) → Adds ss s ts → AreSpans ss → 1 ≤ s.units → AreSpans ts
added_spans ss ts s (inl e) h k = subst AreSpans (sym e) (joined_spans ss s h k)
added_spans ss ts s (inr e) h k = subst AreSpans (sym e) (spans-append ss (s ∷ []) h (k, tt))

pub added_cells : (ss ts : List Span) (s : Span) (us vs : Text) → Adds ss s ts → all_units ss ≡ length us → s.units ≡ length vs → cells_of ts (us ++ vs) ≡ cells_of ss us ++ cells s.attrs vs
added_cells ss ts s us vs (inl e) h k = ap (λ (ss : List Span). cells_of ss (us ++ vs)) e ∙ more_cells ss s us vs h k
added_cells ss ts s us vs (inr e) h k =
    ap (λ (ss : List Span). cells_of ss (us ++ vs)) e ∙ cells-append ss (s ∷ []) us vs h
    ∙ ap (λ cs. cells_of ss us ++ cs) (append-nil _ ∙ ap (λ (n : ℕ). cells s.attrs (take n vs)) k ∙ ap (cells s.attrs) (take-length vs))

-- ---- stretches more, by their cells

pub adds_none : (ss : List Span) → AddsCells ss [] ss
adds_none ss = record {
  units = omega arith;
  spans = λ h. h;
  stand = λ us h. ap (cells_of ss) (append-nil us) ∙ sym (append-nil (cells_of ss us));
}

pub adds_more : (ss ts us : List Span) (cs ds : List Cell) → AddsCells ss cs ts → AddsCells ts ds us → AddsCells ss (cs ++ ds) us
adds_more ss ts us cs ds a b = record {
  units = omega (arith, a.units, b.units, length-append cs ds);
  spans = λ h. b.spans (a.spans h);
  stand =
      λ vs h.
      let whole : all_units ts ≡ length (vs ++ text_of cs) = omega (arith, h, a.units, length-append vs (text_of cs), length_text cs) in
      ap (λ ws. cells_of us (vs ++ ws)) (map-append (λ (c : Cell). c.unit) cs ds) ∙ ap (cells_of us) (sym (append_assoc vs (text_of cs) (text_of ds)))
      ∙ b.stand (vs ++ text_of cs) whole ∙ ap (λ es. es ++ ds) (a.stand vs h) ∙ append_assoc (cells_of ss vs) cs ds;
}

-- one stretch
pub adds_one : (ss ts : List Span) (m : AttrMap) (vs : Text) → 1 ≤ length vs → ts ≡ ss ++ record { units = length vs; attrs = m } ∷ [] → AddsCells ss (cells m vs) ts
adds_one ss ts m vs some e =
    let s : Span = record { units = length vs; attrs = m } in
    record {
      units = added_units ss ts s (inr e) ∙ ap (λ (n : ℕ). all_units ss + n) (sym (length_cells m vs));
      spans = λ h. added_spans ss ts s (inr e) h some;
      stand = λ us h. ap (λ ws. cells_of ts (us ++ ws)) (text_cells m vs) ∙ added_cells ss ts s us vs (inr e) h refl;
    }

-- the next units in two parts
pub take_left : {A : Type 0} (left n : ℕ) (cs : List A) → n ≤ left → take left cs ≡ take n cs ++ take (left - n) (drop n cs)
take_left left n cs h =
    let e : left ≡ n + (left - n) = omega (arith, h) in
    ap (λ (k : ℕ). take k cs) e ∙ take-add n (left - n) cs

pub drop_left : {A : Type 0} (left n : ℕ) (cs : List A) → n ≤ left → drop (left - n) (drop n cs) ≡ drop left cs
drop_left left n cs h =
    let e : n + (left - n) ≡ left = omega (arith, h) in
    drop-drop (left - n) n cs ∙ ap (λ (k : ℕ). drop k cs) e

-- stretches that are moved: those that are still to come complete what was to be moved
pub record AreMoved (ss : List Span) (units : ℕ) (all : List Cell) (ts : List Span) (left : ℕ) (rest : List Cell) : Type 0 where
  pub to_come : (us : List Span) → AddsCells ts (take left rest) us → AddsCells ss (take units all) us
  pub behind : drop left rest ≡ drop units all
  pub enough : left ≤ length rest

pub more_moved : (ss ts us : List Span) (units left n : ℕ) (all rest later : List Cell) → AreMoved ss units all ts left rest → n ≤ left → AddsCells ts (take n rest) us → later ≡ drop n rest
    → AreMoved ss units all us (left - n) later
more_moved ss ts us units left n all rest later m h a e = subst (AreMoved ss units all us (left - n)) (sym e) (record {
  to_come =
      λ vs b. m.to_come vs (subst (λ cs. AddsCells ts cs vs) (sym (take_left left n rest h)) (adds_more ts us vs (take n rest) (take (left - n) (drop n rest)) a b));
  behind = drop_left left n rest h ∙ m.behind;
  enough = omega (arith, m.enough, length-drop n rest);
})

-- what was taken first, and the rest
pub taken_front : (m : AttrMap) (us : Text) (all rest : List Cell) → all ≡ cells m us ++ rest → take (length us) all ≡ cells m us
taken_front m us all rest e =
    let n : length us ≡ length (cells m us) + 0 = omega (arith, length_cells m us) in
    ap₂ (λ (k : ℕ) (cs : List Cell). take k cs) n e ∙ take-append-add (cells m us) rest 0 ∙ append-nil (cells m us)

pub taken_on : (m : AttrMap) (us : Text) (n : ℕ) (all rest : List Cell) → all ≡ cells m us ++ rest → length us ≤ n → take n all ≡ cells m us ++ take (n - length us) rest
taken_on m us n all rest e h =
    let k : n ≡ length (cells m us) + (n - length us) = omega (arith, h, length_cells m us) in
    ap₂ (λ (k : ℕ) (cs : List Cell). take k cs) k e ∙ take-append-add (cells m us) rest (n - length us)

pub dropped_on : (m : AttrMap) (us : Text) (n : ℕ) (all rest : List Cell) → all ≡ cells m us ++ rest → length us ≤ n → drop (n - length us) rest ≡ drop n all
dropped_on m us n all rest e h =
    let k : n ≡ length (cells m us) + (n - length us) = omega (arith, h, length_cells m us) in
    sym (ap₂ (λ (k : ℕ) (cs : List Cell). drop k cs) k e ∙ drop-append-add (cells m us) rest (n - length us))

-- ---- one stretch

pub one_span : (m : AttrMap) (n : ℕ) (us : Text) → n ≡ length us → cells_of (record { units = n; attrs = m } ∷ []) us ≡ cells m us
one_span m n us h = append-nil _ ∙ ap (λ (k : ℕ). cells m (take k us)) h ∙ ap (cells m) (take-length us)

pub only_span : (ss : List Span) (s : Span) (us : Text) → length ss ≡ 1 → s ≡ get_or ss 0 s → all_units ss ≡ length us → cells_of ss us ≡ cells s.attrs us
only_span [] s us one e h = absurd (omega (arith, one))
only_span (t ∷ []) s us one e h =
    ap (λ (t : Span). cells_of (t ∷ []) us) (sym e)
    ∙ one_span s.attrs s.units us (omega (arith, h, ap (λ (t : Span). t.units) e))
only_span (t ∷ (u ∷ ss)) s us one e h = absurd (omega (arith, one))

-- a splice where all has one map
pub spliced_alike : (m : AttrMap) (us new : Text) (at dropped : ℕ)
    → cells m ((take at us ++ new) ++ drop dropped (drop at us)) ≡ spliced at dropped (cells m new) (cells m us)
spliced_alike m us new at dropped =
    let cell : ℕ → Cell = λ u. record { unit = u; attrs = m } in
    cells-cut m (take at us ++ new) (drop dropped (drop at us))
    ∙ ap₂ (λ (a b : List Cell). a ++ b) (cells-cut m (take at us) new) (ap (cells m) (drop-drop dropped at us))
    ∙ append_assoc (cells m (take at us)) (cells m new) (cells m (drop (at + dropped) us))
    ∙ ap₂ (λ (a b : List Cell). a ++ (cells m new ++ b)) (sym (take-map cell at us)) (sym (drop-map cell (at + dropped) us))
