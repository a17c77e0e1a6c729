-- Blocks one after another, and what is seen of their text.
use Rattle.std.proofs.Common.{◌≡◌, ℕ, suc, ◌+◌, ◌-◌, ◌≤◌, ◌<◌, ◌^◌, ◌==◌, true, false, List, [], ◌∷◌, ◌++◌, length, take, drop, get_or, refl, sym, ap, ap₂, ◌∙◌, subst, arith, append_assoc, append-nil, length-append, length-take, drop-drop, take-append-drop, take_all}
use Rattle.std.proofs.lemmas.List.{map-append, take_more, length-map, take-append-le, drop-append-le, take-map, drop-map}
use Rattle.std.proofs.lemmas.Bool.Decides.{nat_tests}
use Rattle.std.proofs.Math.Seq.{drop-append-add, take-add, take-length}
use Rattle.std.specs.Arc.{arc_value}
use Rattle.std.specs.List.{AllZip, AppendsClones}
use Rattle.std.specs.declared.sync.Arc.{Arc}
use Rattle.std.specs.declared.alloc.Global.{Global}
use Rattle.ep_units.specs.Text.{Text}
use Rattle.ep_cs.specs.Doc.{Cell, text_of}
use Rattle.ep_cs.specs.Lines.{is_whole_lines}
use Rattle.ep_block_parts.specs.Seen.{Sees, ends_high}
use Rattle.ep_block_parts.specs.declared.seen.Seen.{Seen}
use Rattle.ep_block_parts.proofs.Texts.{high-append, whole-append, not_zero, HasRoom, seen_room}
use Rattle.ep_block_nodes.specs.Blocks.{all_cells, node_cells, IsPassed}

pub length_text : (cs : List Cell) → length (text_of cs) ≡ length cs
length_text cs = length-map cs (λ (c : Cell). c.unit)

pub text-append : (cs ds : List Cell) → text_of (cs ++ ds) ≡ text_of cs ++ text_of ds
text-append cs ds = map-append (λ (c : Cell). c.unit) cs ds

pub nodes-append : {A : Type 0} (f : A → List Cell) (ns ms : List (Arc A Global)) → node_cells f (ns ++ ms) ≡ node_cells f ns ++ node_cells f ms
nodes-append f [] ms = refl
nodes-append f (n ∷ ns) ms = ap (λ ds. f (arc_value n) ++ ds) (nodes-append f ns ms) ∙ sym (append_assoc (f (arc_value n)) (node_cells f ns) (node_cells f ms))

pub one_node : {A : Type 0} (f : A → List Cell) (ns : List (Arc A Global)) (n : Arc A Global) → node_cells f (ns ++ n ∷ []) ≡ node_cells f ns ++ f (arc_value n)
one_node f ns n = nodes-append f ns (n ∷ []) ∙ ap (λ ds. node_cells f ns ++ ds) (append-nil (f (arc_value n)))

pub next_node : {A : Type 0} (f : A → List Cell) (ns : List (Arc A Global)) (i : ℕ) (n : Arc A Global) → i < length ns → n ≡ get_or ns i n → node_cells f (take (i + 1) ns) ≡ node_cells f (take i ns) ++ f (arc_value n)
next_node {A} f ns i n h e = ap (node_cells f) (take_more ns i n h) ∙ one_node f (take i ns) (get_or ns i n) ∙ ap (λ (x : Arc A Global). node_cells f (take i ns) ++ f (arc_value x)) (sym e)

pub split_nodes : {A : Type 0} (f : A → List Cell) (k : ℕ) (ns : List (Arc A Global)) → node_cells f (take k ns) ++ node_cells f (drop k ns) ≡ node_cells f ns
split_nodes f k ns = sym (nodes-append f (take k ns) (drop k ns)) ∙ ap (node_cells f) (take-append-drop k ns)

-- the first nodes are what they have of the cells, and the others the rest
pub front_taken : {A : Type 0} (f : A → List Cell) (k : ℕ) (ns : List (Arc A Global)) (n : ℕ) → n ≡ length (node_cells f (take k ns)) → take n (node_cells f ns) ≡ node_cells f (take k ns)
front_taken f k ns n e =
    let front = node_cells f (take k ns) in
    ap (take n) (sym (split_nodes f k ns)) ∙ take-append-le n front (node_cells f (drop k ns)) (omega (arith, e)) ∙ ap (λ (m : ℕ). take m front) e ∙ take-length front

pub rest_left : {A : Type 0} (f : A → List Cell) (k : ℕ) (ns : List (Arc A Global)) (n : ℕ) → n ≡ length (node_cells f (take k ns)) → node_cells f (drop k ns) ≡ drop n (node_cells f ns)
rest_left f k ns n e =
    let front = node_cells f (take k ns) in
    let rest = node_cells f (drop k ns) in
    let all : n ≡ length front + 0 = omega (arith, e) in
    sym (ap (drop n) (sym (split_nodes f k ns)) ∙ ap (λ (m : ℕ). drop m (front ++ rest)) all ∙ drop-append-add front rest 0)

-- a node beside those before it
pub node_room : {A : Type 0} (f : A → List Cell) (ns : List (Arc A Global)) (i : ℕ) (n : Arc A Global) → i < length ns → n ≡ get_or ns i n → length (node_cells f (take i ns)) + length (f (arc_value n)) ≤ length (node_cells f ns)
node_room f ns i n h e =
    omega (arith, ap length (split_nodes f (i + 1) ns), length-append (node_cells f (take (i + 1) ns)) (node_cells f (drop (i + 1) ns)), ap length (next_node f ns i n h e), length-append (node_cells f (take i ns)) (f (arc_value n)))

pub no_nodes : {A : Type 0} (f : A → List Cell) (ns : List (Arc A Global)) → (length ns == 0) ≡ true → node_cells f ns ≡ []
no_nodes f [] h = refl
no_nodes f (n ∷ ns) h = absurd (never (sym (ap (λ (k : ℕ). k == 0) (let e : length (n ∷ ns) ≡ suc (length ns) = omega arith in e)) ∙ h))
  where
    never : (suc (length ns) == 0) ≡ true → ⊥
    never e = grind (arith, nat_tests)

-- nodes that are shared have the same cells
pub clones_alike : {A : Type 0} (f : A → List Cell) (ns ms : List (Arc A Global)) → AllZip (λ n m. arc_value m ≡ arc_value n) ns ms → node_cells f ms ≡ node_cells f ns
clones_alike f [] [] h = refl
clones_alike f [] (m ∷ ms) h = absurd h
clones_alike f (n ∷ ns) [] h = absurd h
clones_alike f (n ∷ ns) (m ∷ ms) h = ap₂ (λ cs ds. f cs ++ ds) h.0 (clones_alike f ns ms h.1)

pub shared : {A : Type 0} (f : A → List Cell) (old new more : List (Arc A Global)) → AppendsClones (λ n m. arc_value m ≡ arc_value n) old new more → node_cells f new ≡ node_cells f old ++ node_cells f more
shared f old new more h = ap (node_cells f) h.1 ∙ nodes-append f old h.0 ∙ ap (λ ds. node_cells f old ++ ds) (clones_alike f more h.0 h.2)

-- nodes that are added to the last ones of all that is written
pub added_last : (all self base new later old rest : List Cell) → self ++ rest ≡ all → base ++ old ≡ self → new ++ later ≡ old ++ rest → (base ++ new) ++ later ≡ all
added_last all self base new later old rest whole told more =
    append_assoc base new later ∙ ap (λ cs. base ++ cs) more ∙ sym (append_assoc base old rest) ∙ ap (λ cs. cs ++ rest) told ∙ whole

-- a node behind those that were seen
pub nodes_room : {A : Type 0} (f : A → List Cell) (ns : List (Arc A Global)) (i : ℕ) (n : Arc A Global) (s t : Seen) → i < length ns → n ≡ get_or ns i n → length (node_cells f ns) < 2 ^ 32
    → Sees s (text_of (node_cells f (take i ns))) → Sees t (text_of (f (arc_value n))) → HasRoom s t
nodes_room f ns i n s t h e short v k = seen_room s t _ _ v k (omega (arith, short, node_room f ns i n h e, length_text (node_cells f (take i ns)), length_text (f (arc_value n))))

pub nodes_seen : {A : Type 0} (f : A → List Cell) (ns : List (Arc A Global)) (i : ℕ) (n : Arc A Global) (s t r : Seen) → i < length ns → n ≡ get_or ns i n → Sees s (text_of (node_cells f (take i ns))) → Sees t (text_of (f (arc_value n)))
    → ((us vs : Text) → Sees s us → Sees t vs → Sees r (us ++ vs)) → Sees r (text_of (node_cells f (take (i + 1) ns)))
nodes_seen f ns i n s t r h e v k on = subst (Sees r) (sym (ap text_of (next_node f ns i n h e) ∙ text-append (node_cells f (take i ns)) (f (arc_value n)))) (on _ _ v k)

-- the last block's text is the end of the text
pub last_high : (here : Text) (bs : List (Arc (List Cell) Global)) (b : Arc (List Cell) Global) → 1 ≤ length bs → b ≡ get_or bs (length bs - 1) b → 1 ≤ length (arc_value b)
    → ends_high (here ++ text_of (all_cells bs)) ≡ ends_high (text_of (arc_value b))
last_high here [] b some e h = absurd (omega (arith, some))
last_high here (c ∷ []) b some e h =
    let one : text_of (arc_value c ++ []) ≡ text_of (arc_value b) = ap text_of (append-nil (arc_value c)) ∙ ap (λ (x : Arc (List Cell) Global). text_of (arc_value x)) (sym e) in
    ap (λ us. ends_high (here ++ us)) one ∙ high-append here (text_of (arc_value b)) (omega (arith, h, length_text (arc_value b)))
last_high here (c ∷ (d ∷ bs)) b some e h =
    let k : length (c ∷ (d ∷ bs)) - 1 ≡ suc (length (d ∷ bs) - 1) = omega arith in
    ap (λ us. ends_high (here ++ us)) (text-append (arc_value c) (all_cells (d ∷ bs))) ∙ ap ends_high (sym (append_assoc here (text_of (arc_value c)) (text_of (all_cells (d ∷ bs)))))
    ∙ last_high (here ++ text_of (arc_value c)) (d ∷ bs) b (omega arith) (e ∙ ap (λ (n : ℕ). get_or (c ∷ (d ∷ bs)) n b) k) h

pub groups_high : (us : Text) (bs gs : List (Arc (List Cell) Global)) (g : Arc (List Cell) Global) → 1 ≤ length gs → g ≡ get_or gs (length gs - 1) g → 1 ≤ length (arc_value g)
    → ends_high (us ++ text_of (all_cells bs ++ all_cells gs)) ≡ ends_high (text_of (arc_value g))
groups_high us bs gs g some e h =
    ap (λ vs. ends_high (us ++ vs)) (text-append (all_cells bs) (all_cells gs)) ∙ ap ends_high (sym (append_assoc us (text_of (all_cells bs)) (text_of (all_cells gs))))
    ∙ last_high (us ++ text_of (all_cells bs)) gs g some e h

pub blocks_high : (us : Text) (bs gs : List (Arc (List Cell) Global)) (b : Arc (List Cell) Global) → length gs < 1 → 1 ≤ length bs → b ≡ get_or bs (length bs - 1) b → 1 ≤ length (arc_value b)
    → ends_high (us ++ text_of (all_cells bs ++ all_cells gs)) ≡ ends_high (text_of (arc_value b))
blocks_high us bs [] b none some e h = ap (λ cs. ends_high (us ++ text_of cs)) (append-nil (all_cells bs)) ∙ last_high us bs b some e h
blocks_high us bs (g ∷ gs) b none some e h = absurd (omega (arith, none))

-- the last node tells whether the text is whole lines
pub last_whole : {A : Type 0} (f : A → List Cell) (ns : List (Arc A Global)) (n : Arc A Global) → 1 ≤ length ns → n ≡ get_or ns (length ns - 1) n → 1 ≤ length (f (arc_value n))
    → is_whole_lines (text_of (node_cells f ns)) ≡ is_whole_lines (text_of (f (arc_value n)))
last_whole f ns n some e h =
    let i = length ns - 1 in
    let first = node_cells f (take i ns) in
    let last = f (arc_value n) in
    let whole : node_cells f ns ≡ first ++ last = ap (node_cells f) (sym (take_all (i + 1) ns (omega (arith, some)))) ∙ next_node f ns i n (omega (arith, some)) e in
    ap (λ (cs : List Cell). is_whole_lines (text_of cs)) whole ∙ ap is_whole_lines (text-append first last) ∙ whole-append (text_of first) (text_of last) (omega (arith, h, length_text last))

pub no_units : (us : Text) → (length us == 0) ≡ true → us ≡ []
no_units [] h = refl
no_units (u ∷ us) h = absurd (never (sym (not_zero (suc (length us)) (λ z. omega (arith, z))) ∙ h))
  where
    never : false ≡ true → ⊥
    never e = cc

pub text_take : (n : ℕ) (cs : List Cell) → text_of (take n cs) ≡ take n (text_of cs)
text_take n cs = sym (take-map (λ (c : Cell). c.unit) n cs)

pub text_drop : (n : ℕ) (cs : List Cell) → text_of (drop n cs) ≡ drop n (text_of cs)
text_drop n cs = sym (drop-map (λ (c : Cell). c.unit) n cs)

-- ---- what is passed of cells

pub passed_room : (s : Seen) (all rest : List Cell) → IsPassed s all rest → s.units ≤ length all
passed_room s all rest p = omega (arith, p.seen.units, length_text (take s.units all), length-take s.units all)

-- some before others are passed
pub passed_first : (s : Seen) (first left last : List Cell) → IsPassed s first left → IsPassed s (first ++ last) (left ++ last)
passed_first s first left last p =
    let room = passed_room s first left p in
    record {
      seen = subst (λ (cs : List Cell). Sees s (text_of cs)) (sym (take-append-le s.units first last room)) p.seen;
      left = ap (λ (cs : List Cell). cs ++ last) p.left ∙ sym (drop-append-le s.units first last room);
    }

-- those behind none are passed
pub passed_last : (s : Seen) (none last left : List Cell) → none ≡ [] → IsPassed s last left → IsPassed s (none ++ last) (none ++ left)
passed_last s none last left e p = subst (λ (cs : List Cell). IsPassed s (cs ++ last) (cs ++ left)) (sym e) p

-- some are passed, and then others
pub passed_both : (s t r : Seen) (all mid rest : List Cell) → IsPassed s all mid → IsPassed t mid rest → r.units ≡ s.units + t.units
    → ((us vs : Text) → Sees s us → Sees t vs → Sees r (us ++ vs)) → IsPassed r all rest
passed_both s t r all mid rest p q n on =
    let text : text_of (take s.units all) ++ text_of (take t.units mid) ≡ text_of (take r.units all) =
    ap (λ (cs : List Cell). text_of (take s.units all) ++ text_of (take t.units cs)) p.left ∙ sym (text-append (take s.units all) (take t.units (drop s.units all)))
    ∙ ap text_of (sym (take-add s.units t.units all)) ∙ ap (λ (k : ℕ). text_of (take k all)) (sym n) in
    record {
      seen = subst (Sees r) text (on _ _ p.seen q.seen);
      left = q.left ∙ ap (drop t.units) p.left ∙ drop-drop t.units s.units all ∙ ap (λ (k : ℕ). drop k all) (sym n);
    }

-- the first of them up to the last, and then others
pub passed_two : (s t r : Seen) (first none last left : List Cell) → IsPassed s first none → none ≡ [] → IsPassed t last left → r.units ≡ s.units + t.units
    → ((us vs : Text) → Sees s us → Sees t vs → Sees r (us ++ vs)) → IsPassed r (first ++ last) (none ++ left)
passed_two s t r first none last left p e q n on =
    passed_both s t r (first ++ last) (none ++ last) (none ++ left) (passed_first s first none last p) (passed_last t none last left e q) n on

-- some, and then the first of those that are left
pub passed_on : (s t r : Seen) (all mid first left last : List Cell) → IsPassed s all mid → first ++ last ≡ mid → IsPassed t first left → r.units ≡ s.units + t.units
    → ((us vs : Text) → Sees s us → Sees t vs → Sees r (us ++ vs)) → IsPassed r all (left ++ last)
passed_on s t r all mid first left last p e q n on = passed_both s t r all (first ++ last) (left ++ last) (subst (IsPassed s all) (sym e) p) (passed_first t first left last q) n on

-- ---- some cells are passed, and then the first units behind them

behind : (s : Seen) (all mid rest : List Cell) (here : Text) → IsPassed s all mid → text_of mid ≡ here ++ text_of rest → here ++ text_of rest ≡ drop s.units (text_of all)
behind s all mid rest here p e = sym e ∙ ap text_of p.left ∙ text_drop s.units all

pub front_seen : (s t r : Seen) (all mid rest : List Cell) (here : Text) → IsPassed s all mid → text_of mid ≡ here ++ text_of rest → Sees t (take t.units here) → r.units ≡ s.units + t.units
    → ((us vs : Text) → Sees s us → Sees t vs → Sees r (us ++ vs)) → Sees r (take r.units (text_of all))
front_seen s t r all mid rest here p e b n on =
    let text = text_of all in
    let room : t.units ≤ length here = omega (arith, b.units, length-take t.units here) in
    let both : take s.units text ++ take t.units here ≡ take r.units text =
    ap (λ (us : Text). take s.units text ++ us) (sym (take-append-le t.units here (text_of rest) room) ∙ ap (take t.units) (behind s all mid rest here p e))
    ∙ sym (take-add s.units t.units text) ∙ ap (λ (k : ℕ). take k text) (sym n) in
    subst (Sees r) both (on _ _ (subst (Sees s) (text_take s.units all) p.seen) b)

pub front_left : (s t r : Seen) (all mid rest : List Cell) (here left : Text) → IsPassed s all mid → text_of mid ≡ here ++ text_of rest → Sees t (take t.units here) → left ≡ drop t.units here → r.units ≡ s.units + t.units
    → left ++ text_of rest ≡ drop r.units (text_of all)
front_left s t r all mid rest here left p e b l n =
    let room : t.units ≤ length here = omega (arith, b.units, length-take t.units here) in
    ap (λ (us : Text). us ++ text_of rest) l ∙ sym (drop-append-le t.units here (text_of rest) room) ∙ ap (drop t.units) (behind s all mid rest here p e)
    ∙ drop-drop t.units s.units (text_of all) ∙ ap (λ (k : ℕ). drop k (text_of all)) (sym n)
