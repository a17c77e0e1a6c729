-- What follows, and what undoes, place by place.
use Rattle.std.proofs.Common.{◌≡◌, ℕ, ◌+◌, Option, Some, None, Bool, true, false, cond, ◌||◌, if◌then◌else◌, List, [], ◌∷◌, ◌++◌, map, length, refl, sym, ap, ap₂, ◌∙◌, arith, append_assoc, append-nil}
use Rattle.ep_units.specs.Text.{Text, text_le}
use Rattle.ep_attr.specs.AttrMap.{AttrMap, none, rest, get, value_left}
use Rattle.ep_cs.specs.Doc.{Cell, Doc}
use Rattle.ep_cs.specs.Edit.{Fate, Place, Edit, Step, Item, over, at_place, painted_item, numbered, items, inserts, settle, steps_from, steps_of, pieces}
use Rattle.ep_cs.specs.Edit.Fate.{Drop, Keep}
use Rattle.ep_cs.specs.Edit.Step.{Insert, Pass}
use Rattle.ep_cs.specs.Follow.{goes_first, passes, follow_gap, follow_place, follow_steps, follow}
use Rattle.ep_invert.specs.Inverse.{restoring, undoing, inverse}
use Rattle.ep_history.specs.Lists.{at}
use Rattle.ep_cs.specs.Edit.Item.{Kept, New}
use Rattle.ep_undo.specs.Tracing.{Origin, stands, set_on, goes_on, after_edit, after_heard, origins, traced, left_of, still, covers, is_covered, due, dropped_at, dropped_from, dropped_by}
use Rattle.ep_undo.specs.Tracing.Origin.{Stood, Own, Others}
use Rattle.ep_attr.proofs.Maps.{rest-none, none-join, get-rest}

-- ---- what an edit makes of the elements of a list, of another kind

module _ {X Y : Type 0} (kept : X → AttrMap → Y) (new : Cell → Y) where
  abbrev pub at_fate : Fate → X → List Y
  at_fate Drop x = []
  at_fate (Keep m) x = kept x m ∷ []

  abbrev pub each : List Place → List Cell → List X → List Y
  each [] last xs = map new last
  each (p ∷ ps) last [] = map new p.before ++ each ps last []
  each (p ∷ ps) last (x ∷ xs) = map new p.before ++ (at_fate p.fate x ++ each ps last xs)

-- ---- what steps pass and insert

abbrev pub fates_of : List Step → List Fate
fates_of [] = []
fates_of (Insert c ∷ steps) = fates_of steps
fates_of (Pass f ∷ steps) = f ∷ fates_of steps

abbrev pub cells_of : List Step → List Cell
cells_of [] = []
cells_of (Insert c ∷ steps) = c ∷ cells_of steps
cells_of (Pass f ∷ steps) = cells_of steps

abbrev pub fates : List Place → List Fate
fates ps = map (λ p. p.fate) ps

fates-settle : (w : List Cell) (steps : List Step) → fates (settle w steps).places ≡ fates_of steps
fates-settle w [] = refl
fates-settle w (Insert c ∷ steps) = fates-settle (w ++ c ∷ []) steps
fates-settle w (Pass Drop ∷ steps) = ap (λ fs. Drop ∷ fs) (fates-settle w steps)
fates-settle w (Pass (Keep m) ∷ steps) = ap (λ fs. Keep m ∷ fs) (fates-settle [] steps)

cells-settle : (w : List Cell) (steps : List Step) → pieces (settle w steps).places (settle w steps).last ≡ w ++ cells_of steps
cells-settle w [] = sym (append-nil w)
cells-settle w (Insert c ∷ steps) = cells-settle (w ++ c ∷ []) steps ∙ append_assoc w (c ∷ []) (cells_of steps)
cells-settle w (Pass Drop ∷ steps) = cells-settle w steps
cells-settle w (Pass (Keep m) ∷ steps) = ap (λ cs. w ++ cs) (cells-settle [] steps)

fates-append : (s t : List Step) → fates_of (s ++ t) ≡ fates_of s ++ fates_of t
fates-append [] t = refl
fates-append (Insert c ∷ s) t = fates-append s t
fates-append (Pass f ∷ s) t = ap (λ fs. f ∷ fs) (fates-append s t)

cells-append : (s t : List Step) → cells_of (s ++ t) ≡ cells_of s ++ cells_of t
cells-append [] t = refl
cells-append (Insert c ∷ s) t = ap (λ cs. c ∷ cs) (cells-append s t)
cells-append (Pass f ∷ s) t = cells-append s t

fates-inserts : (cells : List Cell) → fates_of (inserts cells) ≡ []
fates-inserts [] = refl
fates-inserts (c ∷ cells) = fates-inserts cells

cells-inserts : (cells : List Cell) → cells_of (inserts cells) ≡ cells
cells-inserts [] = refl
cells-inserts (c ∷ cells) = ap (λ cs. c ∷ cs) (cells-inserts cells)

-- ---- what follows

-- what becomes of a fate of the one that follows, where the first keeps the place with a map
abbrev pub rested : Fate → AttrMap → Fate
rested Drop m = Drop
rested (Keep u) m = Keep (rest m u)

abbrev pub untouched : Cell → Fate
untouched c = Keep none

fates-passes : (cells : List Cell) → fates_of (passes cells) ≡ map untouched cells
fates-passes [] = refl
fates-passes (c ∷ cells) = ap (λ fs. Keep none ∷ fs) (fates-passes cells)

cells-passes : (cells : List Cell) → cells_of (passes cells) ≡ []
cells-passes [] = refl
cells-passes (c ∷ cells) = cells-passes cells

fates-gap : (side : Bool) (a b : List Cell) → fates_of (follow_gap side a b) ≡ map untouched a
fates-gap side a b = go (goes_first side a b)
  where
    go : (t : Bool) → fates_of (cond t (passes a ++ inserts b) (inserts b ++ passes a)) ≡ map untouched a
    go true = fates-append (passes a) (inserts b) ∙ ap₂ (λ (x y : List Fate). x ++ y) (fates-passes a) (fates-inserts b) ∙ append-nil (map untouched a)
    go false = fates-append (inserts b) (passes a) ∙ ap₂ (λ (x y : List Fate). x ++ y) (fates-inserts b) (fates-passes a)

cells-gap : (side : Bool) (a b : List Cell) → cells_of (follow_gap side a b) ≡ b
cells-gap side a b = go (goes_first side a b)
  where
    go : (t : Bool) → cells_of (cond t (passes a ++ inserts b) (inserts b ++ passes a)) ≡ b
    go true = cells-append (passes a) (inserts b) ∙ ap₂ (λ (x y : List Cell). x ++ y) (cells-passes a) (cells-inserts b)
    go false = cells-append (inserts b) (passes a) ∙ ap₂ (λ (x y : List Cell). x ++ y) (cells-inserts b) (cells-passes a) ∙ append-nil b

fates-place : (f g : Fate) → fates_of (follow_place f g) ≡ at_fate rested untouched f g
fates-place Drop g = refl
fates-place (Keep a) Drop = refl
fates-place (Keep a) (Keep b) = refl

cells-place : (f g : Fate) → cells_of (follow_place f g) ≡ []
cells-place Drop g = refl
cells-place (Keep a) Drop = refl
cells-place (Keep a) (Keep b) = refl

fates-steps : (side : Bool) (ps qs : List Place) (la lb : List Cell) → length ps ≡ length qs
    → fates_of (follow_steps side ps qs la lb) ≡ each rested untouched ps la (fates qs)
fates-steps side [] qs la lb n = fates-gap side la lb
fates-steps side (p ∷ ps) [] la lb n = absurd (omega (arith, n))
fates-steps side (p ∷ ps) (q ∷ qs) la lb n =
    fates-append (follow_gap side p.before q.before) _
    ∙ ap₂ (λ (x y : List Fate). x ++ y) (fates-gap side p.before q.before)
    (fates-append (follow_place p.fate q.fate) _ ∙ ap₂ (λ (x y : List Fate). x ++ y) (fates-place p.fate q.fate) (fates-steps side ps qs la lb (omega (arith, n))))

cells-steps : (side : Bool) (ps qs : List Place) (la lb : List Cell) → length ps ≡ length qs → cells_of (follow_steps side ps qs la lb) ≡ pieces qs lb
cells-steps side [] [] la lb n = cells-gap side la lb
cells-steps side [] (q ∷ qs) la lb n = absurd (omega (arith, n))
cells-steps side (p ∷ ps) [] la lb n = absurd (omega (arith, n))
cells-steps side (p ∷ ps) (q ∷ qs) la lb n =
    cells-append (follow_gap side p.before q.before) _
    ∙ ap₂ (λ (x y : List Cell). x ++ y) (cells-gap side p.before q.before)
    (cells-append (follow_place p.fate q.fate) _ ∙ ap₂ (λ (x y : List Cell). x ++ y) (cells-place p.fate q.fate) (cells-steps side ps qs la lb (omega (arith, n))))

-- what follows drops what the second drops of what the first keeps, and nothing that the first inserts
pub fates-follow : (side : Bool) (a b : Edit) → length a.places ≡ length b.places
    → fates (follow side a b).places ≡ each rested untouched a.places a.last (fates b.places)
fates-follow side a b n = fates-settle [] (follow_steps side a.places b.places a.last b.last) ∙ fates-steps side a.places b.places a.last b.last n

-- and inserts just what the second inserts
pub pieces-follow : (side : Bool) (a b : Edit) → length a.places ≡ length b.places
    → pieces (follow side a b).places (follow side a b).last ≡ pieces b.places b.last
pieces-follow side a b n = cells-settle [] (follow_steps side a.places b.places a.last b.last) ∙ cells-steps side a.places b.places a.last b.last n

-- ---- what undoes

abbrev pub restored : Cell → AttrMap → Fate
restored c m = Keep (restoring c.attrs m)

abbrev pub gone : Cell → Fate
gone c = Drop

fates-undo-inserts : (cells : List Cell) (steps : List Step) (doc : Doc) → fates_of (undoing (inserts cells ++ steps) doc) ≡ map gone cells ++ fates_of (undoing steps doc)
fates-undo-inserts [] steps doc = refl
fates-undo-inserts (c ∷ cells) steps doc = ap (λ fs. Drop ∷ fs) (fates-undo-inserts cells steps doc)

cells-undo-inserts : (cells : List Cell) (steps : List Step) (doc : Doc) → cells_of (undoing (inserts cells ++ steps) doc) ≡ cells_of (undoing steps doc)
cells-undo-inserts [] steps doc = refl
cells-undo-inserts (c ∷ cells) steps doc = cells-undo-inserts cells steps doc

fates-undoing : (ps : List Place) (last : List Cell) (doc : Doc) → length doc ≡ length ps
    → fates_of (undoing (steps_from ps last) doc) ≡ each restored gone ps last doc
fates-undoing [] last doc n = ap (λ (s : List Step). fates_of (undoing s doc)) (sym (append-nil (inserts last))) ∙ fates-undo-inserts last [] doc ∙ append-nil (map gone last)
fates-undoing (p ∷ ps) last [] n = absurd (omega (arith, n))
fates-undoing (p ∷ ps) last (c ∷ doc) n =
    fates-undo-inserts p.before _ (c ∷ doc) ∙ ap (λ fs. map gone p.before ++ fs) (go p.fate (fates-undoing ps last doc (omega (arith, n))))
  where
    go : (f : Fate) → fates_of (undoing (steps_from ps last) doc) ≡ each restored gone ps last doc
        → fates_of (undoing (Pass f ∷ steps_from ps last) (c ∷ doc)) ≡ at_fate restored gone f c ++ each restored gone ps last doc
    go Drop e = e
    go (Keep m) e = ap (λ fs. Keep (restoring c.attrs m) ∷ fs) e

cells-undoing : (ps : List Place) (last : List Cell) (doc : Doc) → length doc ≡ length ps
    → cells_of (undoing (steps_from ps last) doc) ≡ dropped_from ps doc
cells-undoing [] last doc n = ap (λ (s : List Step). cells_of (undoing s doc)) (sym (append-nil (inserts last))) ∙ cells-undo-inserts last [] doc
cells-undoing (p ∷ ps) last [] n = absurd (omega (arith, n))
cells-undoing (p ∷ ps) last (c ∷ doc) n =
    cells-undo-inserts p.before _ (c ∷ doc) ∙ go p.fate (cells-undoing ps last doc (omega (arith, n)))
  where
    go : (f : Fate) → cells_of (undoing (steps_from ps last) doc) ≡ dropped_from ps doc
        → cells_of (undoing (Pass f ∷ steps_from ps last) (c ∷ doc)) ≡ dropped_at f c ++ dropped_from ps doc
    go Drop e = ap (λ cs. c ∷ cs) e
    go (Keep m) e = e

-- an inverse drops what was inserted, and restores what was kept
pub fates-inverse : (e : Edit) (doc : Doc) → length doc ≡ length e.places → fates (inverse e doc).places ≡ each restored gone e.places e.last doc
fates-inverse e doc n = fates-settle [] (undoing (steps_of e) doc) ∙ fates-undoing e.places e.last doc n

-- and inserts what was dropped
pub pieces-inverse : (e : Edit) (doc : Doc) → length doc ≡ length e.places → pieces (inverse e doc).places (inverse e doc).last ≡ dropped_by e doc
pieces-inverse e doc n = cells-settle [] (undoing (steps_of e) doc) ∙ cells-undoing e.places e.last doc n

-- ---- the trace

-- what is made of elements that stand for others
each-map : {X Y Z : Type 0} (k : X → AttrMap → Y) (l : Z → AttrMap → Y) (new : Cell → Y) (h : X → Z) → ((x : X) (m : AttrMap) → k x m ≡ l (h x) m)
    → (ps : List Place) (last : List Cell) (xs : List X) → each k new ps last xs ≡ each l new ps last (map h xs)
each-map k l new h e [] last xs = refl
each-map k l new h e (p ∷ ps) last [] = ap (λ ys. map new p.before ++ ys) (each-map k l new h e ps last [])
each-map k l new h e (p ∷ ps) last (x ∷ xs) = ap (λ ys. map new p.before ++ ys) (go p.fate (each-map k l new h e ps last xs))
  where
    go : (f : Fate) → each k new ps last xs ≡ each l new ps last (map h xs) → at_fate k new f x ++ each k new ps last xs ≡ at_fate l new f (h x) ++ each l new ps last (map h xs)
    go Drop r = r
    go (Keep m) r = ap₂ (λ y ys. y ∷ ys) (e x m) r

-- the same, item by item
module _ {X Y : Type 0} (kept_at : Option X → AttrMap → Y) (new : Cell → Y) where
  abbrev by_item : List X → Item → Y
  by_item xs (Kept i m) = kept_at (at xs i) m
  by_item xs (New c) = new c

  abbrev keeps : X → AttrMap → Y
  keeps x m = kept_at (Some x) m

  new-items : (xs : List X) (cells : List Cell) (is : List Item) → map (by_item xs) (map New cells ++ is) ≡ map new cells ++ map (by_item xs) is
  new-items xs [] is = refl
  new-items xs (c ∷ cells) is = ap (λ ys. new c ∷ ys) (new-items xs cells is)

  at-next : (pre : List X) (x : X) (xs : List X) → at (pre ++ x ∷ xs) (length pre) ≡ Some x
  at-next [] x xs = refl
  at-next (y ∷ pre) x xs = at-next pre x xs

  one-more : (pre : List X) (x : X) → length (pre ++ x ∷ []) ≡ length pre + 1
  one-more [] x = omega arith
  one-more (y ∷ pre) x = let h = one-more pre x in omega (arith, h)

  items-each : (pre : List X) (ps : List Place) (last : List Cell) (xs : List X) → length xs ≡ length ps
      → map (by_item (pre ++ xs)) (over painted_item New ps last (numbered (length pre) (length ps))) ≡ each keeps new ps last xs
  items-each pre [] last xs n =
      ap (map (by_item (pre ++ xs))) (sym (append-nil (map New last))) ∙ new-items (pre ++ xs) last [] ∙ append-nil (map new last)
  items-each pre (p ∷ ps) last [] n = absurd (omega (arith, n))
  items-each pre (p ∷ ps) last (x ∷ xs) n =
      new-items (pre ++ x ∷ xs) p.before _
      ∙ ap (λ ys. map new p.before ++ ys)
      (go p.fate
      (ap₂ (λ (ys : List X) (k : ℕ). map (by_item ys) (over painted_item New ps last (numbered k (length ps)))) (sym (append_assoc pre (x ∷ []) xs)) (sym (one-more pre x))
      ∙ items-each (pre ++ x ∷ []) ps last xs (omega (arith, n))))
    where
      go : (f : Fate) → map (by_item (pre ++ x ∷ xs)) (over painted_item New ps last (numbered (length pre + 1) (length ps))) ≡ each keeps new ps last xs
          → map (by_item (pre ++ x ∷ xs)) (at_place painted_item New f (Kept (length pre) none) ++ over painted_item New ps last (numbered (length pre + 1) (length ps)))
          ≡ at_fate keeps new f x ++ each keeps new ps last xs
      go Drop next = next
      go (Keep m) next = ap₂ (λ (y : Y) (ys : List Y). y ∷ ys) (ap₂ kept_at (at-next pre x xs) (none-join m)) next

pub items-of : {X Y : Type 0} (kept_at : Option X → AttrMap → Y) (new : Cell → Y) (e : Edit) (xs : List X) → length xs ≡ length e.places
    → map (by_item kept_at new xs) (items e) ≡ each (keeps kept_at new) new e.places e.last xs
items-of kept_at new e xs n = items-each kept_at new [] e.places e.last xs n

-- ---- the edit, and what is heard after it

map-map : {A B C : Type 0} (f : A → B) (g : B → C) (xs : List A) → map g (map f xs) ≡ map (λ x. g (f x)) xs
map-map f g [] = refl
map-map f g (x ∷ xs) = ap (λ ys. g (f x) ∷ ys) (map-map f g xs)

map-alike : {A B : Type 0} (f g : A → B) → ((x : A) → f x ≡ g x) → (xs : List A) → map f xs ≡ map g xs
map-alike f g e [] = refl
map-alike f g e (x ∷ xs) = ap₂ (λ y ys. y ∷ ys) (e x) (map-alike f g e xs)

left-more : (u : AttrMap) (ms : List AttrMap) (m : AttrMap) → left_of u (ms ++ m ∷ []) ≡ rest m (left_of u ms)
left-more u [] m = refl
left-more u (k ∷ ms) m = left-more (rest k u) ms m

due-set : (o : Origin) (m : AttrMap) → due (set_on o m) ≡ rested (due o) m
due-set (Stood u ms) m = ap Keep (left-more u ms m)
due-set Own m = refl
due-set Others m = ap Keep (sym (rest-none m))

-- what the inverse does to each unit is due to it
pub due-first : (e : Edit) (doc : Doc) → length doc ≡ length e.places → fates (inverse e doc).places ≡ map due (origins e doc)
due-first e doc n =
    fates-inverse e doc n
    ∙ sym (items-of kept_at gone e doc n)
    ∙ map-alike (by_item kept_at gone doc) (λ i. due (after_edit doc i)) alike (items e)
    ∙ sym (map-map (after_edit doc) due (items e))
  where
    kept_at : Option Cell → AttrMap → Fate
    kept_at c m = due (stands c m)

    alike : (i : Item) → by_item kept_at gone doc i ≡ due (after_edit doc i)
    alike (Kept place m) = refl
    alike (New c) = refl

-- and what follows something heard does to each unit is due to it
pub due-next : (side : Bool) (d u : Edit) (os : List Origin) → length d.places ≡ length u.places → length os ≡ length u.places → fates u.places ≡ map due os
    → fates (follow side d u).places ≡ map due (traced d os)
due-next side d u os n l e =
    fates-follow side d u n
    ∙ ap (each rested untouched d.places d.last) e
    ∙ sym (each-map (λ o m. due (set_on o m)) rested untouched due due-set d.places d.last os)
    ∙ sym (items-of kept_at untouched d os (l ∙ sym n))
    ∙ map-alike (by_item kept_at untouched os) (λ i. due (after_heard os i)) alike (items d)
    ∙ sym (map-map (after_heard os) due (items d))
  where
    kept_at : Option Origin → AttrMap → Fate
    kept_at o m = due (goes_on o m)

    alike : (i : Item) → by_item kept_at untouched os i ≡ due (after_heard os i)
    alike (Kept place m) = refl
    alike (New c) = refl

-- ---- what is left of a key

-- what is left of a value behind one map that sets this, and others
abbrev still_after : Option Text → (Text → Bool) → Option Text → Option Text
still_after a covered None = None
still_after a covered (Some v) = if covers a v || covered v then None else Some v

pub get-left : (u : AttrMap) (ms : List AttrMap) (k : Text) → get (left_of u ms) k ≡ still ms k (get u k)
get-left u [] k = sym (still-none (get u k))
  where
    still-none : (v : Option Text) → still [] k v ≡ v
    still-none None = refl
    still-none (Some v) = refl
get-left u (m ∷ ms) k = get-left (rest m u) ms k ∙ ap (still ms k) (get-rest m u k) ∙ go (get m k) (get u k)
  where
    no : (ms : List AttrMap) → still ms k None ≡ None
    no ms = refl

    go : (a b : Option Text) → still ms k (value_left a b) ≡ still_after a (is_covered ms k) b
    go None None = refl
    go None (Some v) = refl
    go (Some a) None = refl
    go (Some a) (Some b) = both (text_le a b)
      where
        both : (t : Bool) → still ms k (cond t None (Some b)) ≡ (if t || is_covered ms k b then None else Some b)
        both true = refl
        both false = refl
