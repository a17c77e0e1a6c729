-- Edits: what a change does at each place and gap, and its meaning.
use Rattle.std.specs.Prelude.{◌≡◌, ℕ, zero, suc, ◌+◌, Bool, true, false, not, ◌&&◌, ◌||◌, List, [], ◌∷◌, ◌++◌, map, length}
use Rattle.ep_attr.specs.AttrMap.{AttrMap, none, join}
use Rattle.ep_cs.specs.Doc.{Cell, Doc, painted}

-- what becomes of a place
pub data Fate : Type 0 where
  Drop : Fate
  Keep : AttrMap → Fate

-- a place, and the piece in the gap before it
pub record Place : Type 0 where
  pub before : List Cell
  pub fate : Fate

-- an edit of as many units as it has places, with the piece in the last gap
pub record Edit : Type 0 where
  pub places : List Place
  pub last : List Cell

abbrev pub is_empty : List Cell → Bool
is_empty [] = true
is_empty (c ∷ cs) = false

abbrev pub is_drop : Fate → Bool
is_drop Drop = true
is_drop (Keep m) = false

-- a nonempty piece stands before a kept place or in the last gap
abbrev pub are_settled : List Place → Bool
are_settled [] = true
are_settled (p ∷ ps) = (not (is_drop p.fate) || is_empty p.before) && are_settled ps

abbrev pub IsSettled : Edit → Type 0
IsSettled e = are_settled e.places ≡ true

-- what an edit makes of a list: `kept x m` is what it makes of an element that it keeps with m, `new c` of a cell that it inserts
module _ {X : Type 0} (kept : X → AttrMap → X) (new : Cell → X) where
  abbrev pub at_place : Fate → X → List X
  at_place Drop x = []
  at_place (Keep m) x = kept x m ∷ []

  abbrev pub over : List Place → List Cell → List X → List X
  over [] last xs = map new last
  over (p ∷ ps) last [] = map new p.before ++ over ps last []
  over (p ∷ ps) last (x ∷ xs) = map new p.before ++ (at_place p.fate x ++ over ps last xs)

-- a document after an edit
abbrev pub apply : Edit → Doc → Doc
apply e doc = over painted (λ c. c) e.places e.last doc

-- an element of the result: a place that is kept with a map, or a new cell
pub data Item : Type 0 where
  Kept : ℕ → AttrMap → Item
  New : Cell → Item

-- the item after one more map
abbrev pub painted_item : Item → AttrMap → Item
painted_item (Kept place m) c = Kept place (join m c)
painted_item (New cell) c = New (painted cell c)

-- n places from i on, as they are
abbrev pub numbered : ℕ → ℕ → List Item
numbered i zero = []
numbered i (suc n) = Kept i none ∷ numbered (i + 1) n

-- what an edit makes of a list of items
abbrev pub apply_items : Edit → List Item → List Item
apply_items e items = over painted_item New e.places e.last items

-- the result as items
abbrev pub items : Edit → List Item
items e = apply_items e (numbered 0 (length e.places))

-- one step of an edit that is written down from left to right, drops and inserts in any order
pub data Step : Type 0 where
  Insert : Cell → Step
  Pass : Fate → Step

abbrev pub inserts : List Cell → List Step
inserts cells = map Insert cells

abbrev pub with_place : Place → Edit → Edit
with_place p e = record { places = p ∷ e.places; last = e.last }

-- the edit of these steps: what waits is inserted before the next place that is kept
abbrev pub settle : List Cell → List Step → Edit
settle waiting [] = record { places = []; last = waiting }
settle waiting (Insert c ∷ steps) = settle (waiting ++ c ∷ []) steps
settle waiting (Pass Drop ∷ steps) = with_place (record { before = []; fate = Drop }) (settle waiting steps)
settle waiting (Pass (Keep m) ∷ steps) = with_place (record { before = waiting; fate = Keep m }) (settle [] steps)

abbrev pub edit_of : List Step → Edit
edit_of steps = settle [] steps

-- the steps of an edit
abbrev pub steps_from : List Place → List Cell → List Step
steps_from [] last = inserts last
steps_from (p ∷ ps) last = inserts p.before ++ (Pass p.fate ∷ steps_from ps last)

abbrev pub steps_of : Edit → List Step
steps_of e = steps_from e.places e.last

-- what becomes of a new cell
abbrev pub step_over_new : Cell → Fate → List Step
step_over_new c Drop = []
step_over_new c (Keep m) = Insert (painted c m) ∷ []

-- what becomes of a place that was kept with m
abbrev pub fate_over : AttrMap → Fate → Fate
fate_over m Drop = Drop
fate_over m (Keep c) = Keep (join m c)

-- the pieces of an edit
abbrev pub pieces : List Place → List Cell → List Cell
pieces [] last = last
pieces (q ∷ qs) last = q.before ++ pieces qs last

-- the steps of an edit, and then another over its result
abbrev pub steps_over : List Step → List Place → List Cell → List Step
steps_over [] qs last = inserts (pieces qs last)
steps_over (Pass Drop ∷ steps) qs last = Pass Drop ∷ steps_over steps qs last
steps_over (Insert c ∷ steps) [] last = steps_over steps [] last
steps_over (Pass (Keep m) ∷ steps) [] last = Pass Drop ∷ steps_over steps [] last
steps_over (Insert c ∷ steps) (q ∷ qs) last = inserts q.before ++ (step_over_new c q.fate ++ steps_over steps qs last)
steps_over (Pass (Keep m) ∷ steps) (q ∷ qs) last = inserts q.before ++ (Pass (fate_over m q.fate) ∷ steps_over steps qs last)

-- one edit and then another over its result
abbrev pub compose : Edit → Edit → Edit
compose a b = edit_of (steps_over (steps_of a) b.places b.last)

-- the edit of n places that changes nothing
abbrev pub identity : ℕ → Edit
identity zero = record { places = []; last = [] }
identity (suc n) = with_place (record { before = []; fate = Keep none }) (identity n)
