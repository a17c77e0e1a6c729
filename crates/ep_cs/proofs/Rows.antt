-- Worked rows, computed from the definitions: what changesets mean, and how they are spelled.
use Rattle.std.proofs.Common.{◌≡◌, ℕ, true, false, List, [], ◌∷◌, refl, codes}
use Rattle.ep_units.specs.Text.{Text}
use Rattle.ep_units.specs.Base36.{write36}
use Rattle.ep_attr.specs.AttrMap.{AttrMap, none, insert, rest, is_none}
use Rattle.ep_cs.specs.Doc.{text_of}
use Rattle.ep_cs.specs.Edit.{Edit, apply, compose, identity}
use Rattle.ep_cs.specs.Splice.{splice}
use Rattle.ep_cs.specs.declared.op.Kind.TheVariants as kind
use Rattle.ep_cs.specs.declared.op.Op.{Op}
use Rattle.ep_cs.specs.Change.{change_of, stamped}
use Rattle.ep_cs.specs.Fits.{keeps_pairs}
use Rattle.ep_cs.specs.Follow.{follow, merge}
use Rattle.ep_cs.specs.Plain.{plain}
use Rattle.ep_cs.specs.Spelling.{spelling, plain_spelling}

abbrev keep : ℕ → ℕ → AttrMap → Op
keep n lines m = record { kind = kind.Keep; units = n; lines = lines; attrs = m }

abbrev skip : ℕ → ℕ → Op
skip n lines = record { kind = kind.Drop; units = n; lines = lines; attrs = none }

abbrev put : ℕ → ℕ → AttrMap → Op
put n lines m = record { kind = kind.Insert; units = n; lines = lines; attrs = m }

abbrev ab : Text
ab = 97 ∷ 98 ∷ 10 ∷ []

abbrev abcd : Text
abcd = 97 ∷ 98 ∷ 10 ∷ 99 ∷ 100 ∷ 10 ∷ []

abbrev X : Text
X = 88 ∷ []

abbrev Y : Text
Y = 89 ∷ []

abbrev with : Text → Text → AttrMap
with k v = insert none k v

abbrev color : Text → AttrMap
color v = with (codes "color") v

-- the pair of a map has the number 0
abbrev first_pair : AttrMap → List ℕ
first_pair m = elim (is_none m) [ true ↦ [] | false ↦ 0 ∷ [] ]

-- how an edit of a text is spelled
abbrev spelt : Edit → Text → Text
spelt e text = spelling first_pair (stamped e text)

-- inserting before dropping in one gap is spelled the other way round
drops_first : plain_spelling (change_of 6 (keep 1 0 none ∷ put 1 0 none ∷ skip 1 0 ∷ []) (97 ∷ [])) ≡ codes "Z:6>0=1-1+1$a"
unfolding write36
drops_first = refl

-- splices of "ab\ncd\n"
splice_at_4 : spelt (splice 6 4 0 (plain (120 ∷ []))) abcd ≡ codes "Z:6>1|1=3=1+1$x"
unfolding write36
splice_at_4 = refl

splice_at_1 : spelt (splice 6 1 3 (plain (120 ∷ []))) abcd ≡ codes "Z:6<2=1|1-2-1+1$x"
unfolding write36
splice_at_1 = refl

-- a text of five units before the newline of a new pad
created : spelt (splice 1 0 0 (plain (codes "hello"))) (10 ∷ []) ≡ codes "Z:1>5+5$hello"
unfolding write36
created = refl

nothing_done : spelt (splice 1 0 0 (plain [])) (10 ∷ []) ≡ codes "Z:1>0$"
unfolding write36
nothing_done = refl

-- a trailing keep without attributes isn't written, also where it is spelled out, and loses its claim
trailing_keep : change_of 3 (keep 3 0 none ∷ []) [] ≡ stamped (identity 3) ab
trailing_keep = refl

abbrev X1 : Edit
X1 = splice 3 1 0 (plain X)

abbrev Y1 : Edit
Y1 = splice 3 1 0 (plain Y)

abbrev N1 : Edit
N1 = splice 3 1 0 (plain (10 ∷ []))

-- a tie goes by the side that is named
tie : spelt (follow true X1 Y1) (text_of (apply X1 (plain ab))) ≡ codes "Z:4>1=2+1$Y"
unfolding write36
tie = refl

tie_other : spelt (follow false X1 Y1) (text_of (apply X1 (plain ab))) ≡ codes "Z:4>1=1+1$Y"
unfolding write36
tie_other = refl

-- what begins with a newline goes last, whichever side is named
newline_last : spelt (follow true N1 Y1) (text_of (apply N1 (plain ab))) ≡ codes "Z:4>1=1+1$Y"
unfolding write36
newline_last = refl

-- what has (insertorder, first) goes first
abbrev first : AttrMap
first = with (codes "insertorder") (codes "first")

abbrev Y_first : Edit
Y_first = splice 3 1 0 (record { unit = 89; attrs = first } ∷ [])

marked_first : spelt (follow true X1 Y_first) (text_of (apply X1 (plain ab))) ≡ codes "Z:4>1=1*0+1$Y"
unfolding write36
marked_first = refl

-- two deletions meet
dropped_once : spelt (follow true (splice 3 0 1 []) (splice 3 0 2 [])) (98 ∷ 10 ∷ []) ≡ codes "Z:2<1-1$"
unfolding write36
dropped_once = refl

-- of two values of one key that are set at once the earlier text stays
abbrev painted_with : AttrMap → Edit
painted_with m = (change_of 3 (keep 1 0 m ∷ []) []).edit

abbrev red : Edit
red = painted_with (color (codes "red"))

abbrev blue : Edit
blue = painted_with (color (codes "blue"))

blue_stays : follow true red blue ≡ blue
blue_stays = refl

red_yields : follow true blue red ≡ identity 3
red_yields = refl

left_of_blue : rest (color (codes "red")) (color (codes "blue")) ≡ color (codes "blue")
left_of_blue = refl

-- compositions
both_inserts : spelt (compose X1 (splice 4 2 0 (plain Y))) ab ≡ codes "Z:3>2=1+2$XY"
unfolding write36
both_inserts = refl

taken_back : apply (splice 4 1 1 []) (apply X1 (plain ab)) ≡ plain ab
taken_back = refl

color_removed : spelt (compose (splice 3 1 0 (record { unit = 88; attrs = color (codes "red") } ∷ [])) (change_of 4 (keep 1 0 none ∷ keep 1 0 (color []) ∷ []) []).edit) ab ≡ codes "Z:3>1=1+1$X"
unfolding write36
color_removed = refl

removal_stays : spelt (compose red (painted_with (color []))) ab ≡ codes "Z:3>0*0=1$"
unfolding write36
removal_stays = refl

-- an insertion against a replacement, both ways round
abbrev D2Y : Edit
D2Y = splice 3 0 2 (plain Y)

against_insertion : spelt (follow true X1 D2Y) (text_of (apply X1 (plain ab))) ≡ codes "Z:4<1-1=1-1+1$Y"
unfolding write36
against_insertion = refl

against_replacement : spelt (follow false D2Y X1) (text_of (apply D2Y (plain ab))) ≡ codes "Z:2>1+1$X"
unfolding write36
against_replacement = refl

either_way : compose X1 (follow true X1 D2Y) ≡ compose D2Y (follow false D2Y X1)
either_way = refl

both_at_once : compose X1 (follow true X1 D2Y) ≡ merge true X1 D2Y
both_at_once = refl

both_texts : text_of (apply (follow true X1 D2Y) (apply X1 (plain ab))) ≡ codes "XY\n"
both_texts = refl

-- an insertion between the halves of "a😀\n" cuts a pair
pair_cut : keeps_pairs (splice 4 2 0 (plain (120 ∷ []))).places (97 ∷ 55357 ∷ 56832 ∷ 10 ∷ []) ≡ false
pair_cut = refl
