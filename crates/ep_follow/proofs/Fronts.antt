-- What the order at a gap sees of a piece.
use Rattle.std.proofs.Common.{◌≡◌, ℕ, ◌+◌, ◌<◌, ◌≤◌, Bool, true, false, ◌||◌, List, [], ◌∷◌, ◌++◌, length, take, drop, refl, sym, ap, ◌∙◌, subst, T, arith, append_assoc, length-append, length-take-le}
use Rattle.std.proofs.lemmas.List.{length-map}
use Rattle.ep_units.specs.Text.{Text}
use Rattle.ep_attr.specs.AttrMap.{AttrMap, has_first as map_has_first}
use Rattle.ep_cs.specs.Doc.{Cell}
use Rattle.ep_cs.specs.Edit.{Step, inserts}
use Rattle.ep_cs.specs.Runs.{cells, inserted, run_steps, steps_of, rest_kept}
use Rattle.ep_cs.specs.Written.{AreWritten}
use Rattle.ep_cs.specs.Follow.{has_first, begins_with_newline}
use Rattle.ep_cs.specs.declared.op.Kind.{Kind}
use Rattle.ep_cs.specs.declared.op.Kind.TheVariants as kind
use Rattle.ep_cs.specs.declared.op.Op.{Op}
use Rattle.ep_cursor.specs.declared.cursor.Head.{Head}
use Rattle.ep_cursor.specs.Heads.{IsHead}
use Rattle.ep_cursor.specs.Left.{Left, steps_left, advanced}
use Rattle.ep_cursor.specs.Said.{source, IsSaid, AreSaid}
use Rattle.ep_cursor.proofs.Advances.{as_kind, head_first}
use Rattle.ep_follow.specs.Gaps.{piece, behind, units_begin_with_newline, is_insert, begins_with_insert, HasUnits}
use Rattle.ep_follow.proofs.Steps.{piece-inserts, no_piece, length-behind}
use Rattle.ep_follow.proofs.Going.{new_cells, insert_steps, insert_text, some_units}

-- the runs that are left have units
pub has_units : (ops : List Op) (bank us : Text) → AreSaid ops bank us → HasUnits ops
has_units [] bank us h = tt
has_units (o ∷ os) bank us h = some_units o.units o.lines (source o.kind bank us) h.0.0 h.0.1

-- where no insert stands first there is no piece
pub without_piece : (l : Left) → begins_with_insert l.ops ≡ false → AreWritten l.ops l.bank → piece (steps_left l) ≡ []
without_piece l e w = (no_piece l.ops l.bank l.rest e w).0

pub without_front : (l : Left) → begins_with_insert l.ops ≡ false → AreWritten l.ops l.bank → behind (steps_left l) ≡ steps_left l
without_front l e w = (no_piece l.ops l.bank l.rest e w).1

piece_first : (m : AttrMap) (us : Text) (cs : List Cell) → 1 ≤ length us → has_first (cells m us ++ cs) ≡ map_has_first m
piece_first m [] cs h = absurd (omega (arith, h))
piece_first m (u ∷ us) cs h = refl

piece_newline : (m : AttrMap) (us : Text) (cs : List Cell) → 1 ≤ length us → begins_with_newline (cells m us ++ cs) ≡ units_begin_with_newline us
piece_newline m [] cs h = absurd (omega (arith, h))
piece_newline m (u ∷ us) cs h = refl

-- the piece begins with the cells of a head that inserts
piece_is : (h : Head) (l : Left) → IsHead h l → h.kind ≡ kind.Insert → piece (steps_left l) ≡ new_cells h l ++ piece (steps_left (advanced h.units h.lines l))
piece_is h l head e =
    ap piece (insert_steps h l (advanced h.units h.lines l) (record { head = head; kind = e; is = refl })) ∙ piece-inserts (new_cells h l) (steps_left (advanced h.units h.lines l))

first_units : (h : Head) (l : Left) → IsHead h l → HasUnits l.ops → 1 ≤ h.units
first_units h l head u = subst HasUnits head.first u

front_long : (h : Head) (l : Left) → IsHead h l → h.kind ≡ kind.Insert → AreWritten l.ops l.bank → length (take h.units l.bank) ≡ h.units
front_long h l head e w =
    let here : AreWritten (as_kind kind.Insert h ∷ drop 1 l.ops) l.bank = subst (λ ops. AreWritten ops l.bank) (head_first kind.Insert h l head e) w in
    here.0.0

-- a head that inserts shows what the order sees
pub sees_first : (h : Head) (l : Left) → IsHead h l → h.kind ≡ kind.Insert → AreWritten l.ops l.bank → HasUnits l.ops → map_has_first h.attrs.now ≡ has_first (piece (steps_left l))
sees_first h l head e w u =
    let long = front_long h l head e w in
    sym (ap has_first (piece_is h l head e) ∙ piece_first h.attrs.now (take h.units l.bank) (piece (steps_left (advanced h.units h.lines l))) (omega (arith, long, first_units h l head u)))

pub sees_newline : (h : Head) (l : Left) → IsHead h l → h.kind ≡ kind.Insert → AreWritten l.ops l.bank → HasUnits l.ops → units_begin_with_newline h.text.now ≡ begins_with_newline (piece (steps_left l))
sees_newline h l head e w u =
    let long = front_long h l head e w in
    ap units_begin_with_newline (insert_text h l head e)
    ∙ sym (ap begins_with_newline (piece_is h l head e) ∙ piece_newline h.attrs.now (take h.units l.bank) (piece (steps_left (advanced h.units h.lines l))) (omega (arith, long, first_units h l head u)))

pub is_insert_kind : (k : Kind) → is_insert k ≡ true → k ≡ kind.Insert
is_insert_kind kind.Keep e = absurd (subst T (sym e) tt)
is_insert_kind kind.Drop e = absurd (subst T (sym e) tt)
is_insert_kind kind.Insert e = refl

-- a head that stands where an insert does
pub inserts_first : (h : Head) (l : Left) → IsHead h l → begins_with_insert l.ops ≡ true → h.kind ≡ kind.Insert
inserts_first h l head e = is_insert_kind h.kind (sym (ap begins_with_insert head.first) ∙ e)

pub nothing_first : (l : Left) → l.ops ≡ [] → begins_with_insert l.ops ≡ true → ⊥
nothing_first l none_left e = subst T (sym e ∙ ap begins_with_insert none_left) tt

-- an insert stands first: there is a piece
some_piece : (ops : List Op) (bank us : Text) (r : ℕ) → begins_with_insert ops ≡ true → AreSaid ops bank us → 1 ≤ length (piece (steps_of ops bank ++ rest_kept r))
some_piece [] bank us r e h = absurd (subst T (sym e) tt)
some_piece (o ∷ os) bank us r e h = go o.kind e h.0
  where
    go : (k : Kind) → is_insert k ≡ true → IsSaid o.units o.lines (source k bank us) → 1 ≤ length (piece ((run_steps k o.units o.attrs (take (inserted k o.units) bank) ++ steps_of os (drop (inserted k o.units) bank)) ++ rest_kept r))
    go kind.Keep e is = absurd (subst T (sym e) tt)
    go kind.Drop e is = absurd (subst T (sym e) tt)
    go kind.Insert e is =
        let x : List Cell = cells o.attrs (take o.units bank) in
        let later : List Step = steps_of os (drop o.units bank) ++ rest_kept r in
        omega (
          arith,
          ap (λ s. length (piece s)) (append_assoc (inserts x) (steps_of os (drop o.units bank)) (rest_kept r)),
          ap length (piece-inserts x later),
          length-append x (piece later),
          length-map {B = Cell} (take o.units bank) (λ u. record { unit = u; attrs = o.attrs }),
          length-take-le o.units bank is.0,
          some_units o.units o.lines bank is.0 is.1,
        )

-- a gap is taken: fewer steps are left
pub gap_less : (a b : Left) (us : Text) → (begins_with_insert a.ops || begins_with_insert b.ops) ≡ true → AreSaid a.ops a.bank us → AreSaid b.ops b.bank us
    → length (behind (steps_left a)) + length (behind (steps_left b)) < length (steps_left a) + length (steps_left b)
gap_less a b us e sa sb =
    omega (arith, length-behind (steps_left a), length-behind (steps_left b), go (begins_with_insert a.ops) (begins_with_insert b.ops) e (λ e. some_piece a.ops a.bank us a.rest e sa) (λ e. some_piece b.ops b.bank us b.rest e sb))
  where
    go : (x y : Bool) → (x || y) ≡ true → (x ≡ true → 1 ≤ length (piece (steps_left a))) → (y ≡ true → 1 ≤ length (piece (steps_left b))) → 1 ≤ length (piece (steps_left a)) + length (piece (steps_left b))
    go true y e f g = omega (arith, f refl)
    go false y e f g = omega (arith, g e)

pub not_insert : (k : Kind) → (k ≡ kind.Insert → ⊥) → is_insert k ≡ false
not_insert kind.Keep other = refl
not_insert kind.Drop other = refl
not_insert kind.Insert other = absurd (other refl)

-- a head that does not insert
pub no_insert_first : (h : Head) (l : Left) → IsHead h l → (h.kind ≡ kind.Insert → ⊥) → begins_with_insert l.ops ≡ false
no_insert_first h l head other = ap begins_with_insert head.first ∙ not_insert h.kind other
