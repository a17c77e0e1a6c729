-- The map of written numbers.
use Rattle.std.proofs.Common.{◌≡◌, ℕ, zero, suc, ◌+◌, ◌<◌, Bool, true, false, cond, List, [], ◌∷◌, ◌++◌, map, length, take, drop, get_or, Option, Some, None, nat_lt, refl, sym, ap, ap₂, ◌∙◌, arith}
use Rattle.std.specs.List.{slice_get}
use Rattle.std.proofs.lemmas.List.{drop_more, take_more, map_push}
use Rattle.std.proofs.lemmas.Bool.Decides.{nat_tests}
use Rattle.std.specs.List.{flat_map}
use Rattle.ep_attr.specs.AttrMap.{AttrMap, Pair, none, insert, with_pairs, of_pairs}
use Rattle.ep_cs.specs.declared.op.Kind.{Kind}
use Rattle.ep_cs.specs.declared.op.Op.{Op}
use Rattle.ep_csread.specs.declared.written.WrittenOp.{WrittenOp}
use Rattle.ep_csread.specs.Syntax.{Operation}
use Rattle.ep_csread.specs.Spelling.{said}
use Rattle.ep_csread.proofs.First.{next_op}
use Rattle.ep_csread.specs.declared.written.Number.{Number}
use Rattle.ep_csread.specs.Reading.{first_such, is_big, op_numbers, all_resolved, resolved, map_for, map_from, pair_at, with_pair, values}
use Rattle.ep_csread.specs.Views.{op_view, op_views}

pub slice_get-pair_at : (ps : List Pair) (n : ℕ) → slice_get ps n ≡ pair_at ps n
slice_get-pair_at [] n = refl
slice_get-pair_at (p ∷ ps) zero = refl
slice_get-pair_at (p ∷ ps) (suc n) = slice_get-pair_at ps n

-- none is too big
pub record IsSmall (n : Number) (ns : List Number) : Type 0 where
  pub not_big : is_big n ≡ false
  pub below : n.value < 4294967296
  pub rest : first_such is_big ns ≡ None

pub small_first : (n : Number) (ns : List Number) → first_such is_big (n ∷ ns) ≡ None → IsSmall n ns
small_first n ns e = go (is_big n) refl e
  where
    small : (v : ℕ) → nat_lt 4294967295 v ≡ false → v < 4294967296
    small v b = grind (arith, nat_tests)

    go : (b : Bool) → is_big n ≡ b → cond b (Some n) (first_such is_big ns) ≡ None → IsSmall n ns
    go true b e = absurd cc
    go false b e = record { not_big = b; below = small n.value b; rest = e }

pub record IsSmallOp (ns : List Number) (l u : Number) : Type 0 where
  pub stars : first_such is_big ns ≡ None
  pub lines : l.value < 4294967296
  pub units : u.value < 4294967296

pub small_op : (stars : List Number) (lines units : Number) → first_such is_big (stars ++ (lines ∷ (units ∷ []))) ≡ None → IsSmallOp stars lines units
small_op [] lines units e =
    let a = small_first lines (units ∷ []) e in
    record { stars = refl; lines = a.below; units = (small_first units [] a.rest).below }
small_op (n ∷ ns) lines units e =
    let a = small_first n (ns ++ (lines ∷ (units ∷ []))) e in
    let b = small_op ns lines units a.rest in
    record { stars = ap (λ (b : Bool). cond b (Some n) (first_such is_big ns)) a.not_big ∙ b.stars; lines = b.lines; units = b.units }

-- the map of one more number
pub map_more : (pool : List Pair) (m : AttrMap) (ns : List Number) (i : ℕ) (n : Number) → i < length ns → n ≡ get_or ns i n
    → map_from pool m (values (drop i ns)) ≡ map_from pool (with_pair (slice_get pool n.value) m) (values (drop (i + 1) ns))
map_more pool m ns i n h e =
    ap (λ (xs : List Number). map_from pool m (values xs)) (drop_more ns i n h ∙ ap (λ (x : Number). x ∷ drop (i + 1) ns) (sym e))
    ∙ ap (λ (o : Option Pair). map_from pool (with_pair o m) (values (drop (i + 1) ns))) (sym (slice_get-pair_at pool n.value))

pub small_more : (ns : List Number) (i : ℕ) (n : Number) → i < length ns → n ≡ get_or ns i n → first_such is_big (drop i ns) ≡ None → IsSmall n (drop (i + 1) ns)
small_more ns i n h e none =
    small_first n (drop (i + 1) ns) (ap (λ (x : Number). first_such is_big (x ∷ drop (i + 1) ns)) e ∙ sym (ap (first_such is_big) (drop_more ns i n h)) ∙ none)

with_last : (m : AttrMap) (ps : List Pair) (p : Pair) → with_pairs m (ps ++ p ∷ []) ≡ insert (with_pairs m ps) p.0 p.1
with_last m [] p = refl
with_last m (q ∷ ps) p = with_last (insert m q.0 q.1) ps p

pub of_pairs_last : (ps : List Pair) (p : Pair) → of_pairs (ps ++ p ∷ []) ≡ insert (of_pairs ps) p.0 p.1
of_pairs_last ps p = with_last none ps p

-- of operations whose numbers are small, the next one's are
pub record AreSmall (o : Operation) (os : List Operation) : Type 0 where
  pub first : first_such is_big (op_numbers o) ≡ None
  pub rest : first_such is_big (flat_map op_numbers os) ≡ None

split_none : (a b : List Number) → first_such is_big (a ++ b) ≡ None → (first_such is_big a ≡ None) × (first_such is_big b ≡ None)
split_none [] b e = (refl, e)
split_none (n ∷ a) b e =
    let s = small_first n (a ++ b) e in
    let p = split_none a b s.rest in
    (ap (λ (c : Bool). cond c (Some n) (first_such is_big a)) s.not_big ∙ p.0, p.1)

pub small_ops : (ops : List WrittenOp) (i : ℕ) (o : WrittenOp) → i < length ops → o ≡ get_or ops i o
    → first_such is_big (flat_map op_numbers (op_views (drop i ops))) ≡ None → AreSmall (op_view o) (op_views (drop (i + 1) ops))
small_ops ops i o h e none =
    let p = split_none (op_numbers (op_view o)) (flat_map op_numbers (op_views (drop (i + 1) ops))) (sym (ap (first_such is_big) (next_op op_numbers ops i o h e)) ∙ none) in
    record { first = p.0; rest = p.1 }

pub resolved_more : (pool : List Pair) (ops : List WrittenOp) (i : ℕ) (o : WrittenOp) → i < length ops → o ≡ get_or ops i o
    → all_resolved pool (op_views (take (i + 1) ops)) ≡ all_resolved pool (op_views (take i ops)) ++ resolved pool (said (op_view o)) ∷ []
resolved_more pool ops i o h e =
    ap (λ (xs : List WrittenOp). all_resolved pool (op_views xs)) (take_more ops i o h ∙ ap (λ (x : WrittenOp). take i ops ++ x ∷ []) (sym e))
    ∙ ap (λ (xs : List Operation). all_resolved pool xs) (map_push op_view (take i ops) o)
    ∙ ap (map (resolved pool)) (map_push said (op_views (take i ops)) (op_view o))
    ∙ map_push (resolved pool) (map said (op_views (take i ops))) (said (op_view o))

pub at_any_default : (ns : List Number) (i : ℕ) (d e : Number) → i < length ns → get_or ns i d ≡ get_or ns i e
at_any_default [] i d e h = absurd (omega arith)
at_any_default (n ∷ ns) zero d e h = refl
at_any_default (n ∷ ns) (suc i) d e h = at_any_default ns i d e (omega arith)

pub made_at : (pool : List Pair) (ops : List WrittenOp) (j : ℕ) (o : WrittenOp) (m : Op) → j < length ops
    → get_or (all_resolved pool (op_views ops)) j m ≡ resolved pool (said (op_view (get_or ops j o)))
made_at pool [] j o m h = absurd (omega arith)
made_at pool (p ∷ ops) zero o m h = refl
made_at pool (p ∷ ops) (suc j) o m h = made_at pool ops j o m (omega arith)

-- operations of one kind with the same numbers have one map
pub shared_map : (pool : List Pair) (ops : List WrittenOp) (made : List Op) (j : ℕ) (o : WrittenOp) (m : Op)
    → made ≡ all_resolved pool (op_views ops) → j < length ops → (get_or ops j o).kind ≡ o.kind → values (get_or ops j o).stars.items ≡ values o.stars.items
    → (get_or made j m).attrs ≡ map_for o.kind (map_from pool none (values o.stars.items))
shared_map pool ops made j o m all h kind stars =
    ap (λ (x : Op). x.attrs) (ap (λ (xs : List Op). get_or xs j m) all ∙ made_at pool ops j o m h)
    ∙ ap₂ (λ (k : Kind) (ns : List ℕ). map_for k (map_from pool none ns)) kind stars
