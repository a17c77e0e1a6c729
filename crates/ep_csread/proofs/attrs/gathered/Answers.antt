use Rattle.std.proofs.Common.{◌≡◌, ◌∙◌, ◌++◌, ◌∷◌, [], ◌+◌, drop, get_or, sym, ap, ap₂, Vec, Global, List, Option, Some, None}
use Rattle.std.specs.List.{slice_get}
use Rattle.std.proofs.lemmas.List.{map_push}
use Rattle.ep_units.specs.Text.{Text}
use Rattle.ep_attr.specs.AttrMap.{AttrMap, Pair, none, of_pairs}
use Rattle.ep_attr.specs.Attrs.{pairs_of}
use Rattle.ep_attr.specs.declared.attr_map.Attr.{Attr}
use Rattle.ep_csread.specs.declared.written.Number.{Number}
use Rattle.ep_csread.specs.Reading.{map_from, values, with_pair}
use Rattle.ep_csread.proofs.Named.{map_more, small_more, of_pairs_last, at_any_default}
use Rattle.ep_csread.proofs.attrs.gathered.Goals as goal
use Rattle.ep_csread.proofs.attrs.gathered.Goals.{in-Some+in_ok-key+in_ok-value+in_ok-push, in_default}

-- the map of the attributes after one more number
step : (pool : List Pair) (old new : List Attr) (rest ns : List Number) (o : Option Pair) → map_from pool (with_pair o (of_pairs (pairs_of old))) (values rest) ≡ map_from pool none (values ns)
    → of_pairs (pairs_of new) ≡ with_pair o (of_pairs (pairs_of old)) → map_from pool (of_pairs (pairs_of new)) (values rest) ≡ map_from pool none (values ns)
step pool old new rest ns o e f = ap (λ (m : AttrMap). map_from pool m (values rest)) f ∙ e

pushed : (old new : List Attr) (a : Attr) (o : Option Pair) → new ≡ old ++ a ∷ [] → Some (a.key, a.value) ≡ o → of_pairs (pairs_of new) ≡ with_pair o (of_pairs (pairs_of old))
pushed old new a o e f =
    ap (λ (attrs : List Attr). of_pairs (pairs_of attrs)) e ∙ ap of_pairs (map_push (λ (a : Attr). (a.key, a.value)) old a) ∙ of_pairs_last (pairs_of old) (a.key, a.value)
    ∙ ap (λ (p : Option Pair). with_pair p (of_pairs (pairs_of old))) f

kept : (old new : List Attr) (o : Option Pair) → new ≡ old → None ≡ o → of_pairs (pairs_of new) ≡ with_pair o (of_pairs (pairs_of old))
kept old new o e f = ap (λ (attrs : List Attr). of_pairs (pairs_of attrs)) e ∙ ap (λ (p : Option Pair). with_pair p (of_pairs (pairs_of old))) f

pub loop-star-preserved : goal.loop-star-preserved
loop-star-preserved c =
    let pool = c.args.pool.now.pairs in
    let ns = c.args.stars.now in
    let i = c.loop-star.star-index in
    let old = c.loop-star.attrs.items in
    let n : Number = get_or ns i (record { value = 0; left = 0 }) in
    let there : n ≡ get_or ns i n = at_any_default ns i (record { value = 0; left = 0 }) n c.loop-star-test.true in
    let more = sym (map_more pool (of_pairs (pairs_of old)) ns i n c.loop-star-test.true there) ∙ c.loop-star.invariant.so_far in
    let small = small_more ns i n c.loop-star-test.true there c.loop-star.invariant.small in
    record {
      so_far = step pool old c.match-get.attrs.items (drop (i + 1) ns) ns (slice_get pool n.value) more
          (elim c.match-get.branch [
            | in-Some+in_ok-key+in_ok-value+in_ok-push w ↦
                pushed old c.match-get.attrs.items (record { key = w.in_ok-key.key; value = w.in_ok-value.value }) (slice_get pool n.value)
                (ap (λ (v : Vec Attr Global). v.items) w.attrs-is ∙ w.in_ok-push.ensures.items)
                (ap₂ (λ (k v : Text). Some (k, v)) w.in_ok-key.ensures w.in_ok-value.ensures ∙ w.in-Some.ensures)
            | in_default w ↦ kept old c.match-get.attrs.items (slice_get pool n.value) (ap (λ (v : Vec Attr Global). v.items) w.attrs-is) w.in_default.ensures
          ]);
      small = small.rest;
    }
