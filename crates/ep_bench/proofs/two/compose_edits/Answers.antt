use Rattle.std.proofs.Common.{◌≡◌, ◌<◌, ◌%◌, ◌∙◌, List, length, get_or, sym, ap, subst}
use Rattle.ep_cs.specs.Edit.{apply}
use Rattle.ep_cs.specs.Fits.{Fits}
use Rattle.ep_bench.specs.declared.two.Chained.{Chained}
use Rattle.ep_bench.proofs.two.compose_edits.Goals as goal

pub compose-requires : goal.compose-requires
compose-requires c =
    let found = c.in-Some.ensures.lookup in
    let pairs = c.in_ok-pairs.pairs.items in
    let at = c.loop-i.i % 64 in
    let pair : Chained = c.in-Some.pair.now in
    let inside = subst (λ (ps : List Chained). at < length ps) c.deref.ensures.value found.3.0 in
    let is : get_or pairs at pair ≡ pair = ap (λ (ps : List Chained). get_or ps at pair) (sym c.deref.ensures.value) ∙ sym (found.3.1 pair) in
    let fits = subst (λ (x : Chained). Fits x.first c.in_ok-doc.doc × Fits x.second (apply x.first.edit c.in_ok-doc.doc)) is (c.in_ok-pairs.ensures at pair inside) in
    (c.in_ok-doc.doc, fits.0, fits.1)
