use Rattle.std.proofs.Common.{◌≡◌, ◌∙◌, sym, ap, subst, T, IfOk}
use Rattle.std.specs.FinMap.Entries.{is_sorted}
use Rattle.ep_units.specs.Text.{text_cmp}
use Rattle.ep_attr.specs.AttrMap.{pointwise}
use Rattle.ep_attr.specs.Attrs.{map_of_pairs, pairs_of}
use Rattle.ep_attr.specs.Merged.{merged}
use Rattle.ep_attr.specs.Rule.{value_of}
use Rattle.ep_attr.proofs.Maps.{map_of_own_pairs}
use Rattle.ep_attr.proofs.Merge.{sorted_merged, merged_is_pointwise, nothing_of}
use Rattle.ep_attr.proofs.attr_map.AttrMap.by_rule.Goals as goal

pub kept-requires : goal.kept-requires
kept-requires c =
    let f = value_of c.args.rule in
    let made : pairs_of c.in_ok-pairs.pairs.items ≡ merged f c.args.self.now.pairs c.args.other.now.pairs
    = c.in_ok-pairs.ensures ∙ (λ i. merged f (c.pairs.ensures i) (c.pairs-2.ensures i)) in
    subst (λ ps. T (is_sorted text_cmp ps)) (sym made) (sorted_merged f (nothing_of c.args.rule) c.args.self.now.pairs c.args.other.now.pairs c.args.self.now.sorted c.args.other.now.sorted)

pub returns : goal.returns
returns c =
    let f = value_of c.args.rule in
    let made : pairs_of c.in_ok-pairs.pairs.items ≡ merged f c.args.self.now.pairs c.args.other.now.pairs
    = c.in_ok-pairs.ensures ∙ (λ i. merged f (c.pairs.ensures i) (c.pairs-2.ensures i)) in
    subst (λ x. IfOk c.kept.result (λ m. m ≡ x))
    (ap map_of_pairs made
    ∙ merged_is_pointwise f (nothing_of c.args.rule) c.args.self.now.pairs c.args.other.now.pairs c.args.self.now.sorted c.args.other.now.sorted
    ∙ (λ i. pointwise f (map_of_own_pairs c.args.self.now i) (map_of_own_pairs c.args.other.now i)))
    c.kept.ensures
