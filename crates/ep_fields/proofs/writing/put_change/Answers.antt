use Rattle.std.proofs.Common.{◌++◌, ◌∙◌, List, ap, subst}
use Rattle.ep_attr.specs.AttrMap.{Pair}
use Rattle.ep_csread.specs.Spelling.{printed}
use Rattle.ep_fields.specs.Bytes.{text, pool, change, wire_text, wire_pool, IsText, IsPool, IsChange}
use Rattle.ep_fields.specs.Writing.{Adds}
use Rattle.ep_fields.proofs.Adding.{adds_then}
use Rattle.ep_fields.proofs.writing.put_change.Goals as goal

pub returns : goal.returns
unfolding change
returns c =
    let out = c.args.out.now.items in
    let done = c.args.done.now in
    let named = c.in_ok-pairs.ensures.pairs in
    let front = c.in_ok-put_spelled.ensures.0 ∙ ap (λ (ps : List Pair). out ++ text (printed ps done)) named in
    let spelled = subst (λ (ps : List Pair). IsText (printed ps done)) named c.in_ok-put_spelled.ensures.1 in
    let added = subst (λ (ps : List Pair). Adds c.put_pool.result c.put_spelled.new.out.items c.put_pool.new.out.items (pool ps) (IsPool ps)) named c.put_pool.ensures in
    adds_then c.put_pool.result out c.put_spelled.new.out.items c.put_pool.new.out.items (text (wire_text done)) (pool (wire_pool done)) (IsChange done) (IsPool (wire_pool done))
    front (λ q. record { normal = c.ops-runs.ensures.normal; spelling = spelled; pairs = q }) (λ p. p.pairs) added
