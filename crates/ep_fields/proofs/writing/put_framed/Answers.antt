use Rattle.std.proofs.Common.{◌≡◌, ◌++◌, ◌∙◌, List, ℕ, ap, subst}
use Rattle.ep_units.specs.Text.{Text}
use Rattle.ep_attr.specs.AttrMap.{Pair}
use Rattle.ep_cs.specs.Change.{bank_of}
use Rattle.ep_fields.specs.Bytes.{text, pool, frame, attribs, wire_pool, IsText, IsPool, IsInsertion}
use Rattle.ep_fields.specs.Writing.{Adds}
use Rattle.ep_fields.proofs.Adding.{adds_then}
use Rattle.ep_fields.proofs.writing.put_framed.Goals as goal

pub returns : goal.returns
unfolding frame
returns c =
    let out = c.args.out.now.items in
    let doc = c.args.doc.now in
    let units = c.put_text.new.out.items in
    let ops = c.put_text-2.new.out.items in
    let end = c.put_pool.new.out.items in
    let first : (units ≡ out ++ text (bank_of doc.edit)) × IsText (bank_of doc.edit) =
    subst (λ (us : Text). (units ≡ out ++ text us) × IsText us) c.bank.ensures c.in_ok-put_text.ensures in
    let second : (ops ≡ units ++ text (attribs doc)) × IsText (attribs doc) =
    subst (λ (us : Text). (ops ≡ units ++ text us) × IsText us) c.in_ok-text.ensures.text c.in_ok-put_text-2.ensures in
    let added : Adds c.put_pool.result ops end (pool (wire_pool doc)) (IsPool (wire_pool doc)) =
    subst (λ (ps : List Pair). Adds c.put_pool.result ops end (pool ps) (IsPool ps)) c.in_ok-text.ensures.pool c.put_pool.ensures in
    adds_then c.put_pool.result out units end (text (bank_of doc.edit)) (text (attribs doc) ++ pool (wire_pool doc)) (IsInsertion doc) (IsText (attribs doc) × IsPool (wire_pool doc))
    first.0
    (λ q. record { normal = c.ops-runs.ensures.normal; alone = c.requires; text = first.1; attribs = q.0; pairs = q.1 })
    (λ p. (p.attribs, p.pairs))
    (adds_then c.put_pool.result units ops end (text (attribs doc)) (pool (wire_pool doc)) (IsText (attribs doc) × IsPool (wire_pool doc)) (IsPool (wire_pool doc)) second.0 (λ q. (second.1, q)) (λ p. p.1) added)
