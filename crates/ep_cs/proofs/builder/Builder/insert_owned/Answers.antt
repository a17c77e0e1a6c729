use Rattle.std.proofs.Common.{◌≡◌, ◌+◌, ◌∙◌, ◌++◌, ◌∷◌, [], List, length, ap, refl, sym, arith, append-nil, length-append}
use Rattle.ep_attr.specs.AttrMap.{none, after}
use Rattle.ep_cs.specs.declared.op.Kind.TheVariants as kind
use Rattle.ep_cs.specs.declared.op.Op.{Op}
use Rattle.ep_cs.specs.Edit.{inserts}
use Rattle.ep_cs.specs.Runs.{cells}
use Rattle.ep_cs.specs.Draft.{Draft, inserting, inserted_by}
use Rattle.ep_cs.specs.Packed.{begun}
use Rattle.ep_cs.proofs.Drafts.{is_begun, begun_more, new_inserted, once, bank_inserted}
use Rattle.ep_cs.proofs.builder.Builder.insert_owned.Goals as goal

pub invariant_of-self-2 : goal.invariant_of-self-2
invariant_of-self-2 c =
    let b = c.self.inside in
    let op : Op = record { kind = kind.Insert; units = length c.args.text.now; lines = 0; attrs = c.in_ok-attrs.attrs } in
    let map : c.in_ok-attrs.attrs ≡ after none c.args.attrs = c.in_ok-attrs.ensures in
    let items = c.push_reserved.ensures.items ∙ ap (λ (os : List Op). os ++ op ∷ []) c.in_ok-reserve.ensures.items in
    is_begun b _ op c.args.text.now c.self.invariant (record { old = refl; ops = items; bank = c.in_ok-push_all.ensures.ok; width = refl; is = (refl, map ∙ once c.args.attrs ∙ ap (after none) (sym map)); lined = omega arith })
    (omega (arith, c.self.invariant.inside)) (new_inserted b c.in_ok-attrs.attrs c.args.text.now c.self.invariant) (omega (arith, ap length c.in_ok-push_all.ensures.ok, length-append b.bank c.args.text.now, bank_inserted b c.self.invariant, ap (λ (d : Draft). inserted_by d.steps) c.self.view_is, c.requires))

pub returns-clause-ok : goal.returns-clause-ok
returns-clause-ok c =
    let b = c.self.inside in
    let op : Op = record { kind = kind.Insert; units = length c.args.text.now; lines = 0; attrs = c.in_ok-attrs.attrs } in
    let map : c.in_ok-attrs.attrs ≡ after none c.args.attrs = c.in_ok-attrs.ensures in
    let items = c.push_reserved.ensures.items ∙ ap (λ (os : List Op). os ++ op ∷ []) c.in_ok-reserve.ensures.items in
    begun_more b (record { alloc = b.alloc; old_len = b.old_len; new_len = b.new_len + length c.args.text.now; ops = c.push_reserved.new.self; bank = c.push_all.new.self }) op c.args.text.now c.self.invariant (record { old = refl; ops = items; bank = c.in_ok-push_all.ensures.ok; width = refl; is = (refl, map ∙ once c.args.attrs ∙ ap (after none) (sym map)); lined = omega arith })
    ∙ (λ i. record { old = b.old_len; steps = (begun b).steps ++ inserts (cells (map i) c.args.text.now); marks = append-nil (begun b).marks i })
    ∙ ap (λ (d : Draft). inserting d c.args.text.now c.args.attrs) c.self.view_is
