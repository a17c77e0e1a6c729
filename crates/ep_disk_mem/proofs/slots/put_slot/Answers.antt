use Rattle.std.proofs.Common.{◌≡◌, ◌<◌, ◌∙◌, sym, ap, length, arith}
use Rattle.std.specs.declared.cmp.Ordering.TheVariants.{Equal}
use Rattle.ep_units.specs.Text.{text_cmp}
use Rattle.ep_disk_mem.specs.Slots.{put_in}
use Rattle.ep_disk_mem.proofs.Shelving.{put_equal}
use Rattle.ep_disk_mem.proofs.slots.put_slot.Goals as goal

pub returns-in-Equal-clause-ok : goal.returns-in-Equal-clause-ok
returns-in-Equal-clause-ok c =
    let h = c.loop-at.invariant in
    let s = c.index.result.now in
    let e : text_cmp c.args.slot.name s.name ≡ Equal = sym c.order.ensures ∙ c.in-Equal.is in
    let below : c.loop-at.at < length c.loop-at.slots.items = omega (arith, c.loop-at-test.true, c.len.ensures) in
    put_equal c.loop-at.slots.items c.loop-at.at s c.args.slot below c.index.ensures e ∙ (sym h.1 ∙ ap (λ x. put_in x c.args.slot) h.0)
