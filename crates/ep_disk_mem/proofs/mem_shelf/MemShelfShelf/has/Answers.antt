use Rattle.std.proofs.Common.{List, ap, ◌∙◌, subst, sym}
use Rattle.std.specs.Prelude.{◌↔◌, Contains, IsTrue}
use Rattle.ep_disk_mem.specs.declared.slots.Slot.{Slot}
use Rattle.ep_disk_mem.specs.Slots.{has_name, names_of}
use Rattle.ep_disk_mem.proofs.Shelving.{among}
use Rattle.ep_disk_mem.proofs.mem_shelf.MemShelfShelf.has.Goals as goal

pub returns-clause-value : goal.returns-clause-value
returns-clause-value c =
    let it = among c.args.self.now.slots.items c.args.name.now in
    let is = c.has_slot.ensures ∙ ap (λ (l : List Slot). has_name l c.args.name.now) c.deref.ensures.value in
    subst (λ b. IsTrue b ↔ Contains (names_of c.args.self.now.slots.items) c.args.name.now) (sym is) it
