use Rattle.std.proofs.Common.{◌≡◌, ◌∙◌, ◌∷◌, ◌++◌, [], List, ap, append_assoc}
use Rattle.ep_disk_mem.specs.declared.mem_file.MemFile.{MemFile}
use Rattle.ep_disk_mem.specs.declared.slots.Slot.{Slot}
use Rattle.ep_disk_mem.specs.Slots.{put_in}
use Rattle.ep_disk_mem.proofs.Shelving.{one_filed}
use Rattle.ep_disk_mem.proofs.slots.file_slots.Goals as goal

pub loop-file-preserved : goal.loop-file-preserved
loop-file-preserved c =
    let h = c.loop-file.invariant in
    let put : c.put_slot.new.slots.items ≡ put_in c.loop-file.slots.items c.slot_of.result = c.in_ok-put_slot.ensures.ok in (
      c.in-Some.file ∷ h.0,
      h.1 ∙ ap (λ (l : List MemFile). l ++ h.0) c.in-Some.ensures.items ∙ append_assoc c.pop.new.self.items (c.in-Some.file ∷ []) h.0,
      one_filed h.0 c.loop-file.slots.items c.put_slot.new.slots.items c.in-Some.file h.2 (put ∙ ap (λ (s : Slot). put_in c.loop-file.slots.items s) c.slot_of.ensures),
    )
