use Rattle.std.proofs.Common.{◌≡◌, ◌==◌, ◌∙◌, ℕ, List, Some, ap, length, refl, rules, subst, sym}
use Rattle.std.specs.Prelude.{Contains}
use Rattle.ep_disk_mem.specs.declared.slots.Slot.{Slot}
use Rattle.ep_disk_mem.specs.Slots.{names_of}
use Rattle.ep_disk_mem.proofs.Shelving.{empty_when_new, opened, others, named, still_rises, still_sure}
use Rattle.ep_disk_mem.proofs.mem_shelf.MemShelfShelf.open.Goals as goal

pub invariant_of-self-2-clause-rising : goal.invariant_of-self-2-clause-rising
invariant_of-self-2-clause-rising c = still_rises c.args.self.now.slots.items _ _ c.put_slot.result c.put_slot.ensures.ok c.put_slot.ensures.err c.args.self.now.rising

pub invariant_of-self-2-clause-sure : goal.invariant_of-self-2-clause-sure
invariant_of-self-2-clause-sure c steady =
    let was = c.args.self.now.sure steady in
    let same : c.call.new.self.failures ≡ c.args.self.now.faults.failures = search rules in (
      ap (λ (l : List ℕ). length l == 0) c.call.ensures.same ∙ was.0,
      same ∙ was.1,
      still_sure c.args.self.now.slots.items _ _ c.put_slot.result c.put_slot.ensures.ok c.put_slot.ensures.err refl was.2,
    )

pub returns-clause-empty : goal.returns-clause-empty
returns-clause-empty c new =
    let apart = subst (λ (l : List Slot). Contains (names_of l) c.args.name.now → ⊥) (sym c.deref.ensures.value) new in
    empty_when_new c.deref.result.now c.args.name.now _ c.in_ok-disk.ensures.holds apart

pub returns-clause-opened : goal.returns-clause-opened
returns-clause-opened c = opened c.args.self.now.slots.items _ _ _ c.in_ok-name.ensures c.in_ok-put_slot.ensures.ok refl

pub returns-clause-others : goal.returns-clause-others
returns-clause-others c = others c.args.self.now.slots.items _ _ _ c.in_ok-name.ensures c.in_ok-put_slot.ensures.ok

pub returns-clause-names : goal.returns-clause-names
returns-clause-names c = ap (λ (ns : List (List ℕ)). Some ns) (named c.args.self.now.slots.items _ _ _ c.in_ok-name.ensures c.in_ok-put_slot.ensures.ok)
