use Rattle.std.proofs.Common.{◌≡◌, ◌∙◌, ◌==◌, ◌&&◌, ℕ, List, ap, sym, true, length}
use Rattle.ep_outside.proofs.Rising.{and_left, and_right}
use Rattle.ep_disk_mem.specs.Files.{are_sure}
use Rattle.ep_disk_mem.proofs.mem_shelf.MemShelf.new.Goals as goal

pub invariant_of-result-clause-sure : goal.invariant_of-result-clause-sure
invariant_of-result-clause-sure c steady =
    let none = length c.args.fails.items == 0 in
    let sure = are_sure c.args.files.items in
    let files = c.deref.ensures.value in
    let fails = c.deref-2.ensures.value in
    let same : (length c.deref-2.result.now == 0) && are_sure c.deref.result.now ≡ none && sure = λ i. (length (fails i) == 0) && are_sure (files i) in
    let both : none && sure ≡ true = sym same ∙ (sym c.are_sure-is_sure.ensures ∙ steady) in (
      ap (λ (v : List ℕ). length v == 0) (ap (λ v. v.items) c.new.ensures.fails) ∙ and_left none sure both,
      c.new.ensures.none,
      c.in_ok-slots.ensures.sure (and_right none sure both),
    )
