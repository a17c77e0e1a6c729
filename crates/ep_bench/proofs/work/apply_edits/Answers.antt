use Rattle.std.proofs.Common.{◌≡◌, ◌<◌, ◌%◌, ◌∙◌, List, length, get_or, sym, ap, subst}
use Rattle.ep_cs.specs.Fits.{Fits}
use Rattle.ep_cs.specs.Change.{Change}
use Rattle.ep_bench.proofs.work.apply_edits.Goals as goal

pub apply-requires : goal.apply-requires
apply-requires c =
    let found = c.in-Some.ensures.lookup in
    let changes = c.in_ok-changes.changes.items in
    let at = c.loop-i.i % 64 in
    let change : Change = c.in-Some.change.now in
    let inside = subst (λ (cs : List Change). at < length cs) c.deref.ensures.value found.3.0 in
    let is : get_or changes at change ≡ change = ap (λ (cs : List Change). get_or cs at change) (sym c.deref.ensures.value) ∙ sym (found.3.1 change) in
    subst (λ (x : Change). Fits x c.in_ok-doc.doc) is (c.in_ok-changes.ensures at change inside)
