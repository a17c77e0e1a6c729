use Rattle.std.proofs.Common.{zero, suc, [], ◌∷◌, List, sym, subst, arith, rules}
use Rattle.std.proofs.lemmas.List.Elements.{All-append}
use Rattle.std.specs.List.{All}
use Rattle.ep_cs.specs.Fits.{Fits}
use Rattle.ep_cs.specs.Change.{Change}
use Rattle.ep_bench.proofs.work.fitting_edits.Goals as goal

one : (P : Change → Type 0) (x : Change) → P x → All P (x ∷ [])
one P x p zero d h = p
one P x p (suc k) d h = absurd (omega (arith, h))

pub loop-preserved : goal.loop-preserved
loop-preserved c =
    let P : Change → Type 0 = λ change. Fits change c.args.doc.now in
    let f : Fits c.in_ok-change.change c.args.doc.now = search rules in
    subst (λ (cs : List Change). All P cs) (sym c.in_ok-push.ensures.items) (All-append P c.loop.changes.items (c.in_ok-change.change ∷ []) c.loop.invariant (one P c.in_ok-change.change f))
