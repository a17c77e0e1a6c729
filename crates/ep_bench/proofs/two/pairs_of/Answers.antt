use Rattle.std.proofs.Common.{zero, suc, [], ◌∷◌, List, sym, subst, arith}
use Rattle.std.proofs.lemmas.List.Elements.{All-append}
use Rattle.std.specs.List.{All}
use Rattle.ep_cs.specs.Doc.{Doc}
use Rattle.ep_cs.specs.Edit.{apply}
use Rattle.ep_cs.specs.Fits.{Fits}
use Rattle.ep_bench.specs.declared.two.Chained.{Chained}
use Rattle.ep_bench.proofs.two.pairs_of.Goals as goal

one : (P : Chained → Type 0) (x : Chained) → P x → All P (x ∷ [])
one P x p zero d h = p
one P x p (suc k) d h = absurd (omega (arith, h))

pub loop-preserved : goal.loop-preserved
loop-preserved c =
    let P : Chained → Type 0 = λ pair. Fits pair.first c.args.doc.now × Fits pair.second (apply pair.first.edit c.args.doc.now) in
    let pair : Chained = record { first = c.in_ok-first.first; second = c.in_ok-second.second } in
    let fits : P pair = (c.in_ok-first.ensures, subst (λ (d : Doc). Fits c.in_ok-second.second d) c.in_ok-after.ensures c.in_ok-second.ensures) in
    subst (λ (ps : List Chained). All P ps) (sym c.in_ok-push.ensures.items) (All-append P c.loop.pairs.items (pair ∷ []) c.loop.invariant (one P pair fits))
