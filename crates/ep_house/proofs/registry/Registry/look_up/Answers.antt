use Rattle.std.proofs.Common.{◌∙◌, All, ap, subst, sym, refl, arith}
use Rattle.std.specs.Prelude.{IfOk}
use Rattle.ep_cell.specs.Passes.{first_of}
use Rattle.ep_house.specs.Register.{found_in}
use Rattle.ep_house.specs.Named.{IsWithin, cells_of}
use Rattle.ep_house.proofs.Finding.{length-cells}
use Rattle.ep_house.proofs.registry.Registry.look_up.Goals as goal
use Rattle.ep_house.proofs.registry.Registry.look_up.Goals.{in-Ok, in-Err}

pub returns-in-Some-clause-within : goal.returns-in-Some-clause-within
returns-in-Some-clause-within g c =
    let all = subst (All (λ n. IsWithin g.P.PadOver.limits_of c.args.self.now.limits n.cell)) (sym c.deref.ensures.value) c.args.self.now.cells_within in
    let found = c.in-Some.ensures.within g.P.PadOver.limits_of c.args.self.now.limits all in
    elim c.match-try_clone.branch [
      | in-Ok w ↦ subst (λ r. IfOk r (IsWithin g.P.PadOver.limits_of c.args.self.now.limits)) (sym w.result-is) (ap (λ t. g.P.PadOver.limits_of (first_of t)) w.in-Ok.ensures ∙ found)
      | in-Err w ↦ subst (λ r. IfOk r (IsWithin g.P.PadOver.limits_of c.args.self.now.limits)) (sym w.result-is) tt
    ]

pub returns-then-count-self-clause-step : goal.returns-then-count-self-clause-step
returns-then-count-self-clause-step g c =
    let n = length-cells c.args.self.now.cells.items in
    (refl, ap (λ l. found_in (cells_of l) c.args.name) (sym c.deref.ensures.value) ∙ c.in_default.ensures.found, omega (arith, n, c.len-count.ensures, c.args.self.now.cells.ok), omega (arith, c.len-count.ensures, c.if-count-self.true, c.args.self.now.within))

pub open_new-requires : goal.open_new-requires
open_new-requires g c =
    let n = length-cells c.args.self.now.cells.items in
    record {
      shut = ap (λ l. found_in (cells_of l) c.args.name) (sym c.deref.ensures.value) ∙ c.in_default.ensures.found;
      room = omega (arith, n, c.len-count.ensures, c.args.self.now.cells.ok, c.if-count-self.false);
    }
