use Rattle.std.proofs.Common.{◌≡◌, ◌∙◌, ℕ, ◌-◌, take, length-take-le, subst, arith}
use Rattle.std.proofs.lemmas.Result.{IfOk-weaker}
use Rattle.ep_cs.specs.Splice.{dropped}
use Rattle.ep_invert.specs.Writing.{GoesOn}
use Rattle.ep_invert.proofs.Writes.{lined_seen, dropped_room, seen_dropped}
use Rattle.ep_invert.proofs.writing.drop_next.Goals as goal

pub drop_units-requires-clause-lined : goal.drop_units-requires-clause-lined
drop_units-requires-clause-lined c = omega (arith, lined_seen c.pass-seen.result (take c.args.units c.args.rest.now) c.pass-seen.ensures.seen)

pub drop_units-requires-2-clause-inside : goal.drop_units-requires-2-clause-inside
drop_units-requires-2-clause-inside c =
    let s = c.pass-seen.result in
    let n : s.units ≡ c.args.units = c.pass-seen.ensures.seen.units ∙ length-take-le c.args.units c.args.rest.now c.requires.left in
    dropped_room c.args.out.now c.drop_units.new.self (s.units - s.tail) s.lines s.tail c.in_ok-drop_units.ensures.ok (omega (arith, n, c.requires.inside, c.pass-seen.ensures.seen.within))

pub returns-clause-written : goal.returns-clause-written
returns-clause-written c =
    let s = c.pass-seen.result in
    let text = take c.args.units c.args.rest.now in
    let n : s.units ≡ c.args.units = c.pass-seen.ensures.seen.units ∙ length-take-le c.args.units c.args.rest.now c.requires.left in
    IfOk-weaker c.drop_units-2.result _ _ (λ _ e. subst (λ (n : ℕ). GoesOn c.args.out.now c.drop_units-2.new.self (dropped n) text) n (seen_dropped c.args.out.now c.drop_units.new.self c.drop_units-2.new.self s text c.pass-seen.ensures.seen c.in_ok-drop_units.ensures.ok e)) c.drop_units-2.ensures.ok
