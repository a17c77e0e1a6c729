use Rattle.std.proofs.Common.{◌∙◌, ◌++◌, refl, ap, arith}
use Rattle.ep_attr.specs.AttrMap.{none}
use Rattle.ep_cs.specs.Edit.Fate.{Keep}
use Rattle.ep_cursor.specs.Left.{skipped, steps_left}
use Rattle.ep_follow.specs.Gaps.{followed, fate_of, followed_run}
use Rattle.ep_follow.specs.Writing.{said}
use Rattle.ep_follow.proofs.Stretches.{pass_steps, rest_steps, rest_room, rest_says, rest_goes_said, run_same, run_room}
use Rattle.ep_follow.proofs.Writers.{has_room, run_steps_said}
use Rattle.ep_follow.proofs.stretch.rest.Goals as goal

pub write_rest-requires-clause-room : goal.write_rest-requires-clause-room
write_rest-requires-clause-room c =
    let q = c.args.later.now in
    let g = c.requires.go.1 in
    let d = said c.args.out.now in
    has_room c.requires.go.0 c.args.out.now c.args.a.now c.args.b.now q.units g
    (run_room c.requires.go.0 d c.args.a.now c.args.b.now (skipped q.units c.args.a.now) q.units (Keep none) g.way
    (rest_steps c.args.a.now (skipped q.units c.args.a.now) q.units c.requires.first refl (rest_room c.requires.go.0 d c.args.a.now c.args.b.now q g.way c.requires.first c.requires.later c.requires.second)))

pub write_rest-requires-clause-lined : goal.write_rest-requires-clause-lined
write_rest-requires-clause-lined c = (rest_says c.requires.go.0 (said c.args.out.now) c.args.a.now c.args.b.now c.args.later.now c.requires.go.1.way c.requires.later c.requires.second).1

pub skip-requires : goal.skip-requires
skip-requires c = rest_room c.requires.go.0 (said c.args.out.now) c.args.a.now c.args.b.now c.args.later.now c.requires.go.1.way c.requires.first c.requires.later c.requires.second

pub returns-clause-same : goal.returns-clause-same
returns-clause-same c = λ side.
    let q = c.args.later.now in
    let g = fate_of q.kind q.attrs.now in
    let w = c.args.out.now in
    ap (λ s. s ++ followed side (steps_left c.skip.new.self) (steps_left c.advance.new.self)) (run_steps_said w c.write_rest.new.out q.units q.lines (Keep none) g c.in_ok-write_rest.ensures)
    ∙ run_same side q.units q.lines (Keep none) g (said w) (followed_run (said w) q.units q.lines (Keep none) g)
    (steps_left c.args.a.now) (steps_left c.skip.new.self) (steps_left c.args.b.now) (steps_left c.advance.new.self) refl
    (rest_steps c.args.a.now c.skip.new.self q.units c.requires.first c.skip.ensures (rest_room c.requires.go.0 (said w) c.args.a.now c.args.b.now q c.requires.go.1.way c.requires.first c.requires.later c.requires.second))
    (pass_steps q c.args.b.now c.advance.new.self q.units q.lines (record { head = c.requires.later; passes = c.requires.second; is = c.advance.ensures; within = omega arith }))

pub returns-clause-go : goal.returns-clause-go
returns-clause-go c = λ made g.
    let q = c.args.later.now in
    rest_goes_said made c.args.out.now c.write_rest.new.out c.args.a.now c.args.b.now c.skip.new.self c.advance.new.self q g.writer g.way c.requires.first c.skip.ensures
    (record { head = c.requires.later; passes = c.requires.second; is = c.advance.ensures; within = omega arith }) c.in_ok-write_rest.ensures
