use Rattle.std.proofs.Common.{ℕ, ◌+◌, ◌<◌, ◌++◌, ◌∙◌, refl, ap, arith}
use Rattle.ep_cursor.specs.Left.{Left, advanced, steps_left}
use Rattle.ep_follow.specs.Gaps.{followed, fate_of, kept_of, followed_run}
use Rattle.ep_follow.specs.Writing.{said}
use Rattle.ep_follow.proofs.Writers.{has_room, run_steps_said}
use Rattle.ep_follow.proofs.Stretches.{IsPass, part_is, shorter_within, pass_steps, run_same, run_room, run_less, both_goes_said}
use Rattle.ep_cursor.proofs.Advances.{head_units}
use Rattle.ep_follow.proofs.stretch.both.Goals as goal

pub write-requires-clause-room : goal.write-requires-clause-room
write-requires-clause-room c =
    let h = c.args.head.now in
    let q = c.args.later.now in
    let k = c.shorter-part.result in
    let a : Left = advanced k.units k.lines c.args.a.now in
    let p : IsPass h c.args.a.now a k.units k.lines = record { head = c.requires.head; passes = c.requires.first; is = refl; within = (shorter_within k.units k.lines h.units h.lines q.units q.lines c.shorter-part.ensures).0 } in
    let g = c.requires.go.1 in
    let f = fate_of h.kind h.attrs.now in
    has_room c.requires.go.0 c.args.out.now c.args.a.now c.args.b.now (kept_of k.units f) g
    (run_room c.requires.go.0 (said c.args.out.now) c.args.a.now c.args.b.now a k.units f g.way (pass_steps h c.args.a.now a k.units k.lines p))

pub write-requires-clause-lined : goal.write-requires-clause-lined
write-requires-clause-lined c =
    let u = c.requires.go.1.way in
    (part_is u.text c.args.a.now c.args.b.now c.args.head.now c.args.later.now c.shorter-part.result.units c.shorter-part.result.lines c.shorter-part.ensures c.requires.head c.requires.later c.requires.first c.requires.second u.first u.second).lines

pub advance-requires-clause-lines : goal.advance-requires-clause-lines
advance-requires-clause-lines c =
    let u = c.requires.go.1.way in
    let p = part_is u.text c.args.a.now c.args.b.now c.args.head.now c.args.later.now c.shorter-part.result.units c.shorter-part.result.lines c.shorter-part.ensures c.requires.head c.requires.later c.requires.first c.requires.second u.first u.second in
    omega (arith, p.first_lines, (head_units c.args.head.now c.args.a.now c.requires.head).1)

pub advance-requires-2-clause-lines : goal.advance-requires-2-clause-lines
advance-requires-2-clause-lines c =
    let u = c.requires.go.1.way in
    let p = part_is u.text c.args.a.now c.args.b.now c.args.head.now c.args.later.now c.shorter-part.result.units c.shorter-part.result.lines c.shorter-part.ensures c.requires.head c.requires.later c.requires.first c.requires.second u.first u.second in
    omega (arith, p.second_lines, (head_units c.args.later.now c.args.b.now c.requires.later).1)

pub returns-clause-same : goal.returns-clause-same
returns-clause-same c = λ side.
    let h = c.args.head.now in
    let q = c.args.later.now in
    let k = c.shorter-part.result in
    let within = shorter_within k.units k.lines h.units h.lines q.units q.lines c.shorter-part.ensures in
    let f = fate_of h.kind h.attrs.now in
    let g = fate_of q.kind q.attrs.now in
    let w = c.args.out.now in
    ap (λ s. s ++ followed side (steps_left c.advance.new.self) (steps_left c.advance-2.new.self)) (run_steps_said w c.write.new.out k.units k.lines f g c.in_ok-write.ensures)
    ∙ run_same side k.units k.lines f g (said w) (followed_run (said w) k.units k.lines f g)
    (steps_left c.args.a.now) (steps_left c.advance.new.self) (steps_left c.args.b.now) (steps_left c.advance-2.new.self) refl
    (pass_steps h c.args.a.now c.advance.new.self k.units k.lines (record { head = c.requires.head; passes = c.requires.first; is = c.advance.ensures; within = within.0 }))
    (pass_steps q c.args.b.now c.advance-2.new.self k.units k.lines (record { head = c.requires.later; passes = c.requires.second; is = c.advance-2.ensures; within = within.1 }))

pub returns-clause-less : goal.returns-clause-less
returns-clause-less c =
    let h = c.args.head.now in
    let q = c.args.later.now in
    let k = c.shorter-part.result in
    let u = c.requires.go.1.way in
    let within = shorter_within k.units k.lines h.units h.lines q.units q.lines c.shorter-part.ensures in
    let p = part_is u.text c.args.a.now c.args.b.now h q k.units k.lines c.shorter-part.ensures c.requires.head c.requires.later c.requires.first c.requires.second u.first u.second in
    let a = run_less k.units (fate_of h.kind h.attrs.now) (steps_left c.args.a.now) (steps_left c.advance.new.self) p.some
    (pass_steps h c.args.a.now c.advance.new.self k.units k.lines (record { head = c.requires.head; passes = c.requires.first; is = c.advance.ensures; within = within.0 })) in
    let b = run_less k.units (fate_of q.kind q.attrs.now) (steps_left c.args.b.now) (steps_left c.advance-2.new.self) p.some
    (pass_steps q c.args.b.now c.advance-2.new.self k.units k.lines (record { head = c.requires.later; passes = c.requires.second; is = c.advance-2.ensures; within = within.1 })) in
    sum_less _ _ _ _ a b
  where
    sum_less : (x y z w : ℕ) → x < y → z < w → x + z < y + w
    sum_less x y z w h k = omega (arith, h, k)

pub returns-clause-go : goal.returns-clause-go
returns-clause-go c = λ made g.
    let h = c.args.head.now in
    let q = c.args.later.now in
    let k = c.shorter-part.result in
    let within = shorter_within k.units k.lines h.units h.lines q.units q.lines c.shorter-part.ensures in
    both_goes_said made c.args.out.now c.write.new.out c.args.a.now c.args.b.now c.advance.new.self c.advance-2.new.self h q k.units k.lines g.writer
    (record {
      going = g.way;
      first = record { head = c.requires.head; passes = c.requires.first; is = c.advance.ensures; within = within.0 };
      second = record { head = c.requires.later; passes = c.requires.second; is = c.advance-2.ensures; within = within.1 };
      shorter = c.shorter-part.ensures;
    }) c.in_ok-write.ensures
