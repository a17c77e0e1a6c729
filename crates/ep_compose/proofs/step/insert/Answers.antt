use Rattle.std.proofs.Common.{drop, refl}
use Rattle.ep_cs.specs.Draft.{inserting}
use Rattle.ep_compose.proofs.Heads.{IsNew, moved, new_head, room_for_second, second_some}
use Rattle.ep_compose.proofs.Moves.{second_inserts}
use Rattle.ep_compose.proofs.step.insert.Goals as goal

-- src/step.rt:24:5
pub insert-requires : goal.insert-requires
insert-requires c =
    room_for_second c.args.out.now c.requires.go.0 c.args.b.now c.args.later.now (new_head c.args.later.now c.args.b.now c.requires.head c.requires.kind c.requires.written) c.requires.go.1

-- src/step.rt:17:1
pub returns : goal.returns
returns c a go =
    let out = c.args.out.now in
    let b = c.args.b.now in
    let g = c.args.later.now in
    let n : IsNew g b = new_head g b c.requires.head c.requires.kind c.requires.written in
    moved out (inserting out g.text.now g.attrs.now) c.insert.new.self a a a b _ c.advance.new.self c.in_ok-insert.ensures.ok refl c.advance.ensures
    (second_inserts out a b g.units g.lines g.attrs.now (drop 1 b.ops) g.text.now n.first n.text n.long (second_some out a b g c.requires.head go) n.bare go)
