use Rattle.std.proofs.Common.{drop, ◌∙◌}
use Rattle.ep_cs.specs.Draft.{keeping, dropping, inserting}
use Rattle.ep_cs.specs.declared.op.Kind.TheVariants as kind
use Rattle.ep_compose.proofs.Heads.{IsNew, moved, new_head, first_some, kept_lines, dropped_lines, kept_into_rest, inserted_into_rest, room_for_rest}
use Rattle.ep_cursor.proofs.Lefts.{first_is}
use Rattle.ep_compose.proofs.Moves.{kept_then_rest, inserted_then_rest, first_drops}
use Rattle.ep_compose.proofs.step.keep_rest.Goals as goal
use Rattle.ep_compose.proofs.step.keep_rest.Goals.{in-Keep+in_ok-keep-in-Keep, in-Drop+in_ok-drop_units-in-Drop, in-Insert+in_ok-insert-in-Insert}

-- src/step.rt:40:13
pub keep-requires-clause-lined : goal.keep-requires-clause-lined
keep-requires-clause-lined c = kept_lines c.args.out.now c.args.a.now c.args.b.now c.args.head.now c.requires.head c.in-Keep.is c.requires.go

-- src/step.rt:41:13
pub skip-requires : goal.skip-requires
skip-requires c = kept_into_rest c.args.out.now c.args.a.now c.args.b.now c.args.head.now c.requires.rest c.requires.head c.in-Keep.is c.requires.go

-- src/step.rt:43:23
pub drop_units-requires-clause-lined : goal.drop_units-requires-clause-lined
drop_units-requires-clause-lined c = dropped_lines c.args.out.now c.args.a.now c.args.b.now c.args.head.now c.requires.head c.in-Drop.is c.requires.go

-- src/step.rt:45:13
pub insert-requires : goal.insert-requires
insert-requires c = room_for_rest c.args.out.now c.args.a.now c.args.b.now c.args.head.now c.requires.rest (new_head c.args.head.now c.args.a.now c.requires.head c.in-Insert.is c.requires.written) c.requires.go

-- src/step.rt:46:13
pub skip-requires-in-Insert : goal.skip-requires-in-Insert
skip-requires-in-Insert c = inserted_into_rest c.args.out.now c.args.a.now c.args.b.now c.args.head.now c.requires.rest (new_head c.args.head.now c.args.a.now c.requires.head c.in-Insert.is c.requires.written) c.requires.go

-- src/step.rt:27:1
pub returns : goal.returns
returns c =
    let out = c.args.out.now in
    let a = c.args.a.now in
    let b = c.args.b.now in
    let h = c.args.head.now in
    let some = first_some out a b h c.requires.head c.requires.go in
    elim c.match-head.branch [
      | in-Keep+in_ok-keep-in-Keep w ↦
          moved out (keeping out h.units h.lines h.attrs.now) c.match-head.out a _ c.advance.new.self b _ c.match-head.b (w.out-is ∙ w.in_ok-keep-in-Keep.ensures.ok) c.advance.ensures (w.b-is ∙ w.skip.ensures)
          (kept_then_rest out a b h.units h.lines h.attrs.now (drop 1 a.ops) (first_is h a kind.Keep c.requires.head w.in-Keep.is) c.requires.rest some c.requires.go)
      | in-Drop+in_ok-drop_units-in-Drop w ↦
          moved out (dropping out h.units h.lines) c.match-head.out a _ c.advance.new.self b _ c.match-head.b (w.out-is ∙ w.in_ok-drop_units-in-Drop.ensures.ok) c.advance.ensures w.b-is
          (first_drops out a b h.units h.lines h.attrs.now (drop 1 a.ops) (first_is h a kind.Drop c.requires.head w.in-Drop.is) some c.requires.go)
      | in-Insert+in_ok-insert-in-Insert w ↦
          let n : IsNew h a = new_head h a c.requires.head w.in-Insert.is c.requires.written in
          moved out (inserting out h.text.now h.attrs.now) c.match-head.out a _ c.advance.new.self b _ c.match-head.b (w.out-is ∙ w.in_ok-insert-in-Insert.ensures.ok) c.advance.ensures (w.b-is ∙ w.skip-in-Insert.ensures)
          (inserted_then_rest out a b h.units h.lines h.attrs.now (drop 1 a.ops) h.text.now n.first c.requires.rest n.text n.long some n.bare c.requires.go)
    ]
