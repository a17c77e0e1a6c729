use Rattle.std.proofs.Common.{◌∙◌, refl, ap}
use Rattle.ep_cs.specs.Draft.{Draft, inserting}
use Rattle.ep_cursor.specs.Left.{steps_left}
use Rattle.ep_follow.specs.declared.writer.Writer.{Writer}
use Rattle.ep_follow.specs.Writing.{said}
use Rattle.ep_follow.proofs.Fronts.{inserts_first}
use Rattle.ep_follow.proofs.Steps.{insert_moves}
use Rattle.ep_follow.proofs.Going.{new_cells, insert_goes, insert_room, insert_steps, inserted_steps}
use Rattle.ep_follow.proofs.Writers.{has_place, said_settled, settled_goes}
use Rattle.ep_follow.proofs.gap.insert_run.Goals as goal

pub insert-requires-clause-room : goal.insert-requires-clause-room
insert-requires-clause-room c = has_place c.requires.go.1 c.args.out.now c.requires.go.0 c.args.b.now c.requires.go.2

pub insert-requires-clause-short : goal.insert-requires-clause-short
insert-requires-clause-short c =
    let h = c.in-Some.head in
    insert_room c.requires.go.1 (said c.args.out.now) c.requires.go.0 c.args.b.now h c.requires.go.2.way c.in-Some.ensures.head (inserts_first h c.args.b.now c.in-Some.ensures.head c.requires.inserts)

pub returns-clause-moves : goal.returns-clause-moves
returns-clause-moves c =
    let h = c.in-Some.head in
    let w = c.args.out.now in
    let is = inserts_first h c.args.b.now c.in-Some.ensures.head c.requires.inserts in
    insert_moves (said w).steps (said c.insert.new.self).steps (steps_left c.args.b.now) (steps_left c.advance.new.self) (new_cells h c.args.b.now)
    (ap (λ (w : Writer). (said w).steps) c.in_ok-insert.ensures ∙ ap (λ (d : Draft). d.steps) (said_settled (inserting (said w) h.text.now h.attrs.now))
    ∙ inserted_steps (said w) h c.args.b.now c.in-Some.ensures.head is c.in-Some.ensures.written)
    (insert_steps h c.args.b.now c.advance.new.self (record { head = c.in-Some.ensures.head; kind = is; is = c.advance.ensures }))

pub returns-clause-go : goal.returns-clause-go
returns-clause-go c = λ a made g.
    let h = c.in-Some.head in
    let d : Draft = inserting (said c.args.out.now) h.text.now h.attrs.now in
    let is = inserts_first h c.args.b.now c.in-Some.ensures.head c.requires.inserts in
    settled_goes made d c.insert.new.self a c.advance.new.self c.in_ok-insert.ensures
    (insert_goes made (said c.args.out.now) d a c.args.b.now c.advance.new.self h (record { head = c.in-Some.ensures.head; kind = is; is = c.advance.ensures }) refl g.way)
