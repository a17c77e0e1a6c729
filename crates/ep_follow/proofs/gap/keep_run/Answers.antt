use Rattle.std.proofs.Common.{◌∙◌, refl, ap, take, drop}
use Rattle.ep_attr.specs.AttrMap.{none}
use Rattle.ep_cs.specs.Draft.{keeping}
use Rattle.ep_cs.specs.Edit.{inserts}
use Rattle.ep_cs.specs.Steps.{passed}
use Rattle.ep_cursor.specs.Left.{steps_left}
use Rattle.ep_cursor.specs.Made.{text_made}
use Rattle.ep_follow.specs.declared.writer.Writer.{Writer}
use Rattle.ep_follow.specs.Writing.{said}
use Rattle.ep_follow.proofs.Fronts.{inserts_first}
use Rattle.ep_follow.proofs.Steps.{keep_moves}
use Rattle.ep_follow.proofs.Going.{new_cells, keep_room, insert_lines, keep_stretch, keep_goes, kept_steps, insert_steps}
use Rattle.ep_follow.proofs.Writers.{has_room, waiting_steps, waiting_goes}
use Rattle.ep_follow.proofs.gap.keep_run.Goals as goal

pub keep_bare-requires-clause-room : goal.keep_bare-requires-clause-room
keep_bare-requires-clause-room c =
    let g = c.requires.go.2 in
    has_room c.requires.go.1 c.args.out.now c.args.a.now c.requires.go.0 c.in-Some.head.units g
    (keep_room c.requires.go.1 (said c.args.out.now) c.args.a.now c.requires.go.0 c.in-Some.head g.way c.in-Some.ensures.head (inserts_first c.in-Some.head c.args.a.now c.in-Some.ensures.head c.requires.inserts))

pub keep_bare-requires-clause-lined : goal.keep_bare-requires-clause-lined
keep_bare-requires-clause-lined c =
    let u = c.requires.go.2.way in
    insert_lines c.in-Some.head c.args.a.now u.text c.in-Some.ensures.head (inserts_first c.in-Some.head c.args.a.now c.in-Some.ensures.head c.requires.inserts) u.first

pub returns-clause-moves : goal.returns-clause-moves
returns-clause-moves c =
    let h = c.in-Some.head in
    let w = c.args.out.now in
    let is = inserts_first h c.args.a.now c.in-Some.ensures.head c.requires.inserts in
    keep_moves (said w).steps (said c.keep_bare.new.self).steps (steps_left c.args.a.now) (steps_left c.advance.new.self) (new_cells h c.args.a.now)
    (ap (λ (w : Writer). (said w).steps) c.keep_bare.ensures ∙ waiting_steps w h.units h.lines
    ∙ kept_steps c.requires.go.1 (said w) c.args.a.now c.requires.go.0 h h.lines c.requires.go.2.way c.in-Some.ensures.head is)
    (insert_steps h c.args.a.now c.advance.new.self (record { head = c.in-Some.ensures.head; kind = is; is = c.advance.ensures }))

pub returns-clause-go : goal.returns-clause-go
returns-clause-go c = λ b made g.
    let h = c.in-Some.head in
    let w = c.args.out.now in
    let a = c.args.a.now in
    let is = inserts_first h a c.in-Some.ensures.head c.requires.inserts in
    waiting_goes made w c.keep_bare.new.self c.advance.new.self b (take h.units a.bank)
    (text_made (steps_left c.advance.new.self) (drop (passed (inserts (new_cells h a))) g.way.text)) h.units h.lines c.keep_bare.ensures g.writer
    (keep_stretch made (said w) a b c.advance.new.self h (record { head = c.in-Some.ensures.head; kind = is; is = c.advance.ensures }) g.way)
    (keep_goes made (said w) (keeping (said w) h.units h.lines none) a b c.advance.new.self h (record { head = c.in-Some.ensures.head; kind = is; is = c.advance.ensures }) refl g.way)
