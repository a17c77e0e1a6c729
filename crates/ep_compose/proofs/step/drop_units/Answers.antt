use Rattle.std.proofs.Common.{drop, refl}
use Rattle.ep_cs.specs.Draft.{dropping}
use Rattle.ep_cs.specs.declared.op.Kind.TheVariants as kind
use Rattle.ep_cursor.proofs.Lefts.{first_is}
use Rattle.ep_compose.proofs.Heads.{IsNew, moved, new_head, first_some, second_some, dropped_lines, later_lines, dropped_says, rest_is_dropped, kept_part, inserted_part}
use Rattle.ep_compose.proofs.Moves.{first_drops, rest_then_dropped}
use Rattle.ep_cursor.proofs.Parts.{some_shorter}
use Rattle.ep_compose.proofs.Boths.{kept_then_dropped, inserted_then_dropped}
use Rattle.ep_compose.proofs.step.drop_units.Goals as goal

-- src/step.rt:108:9
pub drop_units-requires-clause-inside : goal.drop_units-requires-clause-inside
drop_units-requires-clause-inside c = (rest_is_dropped c.args.out.now c.args.a.now c.args.b.now c.args.later.now c.in_default.ensures.head c.requires.head c.requires.kind c.requires.go).1

-- src/step.rt:108:9
pub drop_units-requires-clause-lined : goal.drop_units-requires-clause-lined
drop_units-requires-clause-lined c = later_lines c.args.out.now c.args.a.now c.args.b.now c.args.later.now (dropped_says c.args.b.now c.args.later.now c.requires.head c.requires.kind) c.requires.go

-- src/step.rt:109:9
pub skip-requires : goal.skip-requires
skip-requires c = (rest_is_dropped c.args.out.now c.args.a.now c.args.b.now c.args.later.now c.in_default.ensures.head c.requires.head c.requires.kind c.requires.go).0

-- src/step.rt:111:9
pub returns-in_default : goal.returns-in_default
returns-in_default c =
    let out = c.args.out.now in
    let b = c.args.b.now in
    let g = c.args.later.now in
    moved out (dropping out g.units g.lines) c.drop_units.new.self c.args.a.now _ c.skip.new.self b _ c.advance.new.self c.in_ok-drop_units.ensures.ok c.skip.ensures c.advance.ensures
    (rest_then_dropped out c.args.a.now b g.units g.lines g.attrs.now (drop 1 b.ops) c.in_default.ensures.head (first_is g b kind.Drop c.requires.head c.requires.kind) (second_some out c.args.a.now b g c.requires.head c.requires.go) c.requires.go)

-- src/step.rt:115:13
pub drop_units-requires-in-Drop-clause-lined : goal.drop_units-requires-in-Drop-clause-lined
drop_units-requires-in-Drop-clause-lined c = dropped_lines c.args.out.now c.args.a.now c.args.b.now c.in-Some.head c.in-Some.ensures.head c.in-Drop.is c.requires.go

-- src/step.rt:120:13
pub drop_units-requires-in-Keep-clause-lined : goal.drop_units-requires-in-Keep-clause-lined
drop_units-requires-in-Keep-clause-lined c =
    (kept_part c.args.out.now c.args.a.now c.args.b.now c.in-Some.head c.args.later.now c.shorter-part.result.units c.shorter-part.result.lines c.in-Some.ensures.head c.in-Keep.is c.requires.head
    (dropped_says c.args.b.now c.args.later.now c.requires.head c.requires.kind) c.shorter-part.ensures c.requires.go).lines

-- src/step.rt:121:13
pub advance-requires-in-Keep-clause-lines : goal.advance-requires-in-Keep-clause-lines
advance-requires-in-Keep-clause-lines c =
    (kept_part c.args.out.now c.args.a.now c.args.b.now c.in-Some.head c.args.later.now c.shorter-part.result.units c.shorter-part.result.lines c.in-Some.ensures.head c.in-Keep.is c.requires.head
    (dropped_says c.args.b.now c.args.later.now c.requires.head c.requires.kind) c.shorter-part.ensures c.requires.go).first

-- src/step.rt:122:13
pub advance-requires-in-Keep-2-clause-lines : goal.advance-requires-in-Keep-2-clause-lines
advance-requires-in-Keep-2-clause-lines c =
    (kept_part c.args.out.now c.args.a.now c.args.b.now c.in-Some.head c.args.later.now c.shorter-part.result.units c.shorter-part.result.lines c.in-Some.ensures.head c.in-Keep.is c.requires.head
    (dropped_says c.args.b.now c.args.later.now c.requires.head c.requires.kind) c.shorter-part.ensures c.requires.go).second

-- src/step.rt:126:13
pub advance-requires-in-Insert-clause-lines : goal.advance-requires-in-Insert-clause-lines
advance-requires-in-Insert-clause-lines c =
    (inserted_part c.args.out.now c.args.a.now c.args.b.now c.in-Some.head c.args.later.now c.shorter-part-in-Insert.result.units c.shorter-part-in-Insert.result.lines
    (new_head c.in-Some.head c.args.a.now c.in-Some.ensures.head c.in-Insert.is c.in-Some.ensures.written) c.requires.head
    (dropped_says c.args.b.now c.args.later.now c.requires.head c.requires.kind) c.shorter-part-in-Insert.ensures c.requires.go).first

-- src/step.rt:127:13
pub advance-requires-in-Insert-2-clause-lines : goal.advance-requires-in-Insert-2-clause-lines
advance-requires-in-Insert-2-clause-lines c =
    (inserted_part c.args.out.now c.args.a.now c.args.b.now c.in-Some.head c.args.later.now c.shorter-part-in-Insert.result.units c.shorter-part-in-Insert.result.lines
    (new_head c.in-Some.head c.args.a.now c.in-Some.ensures.head c.in-Insert.is c.in-Some.ensures.written) c.requires.head
    (dropped_says c.args.b.now c.args.later.now c.requires.head c.requires.kind) c.shorter-part-in-Insert.ensures c.requires.go).second

-- src/step.rt:96:1
pub returns-in_ok-drop_units-in-Drop : goal.returns-in_ok-drop_units-in-Drop
returns-in_ok-drop_units-in-Drop c =
    let out = c.args.out.now in
    let a = c.args.a.now in
    let b = c.args.b.now in
    let h = c.in-Some.head in
    moved out (dropping out h.units h.lines) c.drop_units-in-Drop.new.self a _ c.advance-in-Drop.new.self b b b c.in_ok-drop_units-in-Drop.ensures.ok c.advance-in-Drop.ensures refl
    (first_drops out a b h.units h.lines h.attrs.now (drop 1 a.ops) (first_is h a kind.Drop c.in-Some.ensures.head c.in-Drop.is) (first_some out a b h c.in-Some.ensures.head c.requires.go) c.requires.go)

-- src/step.rt:96:1
pub returns-in_ok-drop_units-in-Keep : goal.returns-in_ok-drop_units-in-Keep
returns-in_ok-drop_units-in-Keep c =
    let out = c.args.out.now in
    let a = c.args.a.now in
    let b = c.args.b.now in
    let h = c.in-Some.head in
    let g = c.args.later.now in
    let p = c.shorter-part.result in
    moved out (dropping out p.units p.lines) c.drop_units-in-Keep.new.self a _ c.advance-in-Keep.new.self b _ c.advance-in-Keep-2.new.self c.in_ok-drop_units-in-Keep.ensures.ok c.advance-in-Keep.ensures c.advance-in-Keep-2.ensures
    (kept_then_dropped out a b p.units p.lines h.units h.lines g.units g.lines h.attrs.now g.attrs.now (drop 1 a.ops) (drop 1 b.ops) (first_is h a kind.Keep c.in-Some.ensures.head c.in-Keep.is) (first_is g b kind.Drop c.requires.head c.requires.kind)
    c.shorter-part.ensures (some_shorter p.units p.lines h.units h.lines g.units g.lines c.shorter-part.ensures (first_some out a b h c.in-Some.ensures.head c.requires.go) (second_some out a b g c.requires.head c.requires.go)) c.requires.go)

-- src/step.rt:96:1
pub returns-in-Insert : goal.returns-in-Insert
returns-in-Insert c =
    let out = c.args.out.now in
    let a = c.args.a.now in
    let b = c.args.b.now in
    let h = c.in-Some.head in
    let g = c.args.later.now in
    let p = c.shorter-part-in-Insert.result in
    let n : IsNew h a = new_head h a c.in-Some.ensures.head c.in-Insert.is c.in-Some.ensures.written in
    moved out out out a _ c.advance-in-Insert.new.self b _ c.advance-in-Insert-2.new.self refl c.advance-in-Insert.ensures c.advance-in-Insert-2.ensures
    (inserted_then_dropped out a b p.units p.lines h.units h.lines g.units g.lines h.attrs.now g.attrs.now (drop 1 a.ops) (drop 1 b.ops) n.first (first_is g b kind.Drop c.requires.head c.requires.kind)
    c.shorter-part-in-Insert.ensures (some_shorter p.units p.lines h.units h.lines g.units g.lines c.shorter-part-in-Insert.ensures (first_some out a b h c.in-Some.ensures.head c.requires.go) (second_some out a b g c.requires.head c.requires.go)) n.full c.requires.go)
