use Rattle.std.proofs.Common.{◌-◌, ◌∙◌, [], ap, refl, sym, arith, append-nil}
use Rattle.ep_cs.specs.declared.op.Kind.TheVariants as kind
use Rattle.ep_cs.specs.declared.op.Op.{Op}
use Rattle.ep_cs.specs.Draft.{Draft, dropping}
use Rattle.ep_cs.proofs.Drafts.{is_begun, begun_more, room_left, new_dropped, dropped_room}
use Rattle.ep_cs.proofs.builder.Builder.drop_units.Goals as goal

pub overflow_sub-self : goal.overflow_sub-self
overflow_sub-self c = dropped_room c.self.inside c.args.units c.self.invariant (room_left c.self.inside c.args.self.now c.args.units c.self.view_is c.requires.inside)

pub invariant_of-self-then-units-gt0 : goal.invariant_of-self-then-units-gt0
invariant_of-self-then-units-gt0 c =
    let b = c.self.inside in
    let op : Op = record { kind = kind.Drop; units = c.args.units; lines = c.args.lines; attrs = c.none.result } in
    let left = room_left b c.args.self.now c.args.units c.self.view_is c.requires.inside in
    is_begun b _ op [] c.self.invariant (record { old = refl; ops = c.in_ok-push.ensures.items; bank = sym (append-nil b.bank); width = refl; is = (omega (arith, c.if-units-gt0.true), c.none.ensures); lined = c.requires.lined }) left.places (new_dropped b c.args.units c.self.invariant left) c.self.invariant.few

pub returns-in_ok-push-clause-ok : goal.returns-in_ok-push-clause-ok
returns-in_ok-push-clause-ok c =
    let b = c.self.inside in
    let op : Op = record { kind = kind.Drop; units = c.args.units; lines = c.args.lines; attrs = c.none.result } in
    begun_more b (record { alloc = b.alloc; old_len = b.old_len; new_len = b.new_len - c.args.units; ops = c.push.new.self; bank = b.bank }) op [] c.self.invariant (record { old = refl; ops = c.in_ok-push.ensures.items; bank = sym (append-nil b.bank); width = refl; is = (omega (arith, c.if-units-gt0.true), c.none.ensures); lined = c.requires.lined })
    ∙ ap (λ (d : Draft). dropping d c.args.units c.args.lines) c.self.view_is
