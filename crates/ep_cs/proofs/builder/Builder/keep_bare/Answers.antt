use Rattle.std.proofs.Common.{◌∙◌, ◌++◌, ◌∷◌, [], List, ap, refl, sym, arith, append-nil}
use Rattle.ep_attr.specs.AttrMap.{AttrMap, none}
use Rattle.ep_cs.specs.declared.op.Kind.TheVariants as kind
use Rattle.ep_cs.specs.declared.op.Op.{Op}
use Rattle.ep_cs.specs.declared.builder.Builder.TheInside as builder
use Rattle.ep_cs.specs.Draft.{Draft, keeping}
use Rattle.ep_cs.proofs.Drafts.{is_begun, begun_more, room_left, new_kept}
use Rattle.ep_cs.proofs.Longer.{is_begun_longer, begun_longer}
use Rattle.ep_cs.proofs.builder.Builder.keep_bare.Goals as goal

pub go_on_bare-requires : goal.go_on_bare-requires
go_on_bare-requires c =
    let left = room_left c.self.inside c.args.self.now c.args.units c.self.view_is c.requires.inside in
    record { room = omega (arith, left.places, c.self.invariant.old) }

-- ---- the last run goes on

pub invariant_of-self : goal.invariant_of-self
invariant_of-self c =
    let b = c.self.inside in
    let left = room_left b c.args.self.now c.args.units c.self.view_is c.requires.inside in
    is_begun_longer b _ c.args.units c.args.lines none c.self.invariant
    (record { old = refl; new = refl; bank = refl; ops = c.go_on_bare.ensures.longer c.if-go_on_bare.true; some = omega (arith, c.if-units-eq0.false) }) c.requires.lined left.places

pub returns-then-go_on_bare-clause-ok : goal.returns-then-go_on_bare-clause-ok
returns-then-go_on_bare-clause-ok c =
    let b = c.self.inside in
    let next : builder.Inside = record { alloc = b.alloc; old_len = b.old_len; new_len = b.new_len; ops = c.go_on_bare.new.ops; bank = b.bank } in
    begun_longer b next c.args.units c.args.lines none c.self.invariant
    (record { old = refl; new = refl; bank = refl; ops = c.go_on_bare.ensures.longer c.if-go_on_bare.true; some = omega (arith, c.if-units-eq0.false) })
    ∙ ap (λ (d : Draft). keeping d c.args.units c.args.lines none) c.self.view_is

-- ---- a run more

pub invariant_of-self-2 : goal.invariant_of-self-2
invariant_of-self-2 c =
    let b = c.self.inside in
    let op : Op = record { kind = kind.Keep; units = c.args.units; lines = c.args.lines; attrs = c.none.result } in
    let left = room_left b c.args.self.now c.args.units c.self.view_is c.requires.inside in
    let ops = c.push_reserved.ensures.items ∙ ap (λ (os : List Op). os ++ op ∷ []) (c.in_ok-reserve.ensures.items ∙ c.go_on_bare.ensures.same c.if-go_on_bare.false) in
    is_begun b _ op [] c.self.invariant (record { old = refl; ops = ops; bank = sym (append-nil b.bank); width = refl; is = omega (arith, c.if-units-eq0.false); lined = c.requires.lined }) left.places (new_kept b c.args.units c.none.result c.self.invariant) c.self.invariant.few

pub returns-clause-ok : goal.returns-clause-ok
returns-clause-ok c =
    let b = c.self.inside in
    let op : Op = record { kind = kind.Keep; units = c.args.units; lines = c.args.lines; attrs = c.none.result } in
    let ops = c.push_reserved.ensures.items ∙ ap (λ (os : List Op). os ++ op ∷ []) (c.in_ok-reserve.ensures.items ∙ c.go_on_bare.ensures.same c.if-go_on_bare.false) in
    begun_more b (record { alloc = b.alloc; old_len = b.old_len; new_len = b.new_len; ops = c.push_reserved.new.self; bank = b.bank }) op [] c.self.invariant (record { old = refl; ops = ops; bank = sym (append-nil b.bank); width = refl; is = omega (arith, c.if-units-eq0.false); lined = c.requires.lined })
    ∙ ap (λ (d : Draft). keeping d c.args.units c.args.lines c.none.result) c.self.view_is
    ∙ ap (λ (m : AttrMap). keeping c.args.self.now c.args.units c.args.lines m) c.none.ensures
