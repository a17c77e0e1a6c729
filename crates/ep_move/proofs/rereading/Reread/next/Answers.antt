use Rattle.std.proofs.Common.{sym, subst}
use Rattle.ep_move.specs.Born.{IsBorn}
use Rattle.ep_move.specs.Reread.{IsLast, IsReread, MayFollow}
use Rattle.ep_history.specs.declared.record.Record.TheVariants as record_of
use Rattle.ep_move.proofs.Causes.{ok_then}
use Rattle.ep_move.proofs.Following.{create_next, delete_next, nop_next, open_next, public_next, rev_next}
use Rattle.ep_move.proofs.rereading.Reread.next.Goals as goal

pub returns-in-Open : goal.returns-in-Open
returns-in-Open c = λ p h.
    let x = c.in-Open in
    subst (λ r. MayFollow IsReread p r c.opened.new.self c.opened.result) (sym x.is)
    (open_next c.args.self.now c.opened.new.self p x.epoch c.opened.result h c.opened.ensures.goes c.opened.ensures.new)

pub returns-in-Create : goal.returns-in-Create
returns-in-Create c = λ p h.
    let x = c.in-Create in
    let new = c.created.new.self in
    ok_then c.created.result (IsBorn c.args.self.now new x.birth x.time x.text) (MayFollow IsReread p c.args.told new) c.created.ensures
    (λ b m. subst (λ r. MayFollow IsReread p r new b) (sym x.is) (create_next c.args.self.now new p x.birth x.time x.text b h m))

pub returns-in-Rev : goal.returns-in-Rev
returns-in-Rev c = λ p h.
    let x = c.in-Rev in
    let new = c.revised.new.self in
    ok_then c.revised.result (MayFollow IsLast p (record_of.Rev x.session x.time x.author x.fixed x.change) new.last) (MayFollow IsReread p c.args.told new)
    (c.revised.ensures.follows p h.last)
    (λ b m. subst (λ r. MayFollow IsReread p r new b) (sym x.is) (rev_next c.args.self.now new p x.session x.time x.author x.fixed x.change b h c.revised.ensures.stays m))

pub returns-in-Delete : goal.returns-in-Delete
returns-in-Delete c = λ p h.
    let x = c.in-Delete in
    subst (λ r. MayFollow IsReread p r c.deleted.new.self c.deleted.result) (sym x.is)
    (delete_next c.args.self.now c.deleted.new.self p x._time c.deleted.result h c.deleted.ensures.goes c.deleted.ensures.new)

pub returns-in-Public : goal.returns-in-Public
returns-in-Public c = λ p h.
    let x = c.in-Public in
    subst (λ r. MayFollow IsReread p r c.published.new.self c.published.result) (sym x.is)
    (public_next c.args.self.now c.published.new.self p x.on c.published.result h c.published.ensures.goes c.published.ensures.new)

pub returns-in-Nop : goal.returns-in-Nop
returns-in-Nop c = λ p h.
    let x = c.in-Nop in
    subst (λ r. MayFollow IsReread p r c.args.self.now c.is_there.result) (sym x.is)
    (nop_next c.args.self.now p x._session x._time c.is_there.result h c.is_there.ensures)
