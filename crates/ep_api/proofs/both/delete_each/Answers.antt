use Rattle.std.proofs.Common.{◌+◌, ◌<◌, drop, length, arith, Ok}
use Rattle.std.proofs.lemmas.List.{drop_all}
use Rattle.std.proofs.lemmas.Result.{err_from_is_err_and}
use Rattle.ep_api.proofs.Listed.{all_deleted, next_deleted, next_left, none_deleted}
use Rattle.ep_api.proofs.both.delete_each.Goals as goal

pub loop-id-init : goal.loop-id-init
loop-id-init g c = record { waits = c.requires.waits; stand = c.requires.stand; does = λ desk t r end does. does }

pub returns-in_err-delete_if_there-clause-visits : goal.returns-in_err-delete_if_there-clause-visits
returns-in_err-delete_if_there-clause-visits g c =
    let ids = c.args.ids.now in
    let i = c.loop-id.id-index in
    let below : i < length ids = omega arith in
    let p = err_from_is_err_and c.from_residual.result c.from_residual.ensures.1 in
    rw (p.1, p.2) (λ desk t. c.loop-id.invariant.does desk t _ _ (none_deleted _ _ _ _ (drop (i + 1) ids) c.id-item.result _ (next_left ids i c.id-item.result below c.id-item.is) (c.in_err-delete_if_there.ensures.visits desk t)))

pub loop-id-preserved : goal.loop-id-preserved
loop-id-preserved g c =
    let ids = c.args.ids.now in
    let i = c.loop-id.id-index in
    let below : i < length ids = omega arith in
    record {
      waits = c.in_ok-delete_if_there.ensures.waits;
      stand = c.in_ok-delete_if_there.ensures.stand;
      does = λ desk t r end rest. c.loop-id.invariant.does desk t r end (next_deleted _ _ _ _ _ (drop (i + 1) ids) c.id-item.result r (next_left ids i c.id-item.result below c.id-item.is) (c.in_ok-delete_if_there.ensures.visits desk t) rest);
    }

pub returns-clause-visits : goal.returns-clause-visits
returns-clause-visits g c = λ desk t. c.loop-id.invariant.does desk t (Ok tt) _ (all_deleted _ _ _ (drop_all c.loop-id.id-index c.args.ids.now (omega arith)))
