use Rattle.ep_dir_records.proofs.Chains.{reads_as, reads_still, reads_stop, reads_then}
use Rattle.ep_groups.proofs.Members.{member_cons, member_end}
use Rattle.ep_groups.specs.Policy.{member, member_or}
use Rattle.ep_outside.specs.declared.keeper.Pair.{Pair}
use Rattle.std.proofs.Common.{arith}
use Rattle.std.proofs.lemmas.Result.{err_from_is_err_and}
use Rattle.std.specs.Prelude.{List, None, Ok, Some, drop, ◌+◌}
use Rattle.ep_groups.proofs.grants.member.Goals as goal

pub returns-in_err-info : goal.returns-in_err-info
returns-in_err-info g c =
    let ids = c.args.sessions.now in
    let i = c.loop-at.at in
    let p = err_from_is_err_and c.from_residual.result c.from_residual.ensures.1 in
    rw (p.1, p.2) (c.loop-at.invariant.1 _ _ (reads_as (member c.args.group.now c.args.now (drop i ids)) (member_cons c.args.group.now c.args.now ids i c.index-sessions-at.result c.loop-at-test.true c.index-sessions-at.is)
    (reads_stop (λ x (m : List Pair). member_or c.args.group.now c.args.now x (member c.args.group.now c.args.now (drop (i + 1) ids) m)) c.in_err-info.ensures)))

pub returns-in-Some : goal.returns-in-Some
returns-in-Some g c =
    let ids = c.args.sessions.now in
    let i = c.loop-at.at in
    c.loop-at.invariant.1 _ _ (reads_as (member c.args.group.now c.args.now (drop i ids)) (member_cons c.args.group.now c.args.now ids i c.index-sessions-at.result c.loop-at-test.true c.index-sessions-at.is)
    (reads_then (λ x (m : List Pair). member_or c.args.group.now c.args.now x (member c.args.group.now c.args.now (drop (i + 1) ids) m)) c.in_ok-info.ensures
    (reads_still (λ (m : List Pair). member_or c.args.group.now c.args.now c.in_ok-info.info (member c.args.group.now c.args.now (drop (i + 1) ids) m)) (Ok (Some c.in-Some.author)) tt (λ m. c.in-Some.ensures (member c.args.group.now c.args.now (drop (i + 1) ids) m)))))

pub loop-at-preserved : goal.loop-at-preserved
loop-at-preserved g c =
    let ids = c.args.sessions.now in
    let i = c.loop-at.at in (
      omega (arith, c.loop-at-test.true),
      λ now r a. c.loop-at.invariant.1 now r (reads_as (member c.args.group.now c.args.now (drop i ids)) (member_cons c.args.group.now c.args.now ids i c.index-sessions-at.result c.loop-at-test.true c.index-sessions-at.is)
          (reads_then (λ x (m : List Pair). member_or c.args.group.now c.args.now x (member c.args.group.now c.args.now (drop (i + 1) ids) m)) c.in_ok-info.ensures
          (reads_as (λ (m : List Pair). member_or c.args.group.now c.args.now c.in_ok-info.info (member c.args.group.now c.args.now (drop (i + 1) ids) m)) (λ m. c.in_default.ensures (member c.args.group.now c.args.now (drop (i + 1) ids) m)) a))),
    )

pub returns : goal.returns
returns g c = c.loop-at.invariant.1 _ _ (reads_still (member c.args.group.now c.args.now (drop c.loop-at.at c.args.sessions.now)) (Ok None) tt (member_end c.args.group.now c.args.now c.args.sessions.now c.loop-at.at c.loop-at-test.false))
