use Rattle.std.proofs.lemmas.Result.{on_ok_weaker}
use Rattle.ep_follow.proofs.Stretches.{kept_as_is}
use Rattle.ep_follow.proofs.stretch.write_rest.Goals as goal

pub returns-in_default : goal.returns-in_default
returns-in_default c =
    let q = c.args.later.now in
    on_ok_weaker c.keep.result (λ h. kept_as_is q.kind c.args.out.now c.keep.new.self q.units q.lines q.attrs.now c.in_default.not-Drop h) c.keep.ensures
