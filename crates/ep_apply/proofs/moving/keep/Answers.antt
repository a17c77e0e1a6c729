use Rattle.std.proofs.Common.{◌≡◌, ◌∙◌, ◌++◌, List, OnOk, take, sym, subst}
use Rattle.ep_cs.specs.Doc.{Cell}
use Rattle.ep_apply.proofs.Painted.{bare}
use Rattle.ep_apply.proofs.moving.keep.Goals as goal

pub returns-then-is_none-clause-done : goal.returns-then-is_none-clause-done
returns-then-is_none-clause-done c =
    let cs = take c.args.units c.args.rest.now in
    subst (λ (ds : List Cell). OnOk c.keep.result (c.keep.new.self ≡ c.args.out.now ++ ds)) (sym (bare c.args.attrs.now cs (sym c.is_none.ensures ∙ c.if-is_none.true))) c.keep.ensures.done
