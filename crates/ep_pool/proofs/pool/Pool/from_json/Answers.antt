use Rattle.std.proofs.Common.{◌≡◌, ◌≤◌, suc, Some, is_some, codes, refl, sym, ap, arith}
use Rattle.serde_json.specs.Find.{get}
use Rattle.serde_json.specs.View.{view}
use Rattle.ep_pool.specs.Read.{entry_in, most_number, next_num}
use Rattle.ep_pool.proofs.Whole.{gathered_bad}
use Rattle.ep_pool.proofs.pool.Pool.from_json.Goals as goal

pub returns-in-None-clause-bad : goal.returns-in-None-clause-bad
returns-in-None-clause-bad c =
    let a = view c.in-Some-attribs_of.attribs.now in
    let at : get (codes "numToAttrib") (view c.args.value.now) ≡ Some a = c.in-Some-attribs_of.ensures.some.0 in
    let counted : next_num (view c.args.value.now) ≡ Some c.in-Some.next = sym c.in-Some.ensures.number in
    gathered_bad (view c.args.value.now) a c.in-Some.next at counted (c.in-Some.ensures.small) c.in-Some-attribs_of.ensures.some.1 (c.in-None.ensures.none refl) c.gather.result c.gather.ensures.bad
