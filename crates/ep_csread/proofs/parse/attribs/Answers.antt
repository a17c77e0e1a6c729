use Rattle.std.proofs.Common.{◌≡◌, ◌++◌, ◌∷◌, [], ◌∙◌, sym}
use Rattle.std.proofs.lemmas.Result.{err_from_is_err_and}
use Rattle.std.proofs.lemmas.List.{map_push}
use Rattle.ep_csread.specs.Syntax.{attrib_at, attribs_at, is_some_text as more}
use Rattle.ep_csread.proofs.Many.{goes_on, ends, is_done}
use Rattle.ep_csread.proofs.Shorter.{attrib_shortens}
use Rattle.ep_csread.specs.Views.{op_view, op_views}
use Rattle.ep_csread.proofs.parse.attribs.Goals as goal

pub returns-in_err-op : goal.returns-in_err-op
returns-in_err-op c =
    let p = err_from_is_err_and c.from_residual.result c.from_residual.ensures.1 in
    rw (p.1, p.2) (ends more attrib_at c.in_err-op.field-0.0 (op_views c.ops.ops.items) c.ops.rest.now (attribs_at c.args.text.now) (sym c.is_some_text.ensures ∙ c.ops-test.true) c.in_err-op.ensures c.ops.invariant)

pub ops-smaller : goal.ops-smaller
ops-smaller c = attrib_shortens.shorter c.ops.rest.now (op_view c.in_ok-op.op, c.in_ok-op.after.now) (sym c.is_some_text.ensures ∙ c.ops-test.true) c.in_ok-op.ensures

pub ops-preserved : goal.ops-preserved
ops-preserved c =
    let e : op_views c.push.new.self.items ≡ op_views c.ops.ops.items ++ op_view c.in_ok-op.op ∷ [] = rw c.in_ok-push.ensures.items (map_push _ c.ops.ops.items c.in_ok-op.op) in
    rw e (goes_on more attrib_at attrib_shortens (op_views c.ops.ops.items) c.ops.rest.now (op_view c.in_ok-op.op) c.in_ok-op.after.now (attribs_at c.args.text.now) (sym c.is_some_text.ensures ∙ c.ops-test.true) c.in_ok-op.ensures c.ops.invariant)

pub returns : goal.returns
returns c = is_done more attrib_at (op_views c.ops.ops.items) c.ops.rest.now (attribs_at c.args.text.now) (sym c.is_some_text.ensures ∙ c.ops-test.false) c.ops.invariant
