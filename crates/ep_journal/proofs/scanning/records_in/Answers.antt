use Rattle.std.proofs.Common.{◌∙◌, ◌++◌, map, drop, ap, List, ℕ}
use Rattle.ep_journal.specs.File.{records_from}
use Rattle.ep_journal.proofs.Gates.{one_more, no_more}
use Rattle.ep_journal.proofs.scanning.records_in.Goals as goal

pub loop-size-preserved : goal.loop-size-preserved
loop-size-preserved c =
    ap (λ vs. map (λ v. v.items) vs ++ records_from 0 c.split_at.result.1.now) c.in_ok-push.ensures.items
    ∙ one_more (λ v. v.items) c.loop-size.list.items c.in_ok-from_slice.field-0 c.loop-size.rest.now c.split_at-in-Some.result.1.now c.split_at.result.1.now (records_from 0 c.args.bytes.now) c.in-Some.size
    c.loop-size.invariant c.in-Some.ensures.size c.in_ok-from_slice.ensures.items
    (c.split_at-in-Some.ensures.back ∙ ap (λ (l : List ℕ). drop 5 l) c.split_at.ensures.front) c.split_at.ensures.back

pub returns : goal.returns
returns c = no_more (λ v. v.items) c.loop-size.list.items c.loop-size.rest.now (records_from 0 c.args.bytes.now) c.loop-size.invariant c.in_default.ensures.size
