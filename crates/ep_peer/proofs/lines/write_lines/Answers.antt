use Rattle.std.proofs.Common.{arith, refl, subst}
use Rattle.std.specs.Prelude.{Ok}
use Rattle.ep_peer.specs.Cuts.{Nexts}
use Rattle.ep_peer.specs.Writer.{Goes, Reading}
use Rattle.ep_peer.proofs.Cutting.{at_end, ends_in, ends_short, ends_unread, ends_well, goes_far, so_far}
use Rattle.ep_peer.proofs.Parting.{err_is}
use Rattle.ep_peer.proofs.lines.write_lines.Goals as goal

pub lines-init : goal.lines-init
lines-init g c = record {
  so_far = so_far (g.L.Link.traffic c.args.link.now) (g.S.Source.left c.args.source.now) c.new-script.result c.args.client.now c.new-script.ensures.held c.new-script.ensures.place c.new-script.ensures.over;
  link_later = omega arith;
  source_later = omega arith;
}

pub returns-in_err-text-clause-writes : goal.returns-in_err-text-clause-writes
returns-in_err-text-clause-writes g c =
    let t = g.L.Link.traffic in
    let left = g.S.Source.left in
    let l = c.lines in
    ends_unread (t c.args.link.now) (t l.link) (t l.link) (left c.args.source.now) l.script c.next_line.new.script (left l.source) (left c.next_line.new.source) (Goes (Reading 0 c.args.client.now)) l.client l.line l.invariant.so_far
    c.in_err-text.field-0.0 c.from_residual.result _ c.in_err-text.ensures.next (err_is _ _ c.from_residual.ensures.1)

pub returns-in_default-clause-writes : goal.returns-in_default-clause-writes
returns-in_default-clause-writes g c =
    let t = g.L.Link.traffic in
    let left = g.S.Source.left in
    let l = c.lines in
    let new = c.next_line.new in
    ends_well (t c.args.link.now) (t l.link) (t l.link) (left c.args.source.now) l.script new.script (left l.source) (left new.source) (Goes (Reading 0 c.args.client.now)) l.client l.line l.invariant.so_far
    _ refl (subst (λ o. Nexts l.script new.script (left l.source) (left new.source) (Ok o)) c.in_default.is c.in_ok-text.ensures.next) (c.in_ok-text.ensures.over l.invariant.so_far.over)

pub returns-in_default-clause-read : goal.returns-in_default-clause-read
returns-in_default-clause-read g c =
    let left = g.S.Source.left in
    let l = c.lines in
    let new = c.next_line.new in
    at_end l.script new.script (left l.source) (left new.source) (subst (λ o. Nexts l.script new.script (left l.source) (left new.source) (Ok o)) c.in_default.is c.in_ok-text.ensures.next) (c.in_ok-text.ensures.over l.invariant.so_far.over)

pub returns-in_err-write_line-clause-writes : goal.returns-in_err-write_line-clause-writes
returns-in_err-write_line-clause-writes g c =
    let t = g.L.Link.traffic in
    let left = g.S.Source.left in
    let l = c.lines in
    let new = c.next_line.new in
    ends_in (t c.args.link.now) (t l.link) (t c.write_line.new.link) (left c.args.source.now) l.script new.script (left l.source) (left new.source) (Goes (Reading 0 c.args.client.now)) l.client l.line l.invariant.so_far
    c.in-Some.text c.in_err-write_line.field-0.0 (λ _. Goes (Reading l.line c.write_line.new.client)) c.from_residual-in_err-write_line.result _
    (subst (λ o. Nexts l.script new.script (left l.source) (left new.source) (Ok o)) c.in-Some.is c.in_ok-text.ensures.next) (c.in_ok-text.ensures.over l.invariant.so_far.over)
    c.in_err-write_line.ensures.done (err_is _ _ c.from_residual-in_err-write_line.ensures.1)

pub lines-preserved : goal.lines-preserved
lines-preserved g c =
    let t = g.L.Link.traffic in
    let left = g.S.Source.left in
    let l = c.lines in
    let new = c.next_line.new in
    record {
      so_far = goes_far (t c.args.link.now) (t l.link) (t c.write_line.new.link) (left c.args.source.now) l.script new.script (left l.source) (left new.source) (Goes (Reading 0 c.args.client.now)) l.client l.line l.invariant.so_far
          c.write_line.new.client c.in-Some.text (subst (λ o. Nexts l.script new.script (left l.source) (left new.source) (Ok o)) c.in-Some.is c.in_ok-text.ensures.next) (c.in_ok-text.ensures.over l.invariant.so_far.over)
          c.in_ok-write_line.ensures.done;
      link_later = omega (arith, l.invariant.link_later, c.write_line.ensures.later);
      source_later = omega (arith, l.invariant.source_later, c.next_line.ensures.later);
    }

pub returns-clause-writes : goal.returns-clause-writes
returns-clause-writes g c =
    let t = g.L.Link.traffic in
    let left = g.S.Source.left in
    let l = c.lines in
    ends_short (t c.args.link.now) (t l.link) (t l.link) (left c.args.source.now) l.script l.script (left l.source) (left l.source) (Goes (Reading 0 c.args.client.now)) l.client l.line l.invariant.so_far _ _ refl
