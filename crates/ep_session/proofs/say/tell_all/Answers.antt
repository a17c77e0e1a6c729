use Rattle.std.proofs.Common.{◌∙◌, List, ap, sym, subst, refl, drop, length, [], ◌∷◌, ◌++◌, arith}
use Rattle.std.specs.Prelude.{Ok}
use Rattle.ep_history.specs.declared.rev.Rev.{Rev}
use Rattle.ep_session.specs.Session.{Duty, Tell, news_due, counted}
use Rattle.ep_session.specs.declared.place.Place.{Place}
use Rattle.ep_session.proofs.Running.{Sending, link_ended, err_is}
use Rattle.ep_session.proofs.Telling.{nothing_sent, nops_on, rev_on, last_on, news_as, no_length}
use Rattle.ep_session.proofs.say.tell_all.Goals as goal

pub loop-rev-init : goal.loop-rev-init
loop-rev-init g c =
    let at = c.args.place.now in
    record {
      done = nothing_sent (g.L.Link.traffic c.args.link.now) at (news_due at.rev c.args.revs.items c.args.nops.now) (news_due at.rev c.into_iter-rev-iterator.result.rest.items c.args.nops.now)
          (ap (λ (l : List Rev). news_due at.rev l c.args.nops.now) c.into_iter-rev-iterator.ensures.into_iter_gives.0);
      later = omega arith;
    }

pub returns-in_err-tell_nops-clause-done : goal.returns-in_err-tell_nops-clause-done
returns-in_err-tell_nops-clause-done g c =
    let l = c.loop-rev in
    let n = c.tell_nops.new in
    let t = g.L.Link.traffic in
    let at = c.args.place.now in
    let due = news_due at.rev c.args.revs.items c.args.nops.now in
    let revs = c.next.new.self.rest.items in
    let rev = c.in-Some.rev in
    let k = c.due_at-count.result in
    link_ended (t c.args.link.now) (t n.link) at n.place due c.tell_nops.result (λ _. [] ++ Tell rev ∷ news_due (counted l.place.rev 1) revs (drop k l.rest.now)) c.from_residual.result (λ _. []) c.in_err-tell_nops.field-0.0
    c.in_err-tell_nops.was (err_is _ _ c.from_residual.ensures.1)
    (nops_on (t c.args.link.now) (t l.link) (t n.link) at l.place n.place due rev revs l.rest.now k c.tell_nops.result c.due_at-count.ensures.due
    (subst (λ (revs : List Rev). Sending (t c.args.link.now) (t l.link) at l.place due (news_due l.place.rev revs l.rest.now)) c.in-Some.ensures.steps.0 l.invariant.done) c.tell_nops.ensures.done)

pub returns-in_err-tell-clause-done : goal.returns-in_err-tell-clause-done
returns-in_err-tell-clause-done g c =
    let l = c.loop-rev in
    let m = c.tell_nops.new in
    let n = c.tell.new in
    let t = g.L.Link.traffic in
    let at = c.args.place.now in
    let due = news_due at.rev c.args.revs.items c.args.nops.now in
    let revs = c.next.new.self.rest.items in
    let rev = c.in-Some.rev in
    let k = c.due_at-count.result in
    let left = news_due (counted l.place.rev 1) revs (drop k l.rest.now) in
    link_ended (t c.args.link.now) (t n.link) at n.place due c.tell.result (λ _. [] ++ left) c.from_residual-in_err-tell.result (λ _. []) c.in_err-tell.field-0.0
    c.in_err-tell.was (err_is _ _ c.from_residual-in_err-tell.ensures.1)
    (rev_on (t c.args.link.now) (t m.link) (t n.link) at m.place n.place due rev left c.tell.result
    (nops_on (t c.args.link.now) (t l.link) (t m.link) at l.place m.place due rev revs l.rest.now k (Ok c.in_ok-tell_nops.field-0) c.due_at-count.ensures.due
    (subst (λ (revs : List Rev). Sending (t c.args.link.now) (t l.link) at l.place due (news_due l.place.rev revs l.rest.now)) c.in-Some.ensures.steps.0 l.invariant.done) c.in_ok-tell_nops.ensures.done)
    c.tell.ensures.sent c.tell.ensures.ok c.tell.ensures.err)

pub loop-rev-preserved : goal.loop-rev-preserved
loop-rev-preserved g c =
    let l = c.loop-rev in
    let m = c.tell_nops.new in
    let n = c.tell.new in
    let i = c.in_ok-tell in
    let t = g.L.Link.traffic in
    let at = c.args.place.now in
    let due = news_due at.rev c.args.revs.items c.args.nops.now in
    let revs = c.next.new.self.rest.items in
    let rev = c.in-Some.rev in
    let k = c.due_at-count.result in
    let left = news_due (counted l.place.rev 1) revs (drop k l.rest.now) in
    record {
      done = subst (λ (left : List Duty). Sending (t c.args.link.now) (t n.link) at n.place due left)
          (news_as (counted l.place.rev 1) n.place.rev revs (drop k l.rest.now) c.split_at.result.1.now (sym (ap (λ (p : Place). p.rev) i.ensures.ok ∙ ap (λ n. counted n 1) c.tell_nops.ensures.rev)) (sym c.split_at.ensures.back))
          (rev_on (t c.args.link.now) (t m.link) (t n.link) at m.place n.place due rev left (Ok i.field-0)
          (nops_on (t c.args.link.now) (t l.link) (t m.link) at l.place m.place due rev revs l.rest.now k (Ok c.in_ok-tell_nops.field-0) c.due_at-count.ensures.due
          (subst (λ (revs : List Rev). Sending (t c.args.link.now) (t l.link) at l.place due (news_due l.place.rev revs l.rest.now)) c.in-Some.ensures.steps.0 l.invariant.done) c.in_ok-tell_nops.ensures.done)
          i.ensures.sent i.ensures.ok i.ensures.err);
      later = omega (arith, l.invariant.later, c.tell_nops.ensures.later, c.tell.ensures.later);
    }

pub returns-clause-done : goal.returns-clause-done
returns-clause-done g c =
    let l = c.loop-rev in
    let n = c.tell_nops-2.new in
    let t = g.L.Link.traffic in
    let at = c.args.place.now in
    last_on (t c.args.link.now) (t l.link) (t n.link) at l.place n.place (news_due at.rev c.args.revs.items c.args.nops.now) l.rev-iterator.rest.items l.rest.now (length l.rest.now) c.tell_nops-2.result
    (no_length l.rev-iterator.rest.items (sym l.rev-iterator.rest.ok.0 ∙ c.in-None.ensures.steps.0)) refl l.invariant.done c.tell_nops-2.ensures.done
