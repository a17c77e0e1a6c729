use Rattle.std.proofs.Common.{arith}
use Rattle.ep_peer.specs.Writer.{Commit, Goes, Listening}
use Rattle.ep_peer.proofs.Parting.{done_nothing}
use Rattle.ep_peer.proofs.Receiving.{hears_commit, hears_news, hears_err}
use Rattle.ep_peer.proofs.hear.await_commit.Goals as goal

pub hears-init : goal.hears-init
hears-init g c = record { next = tt; finite = tt; done = λ n. done_nothing (g.L.Link.traffic c.args.link.now) (Goes (Listening (Commit n c.args.client.now))); later = omega arith }

pub returns-in-Ok-Commit-clause-done : goal.returns-in-Ok-Commit-clause-done
returns-in-Ok-Commit-clause-done g c n =
    let t = g.L.Link.traffic in
    let l = c.hears in
    let new = c.hear_next.new in
    hears_commit (t c.args.link.now) (t l.link) (t new.link) n c.args.client.now l.client new.client c.in-Ok-Commit.field-0 c.in-Ok-Commit.field-0-is (l.invariant.done n) (c.in-Ok-Commit.ensures.done n)

pub returns-in-Err-clause-done : goal.returns-in-Err-clause-done
returns-in-Err-clause-done g c n =
    let t = g.L.Link.traffic in
    let l = c.hears in
    let new = c.hear_next.new in
    hears_err (t c.args.link.now) (t l.link) (t new.link) n c.args.client.now l.client new.client c.in-Err.bad (l.invariant.done n) (c.in-Err.ensures.done n)

pub hears-preserved : goal.hears-preserved
hears-preserved g c =
    let t = g.L.Link.traffic in
    let l = c.hears in
    let new = c.hear_next.new in
    record {
      next = tt;
      finite = tt;
      done = λ n. hears_news (t c.args.link.now) (t l.link) (t new.link) n c.args.client.now l.client new.client c.in-Ok-News.field-0 c.in-Ok-News.field-0-is (l.invariant.done n) (c.in-Ok-News.ensures.done n);
      later = omega (arith, l.invariant.later, c.hear_next.ensures.later);
    }
