use Rattle.std.proofs.Common.{◌≤◌}
use Rattle.ep_session.specs.Session.{news_due}
use Rattle.ep_session.proofs.Running.{Sending}
use Rattle.ep_session.proofs.say.tell_all.Given as goal

abbrev pub invariant-loop-rev : goal.invariant-loop-rev
invariant-loop-rev g l = record {
  done : Sending (g.L.Link.traffic l.initial.link) (g.L.Link.traffic l.link) l.initial.place l.place (news_due l.initial.place.rev l.fn.revs.items l.fn.nops) (news_due l.place.rev l.rev-iterator.rest.items l.rest);
  later : g.L.Device.failures l.initial.link ≤ g.L.Device.failures l.link;
}
