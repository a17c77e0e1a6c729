use Rattle.std.proofs.Common.{◌≡◌, ◌≤◌, ◌-◌}
use Rattle.ep_session.specs.Session.{nops_due}
use Rattle.ep_session.proofs.Running.{Sending}
use Rattle.ep_session.proofs.say.tell_nops.Given as goal

abbrev pub invariant-loop-told : goal.invariant-loop-told
invariant-loop-told g l = record {
  done : Sending (g.L.Link.traffic l.initial.link) (g.L.Link.traffic l.link) l.initial.place l.place (nops_due l.count) (nops_due (l.count - l.told));
  rev : l.place.rev ≡ l.initial.place.rev;
  later : g.L.Device.failures l.initial.link ≤ g.L.Device.failures l.link;
}
