use Rattle.std.proofs.Common.{◌≤◌, [], ◌∷◌}
use Rattle.ep_dir_records.specs.declared.ids.Drawn.{Drawn}
use Rattle.ep_session.specs.Session.{Greet, nowhere}
use Rattle.ep_session.proofs.Running.{Sending}
use Rattle.ep_session.proofs.begin.greet.Given as goal

abbrev pub invariant-waits : goal.invariant-waits
invariant-waits g l = record {
  next : (goal.iterator-waits g).can_next l.iterator';
  finite : (goal.iterator-waits g).is_finite l.iterator';
  done : (drawn : Drawn) → Sending (g.L.Link.traffic l.initial.link) (g.L.Link.traffic l.link) nowhere nowhere (Greet drawn ∷ []) (Greet drawn ∷ []);
  later : g.L.Device.failures l.initial.link ≤ g.L.Device.failures l.link;
}
