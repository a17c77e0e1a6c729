use Rattle.std.proofs.Common.{sym}
use Rattle.ep_serve.proofs.work.Sitting.sit.Goals as goal

pub returns : goal.returns
returns g c = record {
  drawn = c.serve_session-report.ensures.served.0;
  draws = c.serve_session-report.ensures.served.1;
  served = rw (sym c.deref-2.ensures) c.serve_session-report.ensures.served.2;
  hall = c.serve_session-report.ensures.hall;
  desk = rw (sym c.deref.ensures) c.serve_session-report.ensures.desk;
  pass = c.serve_session-report.ensures.of;
}
