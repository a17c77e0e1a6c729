use Rattle.std.proofs.Common.{sym}
use Rattle.ep_serve.proofs.asked.carry_out.Goals as goal

pub returns-clause-tells : goal.returns-clause-tells
returns-clause-tells g c = record {
  now = c.now_ms.result;
  shown = c.now_ms.ensures;
  serves = rw (sym c.as_str.ensures) (rw (sym c.as_slice.ensures) c.in_ok-answered.ensures.serves);
  hall = c.in_ok-answered.ensures.hall;
  desk = c.in_ok-answered.ensures.desk;
  pads = c.in_ok-answered.ensures.pads;
}
