use Rattle.std.proofs.Common.{◌≡◌, Err, refl, subst, sym}
use Rattle.std.specs.Prelude.{IsErrOf}
use Rattle.ep_http.specs.declared.reply.SinkBad.TheVariants.{Failed}
use Rattle.ep_serve.proofs.asked.write.Goals as goal

pub returns-in-Err-Failed-clause-writes : goal.returns-in-Err-Failed-clause-writes
returns-in-Err-Failed-clause-writes g c = let is : c.write_reply.result ≡ Err Failed = cc in (rw (sym c.deref.ensures) (c.write_reply.ensures.part is), c.write_reply.ensures.cause.failed (subst (λ r. IsErrOf r Failed) (sym is) refl))
