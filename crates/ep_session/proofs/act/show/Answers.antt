use Rattle.std.proofs.Common.{◌≡◌, ◌∙◌, List, ap, subst, length, arith}
use Rattle.ep_cs.specs.Change.{Change}
use Rattle.ep_wire_words.specs.declared.server.ServerMsg.TheVariants as msg
use Rattle.ep_slider.specs.Slides.{AreSlides}
use Rattle.ep_session.specs.Session.{counted}
use Rattle.ep_session.proofs.Running.{shows_part}
use Rattle.ep_session.proofs.act.show.Goals as goal

pub returns-clause-done : goal.returns-clause-done
returns-clause-done g c at =
    let a = c.args.asked in
    let t = g.L.Link.traffic in
    let s = c.args.steps.now in
    let fs = c.in-Ok.slides.forward.items in
    let bs = c.in-Ok.slides.backward.items in
    let reached : c.counted.result ≡ counted a.0 (length s.changes.items) = omega (arith, c.counted.ensures, c.len.ensures) in
    shows_part (t c.args.link.now) (t c.say.new.link) at a.0 a.1 a.2 s.doc s.changes.items fs bs (msg.Slid a.0 c.counted.result a.1 a.2 fs bs) c.say.result
    (ap (λ n. msg.Slid a.0 n a.1 a.2 fs bs) reached) (subst (λ (cs : List Change). AreSlides a.1 s.doc cs fs bs) c.deref.ensures.value c.in-Ok.ensures.slides) c.say.ensures.sent
