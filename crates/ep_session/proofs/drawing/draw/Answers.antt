use Rattle.std.proofs.Common.{refl}
use Rattle.ep_session.proofs.drawing.draw.Goals as goal

pub returns : goal.returns
returns g c =
    let t = g.D.Draws.to_come in
    (t c.digit.new.draws, c.digit.ensures.drawn, (t c.digit-2.new.draws, c.digit-2.ensures.drawn, (t c.digit-3.new.draws, c.digit-3.ensures.drawn, (t c.digit-4.new.draws, c.digit-4.ensures.drawn, (t c.digit-5.new.draws, c.digit-5.ensures.drawn, (t c.digit-6.new.draws, c.digit-6.ensures.drawn, (t c.digit-7.new.draws, c.digit-7.ensures.drawn, (t c.digit-8.new.draws, c.digit-8.ensures.drawn, (t c.digit-9.new.draws, c.digit-9.ensures.drawn, (t c.digit-10.new.draws, c.digit-10.ensures.drawn, refl))))))))))
