use Rattle.std.proofs.Common.{[], ◌∷◌, refl}
use Rattle.ep_api.proofs.Draws.{drew}
use Rattle.ep_api.proofs.drawing.draw.Goals as goal

pub returns : goal.returns
returns g k =
    let a = k.draw_digit-a.ensures.draws in
    let b = k.draw_digit-b.ensures.draws in
    let c = k.draw_digit-c.ensures.draws in
    let d = k.draw_digit-d.ensures.draws in
    let e = k.draw_digit-e.ensures.draws in
    let f = k.draw_digit-f.ensures.draws in
    let h = k.draw_digit-g.ensures.draws in
    let i = k.draw_digit-h.ensures.draws in
    let j = k.draw_digit-i.ensures.draws in
    let l = k.draw_digit-j.ensures.draws in
    drew (a.0 ∷ b.0 ∷ c.0 ∷ d.0 ∷ e.0 ∷ f.0 ∷ h.0 ∷ i.0 ∷ j.0 ∷ l.0 ∷ []) _ _ _
    (_, a.1, (_, b.1, (_, c.1, (_, d.1, (_, e.1, (_, f.1, (_, h.1, (_, i.1, (_, j.1, (_, l.1, refl))))))))))
    refl (cc (a.2, b.2, c.2, d.2, e.2, f.2, h.2, i.2, j.2, l.2))
