use Rattle.ep_words.proofs.app.padd.Goals as goal

pub returns : goal.returns
returns c =
    let first = c.in_ok-first.ensures _ _ c.top.ensures c.in_ok-play.ensures in
    let second = c.in_ok-second.ensures _ _ first c.in_ok-serve.ensures in
    let third = c.in_ok-third.ensures _ _ second c.in_ok-write.ensures in
    let fourth = c.in_ok-fourth.ensures _ _ third c.in_ok-verify.ensures in
    c.with_leaf-5.ensures _ _ fourth c.in_ok-make.ensures
