use Rattle.std.proofs.lemmas.List.Elements.{All-same}
use Rattle.ep_revs.specs.Near.{IsNear}
use Rattle.ep_revs.proofs.revs.make_room.Goals as goal

pub returns-in_err-reserve : goal.returns-in_err-reserve
returns-in_err-reserve c = λ vs h. All-same (IsNear vs) _ _ c.reserve.ensures.items (c.drop_first.ensures vs h)

pub returns : goal.returns
returns c = λ vs h. All-same (IsNear vs) _ _ c.reserve.ensures.items (c.drop_first.ensures vs h)
