use Rattle.std.proofs.lemmas.List.Elements.{All-drop, All-same}
use Rattle.ep_revs.specs.Near.{IsNear}
use Rattle.ep_revs.proofs.revs.drop_first.Goals as goal

pub returns-then-len-ge-MOST_NEAR : goal.returns-then-len-ge-MOST_NEAR
returns-then-len-ge-MOST_NEAR c = λ vs h. All-same (IsNear vs) _ _ c.remove.ensures.items (All-drop (IsNear vs) 1 c.args.near.now.items h)
