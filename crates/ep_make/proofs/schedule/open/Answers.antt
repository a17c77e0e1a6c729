use Rattle.std.proofs.Common.{◌≡◌, subst, ◌∙◌}
use Rattle.std.specs.Prelude.{IfSome}
use Rattle.ep_make.proofs.Whole.{holds_nothing, opened}
use Rattle.ep_make.proofs.schedule.open.Goals as goal

pub returns : goal.returns
returns c =
    let same = subst (λ o. IfSome o (λ p. p ≡ c.in_ok-name.name)) c.in-Some.is c.in_ok-read.ensures.same in
    opened _ _ _ c.in_ok-world.world c.in-Some.id _ _ (same ∙ c.in_ok-name.ensures.units)
    (c.in_ok-world.ensures.begins (holds_nothing _ c.new.result.items c.in_ok-disk.ensures.told c.new.ensures.items))
