use Rattle.std.proofs.Common.{◌∙◌, ap, refl, subst, sym}
use Rattle.ep_house.specs.Register.{on_disk}
use Rattle.ep_house.specs.Named.{wait_of, waits_of}
use Rattle.ep_house.proofs.Finding.{waits-append}
use Rattle.ep_house.proofs.Placing.{anywhere}
use Rattle.ep_house.proofs.registry.Registry.put.Goals as goal

pub into_disk-disk-requires : goal.into_disk-disk-requires
into_disk-disk-requires g c = (c.args.disk, subst (λ p. g.P.PadOver.is_shut p c.args.disk) (sym c.in-Err.ensures.refused) c.shut-pad.ensures.disk)

pub share-requires-clause-within : goal.share-requires-clause-within
share-requires-clause-within g c = ap g.P.PadOver.limits_of c.in-Ok.ensures.first ∙ c.shut-pad.ensures.limits

pub returns-in-Ok-clause-places : goal.returns-in-Ok-clause-places
returns-in-Ok-clause-places g c = anywhere _ _ c.args.name _ c.args.disk _ c.share.ensures.places

pub returns-in-Err-clause-places : goal.returns-in-Err-clause-places
returns-in-Err-clause-places g c =
    let same = c.into_disk-disk.ensures c.args.disk (subst (λ p. g.P.PadOver.is_shut p c.args.disk) (sym c.in-Err.ensures.refused) c.shut-pad.ensures.disk) in
    (refl, refl, refl, (on_disk c.into_disk-disk.result, ap (waits_of wait_of) c.push_reserved.ensures.items ∙ waits-append wait_of c.args.self.now.kept.items _, same))
