use Rattle.std.proofs.Common.{◌∙◌, ap, refl, rules, subst}
use Rattle.ep_cell.specs.Passes.{first_of, id_of}
use Rattle.ep_house.specs.Register.{Places, in_cell}
use Rattle.ep_pad.specs.Halls.{told_of}
use Rattle.ep_house.specs.Named.{shared_id, wait_of, waits_of}
use Rattle.ep_house.specs.Registry.{register}
use Rattle.ep_house.proofs.Finding.{waits-append}
use Rattle.ep_house.proofs.registry.Registry.share.Goals as goal

pub place-requires-clause-within : goal.place-requires-clause-within
place-requires-clause-within g c = ap (λ t. g.P.PadOver.limits_of (first_of t)) c.in-Ok.ensures.ok ∙ c.requires.within

pub returns-in-Ok-clause-places : goal.returns-in-Ok-clause-places
returns-in-Ok-clause-places g c = subst (λ t. Places (register c.args.self.now) c.args.name (in_cell (id_of t)) (told_of shared_id c.place.result) (register c.place.new.self)) c.in-Ok.ensures.ok c.place.ensures.places

pub returns-in-Err-clause-places : goal.returns-in-Err-clause-places
returns-in-Err-clause-places g c = (refl, refl, refl, (in_cell (id_of c.in-Err.failed.value), ap (waits_of wait_of) c.push_reserved.ensures.items ∙ waits-append wait_of c.args.self.now.kept.items _, search rules))
