use Rattle.std.proofs.Common.{◌∙◌, subst}
use Rattle.std.specs.Prelude.{IfOk}
use Rattle.std.proofs.lemmas.List.Elements.{All-push}
use Rattle.ep_house.specs.Named.{IsWithin, shared_id}
use Rattle.ep_house.proofs.Opened.{stands_on}
use Rattle.ep_house.proofs.registry.RegistryMachine.call.Goals as goal

pub returns : goal.returns
returns g c = λ first h s. (
  c.look_up.ensures.limits ∙ s.0,
  stands_on g.H.Device.failures g.H.Shelf.names g.H.Shelf.told g.H.D.Device.failures g.H.D.Disk.told shared_id _ _ _ c.args.wanted c.look_up.result c.look_up.ensures.step h s.1,
  All-push (λ x. IfOk x.1 (IsWithin g.P.PadOver.limits_of first.limits)) h (c.args.wanted, c.look_up.result) s.2 (subst (λ l. IfOk c.look_up.result (IsWithin g.P.PadOver.limits_of l)) s.0 c.look_up.ensures.within),
)
