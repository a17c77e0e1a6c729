use Rattle.std.proofs.Common.{rules, sym}
use Rattle.std.proofs.lemmas.Fn.{filter_same}
use Rattle.ep_units.specs.Text.{text_eq}
use Rattle.ep_groups.proofs.groups.only_of_group.Goals as goal

pub returns : goal.returns
returns c = rw (sym c.infos.view_is) (filter_same _ (λ i. text_eq i.group c.args.group.now) _ (λ x b f' k. search rules) _ _ c.retain.ensures.filtered)
