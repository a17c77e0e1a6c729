use Rattle.std.proofs.Common.{rules, sym}
use Rattle.std.proofs.lemmas.Fn.{filter_same}
use Rattle.ep_units.specs.Text.{text_eq}
use Rattle.ep_groups.proofs.sessions.only_of_author.Goals as goal

pub returns : goal.returns
returns c = rw (sym c.infos.view_is) (filter_same _ (λ i. text_eq i.author c.args.author.now) _ (λ x b f' k. search rules) _ _ c.retain.ensures.filtered)
