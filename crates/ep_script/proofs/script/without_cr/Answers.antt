use Rattle.std.proofs.Common.{◌∷◌, [], sym, ◌∙◌, ap, Some, None}
use Rattle.std.proofs.lemmas.Bool.Decides.{Decides-eqb}
use Rattle.std.proofs.lemmas.Slice.Eq.{strip_suffix_is}
use Rattle.ep_script.specs.Lines.{without_cr}
use Rattle.ep_script.proofs.Rows.{without_cr-cr, without_cr-none}
use Rattle.ep_script.proofs.script.without_cr.Goals as goal

pub returns-in-Some : goal.returns-in-Some
returns-in-Some c = sym (ap without_cr (strip_suffix_is Decides-eqb c.args.line.now (13 ∷ []) (Some c.in-Some.before) c.in-Some.ensures.cases) ∙ without_cr-cr c.in-Some.before.now)

pub returns-in-None : goal.returns-in-None
returns-in-None c = sym (without_cr-none c.args.line.now (strip_suffix_is Decides-eqb c.args.line.now (13 ∷ []) None c.in-None.ensures.cases))
