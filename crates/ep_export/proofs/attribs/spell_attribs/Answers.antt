use Rattle.std.proofs.Common.{◌≡◌, ◌++◌, IfOk, ap, ◌∙◌, subst}
use Rattle.ep_units.specs.Text.{Text}
use Rattle.ep_cs.specs.Change.{bank_of}
use Rattle.ep_export.proofs.Front.{is_cut}
use Rattle.ep_export.proofs.attribs.spell_attribs.Goals as goal

pub part-requires : goal.part-requires
part-requires c =
    (is_cut c.args.pool.now.pairs c.args.change.now c.as_slice.result.now c.in_ok-start.start c.requires.nothing
    (ap (λ (us : Text). us ++ bank_of c.args.change.now.edit) c.as_slice.ensures ∙ c.in_ok-front.ensures) c.in_ok-start.ensures).inside

pub returns : goal.returns
returns c =
    let cut = is_cut c.args.pool.now.pairs c.args.change.now c.as_slice.result.now c.in_ok-start.start c.requires.nothing
    (ap (λ (us : Text). us ++ bank_of c.args.change.now.edit) c.as_slice.ensures ∙ c.in_ok-front.ensures) c.in_ok-start.ensures in
    subst (λ (us : Text). IfOk c.part.result (λ r. r ≡ us)) cut.cut c.part.ensures
