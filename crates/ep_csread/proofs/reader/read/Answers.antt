use Rattle.std.proofs.Common.{◌∙◌, ap, IfErr, rules}
use Rattle.ep_csread.specs.Answer.{IsRefused}
use Rattle.ep_csread.specs.Reading.{reading}
use Rattle.ep_csread.proofs.Begun.{syntax_of}
use Rattle.ep_units.specs.Text.{is_well_formed}
use Rattle.ep_csread.specs.Syntax.{parts_of}
use Rattle.ep_csread.proofs.Checked.{bank_whole, syntax_ok}
use Rattle.ep_csread.specs.Views.{parts_view}
use Rattle.ep_csread.proofs.reader.read.Goals as goal

pub returns-in_err-parts-clause-syntax : goal.returns-in_err-parts-clause-syntax
returns-in_err-parts-clause-syntax c = λ at is.
    (let refused : IfErr c.from_residual.result (λ why. IsRefused why (reading c.args.pool.now.pairs c.args.text.now)) = search rules in
    syntax_of c.args.pool.now.pairs c.args.text.now c.from_residual.result refused at is)

pub counted-requires : goal.counted-requires
counted-requires c =
    let text = c.as_slice-units.result.now in
    bank_whole text (parts_view c.in_ok-parts.parts) (syntax_ok text (parts_of text) (parts_view c.in_ok-parts.parts) c.in_ok-parts.ensures) (ap is_well_formed c.as_slice-units.ensures ∙ c.requires)
