use Rattle.std.proofs.Common.{◌∙◌, sym, ap}
use Rattle.std.proofs.lemmas.Result.{IfOk-weaker}
use Rattle.ep_cs.specs.Draft.{keeping}
use Rattle.ep_sign.proofs.Signed.{mark_own, mark_anothers}
use Rattle.ep_sign.proofs.signer.keep_new.Goals as goal

pub returns-then-names_author : goal.returns-then-names_author
returns-then-names_author c =
    let o = c.args.op.now in
    IfOk-weaker c.keep_bare.result _ _ (λ _ e. e ∙ ap (keeping c.args.out.now o.units o.lines) (sym (mark_own c.args.author.now o.attrs (sym c.names_author.ensures ∙ c.if-names_author.true)))) c.keep_bare.ensures.ok

pub returns : goal.returns
returns c =
    let o = c.args.op.now in
    IfOk-weaker c.keep.result _ _ (λ _ e. e ∙ ap (keeping c.args.out.now o.units o.lines) (c.requires.name ∙ sym (mark_anothers c.args.author.now o.attrs (sym c.names_author.ensures ∙ c.if-names_author.false)))) c.keep.ensures.ok
