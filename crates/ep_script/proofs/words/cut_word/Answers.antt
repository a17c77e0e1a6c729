use Rattle.std.proofs.Common.{sym, ◌∙◌, ap, arith, Some, None}
use Rattle.std.proofs.lemmas.Str.Pattern.{split_once_first}
use Rattle.ep_script.proofs.Spaces.{first_word-is, behind_word-Some, behind_word-None, first_word-all}
use Rattle.ep_script.proofs.words.cut_word.Goals as goal

pub returns-in-Some-clause-word : goal.returns-in-Some-clause-word
returns-in-Some-clause-word c =
    let cut = split_once_first 32 c.args.text.now (Some (c.in-Some.word, c.in-Some.rest)) c.in-Some.ensures.cases (omega arith) in
    cut.1 ∙ sym (first_word-is c.args.text.now)

pub returns-in-Some-clause-rest : goal.returns-in-Some-clause-rest
returns-in-Some-clause-rest c =
    let cut = split_once_first 32 c.args.text.now (Some (c.in-Some.word, c.in-Some.rest)) c.in-Some.ensures.cases (omega arith) in
    ap Some cut.2 ∙ sym (behind_word-Some c.args.text.now cut.0)

pub returns-in-None-clause-word : goal.returns-in-None-clause-word
returns-in-None-clause-word c = sym (first_word-all c.args.text.now (split_once_first 32 c.args.text.now None c.in-None.ensures.cases (omega arith)))

pub returns-in-None-clause-rest : goal.returns-in-None-clause-rest
returns-in-None-clause-rest c = sym (behind_word-None c.args.text.now (split_once_first 32 c.args.text.now None c.in-None.ensures.cases (omega arith)))
