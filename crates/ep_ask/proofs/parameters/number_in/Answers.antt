use Rattle.std.proofs.Common.{◌≡◌, true, ◌∙◌, arith}
use Rattle.std.proofs.lemmas.Str.Pattern.{starts_char}
use Rattle.ep_ask.proofs.Numerals.{result_ok-parse}
use Rattle.ep_ask.proofs.parameters.number_in.Goals as goal

pub returns : goal.returns
returns c =
    let plus = starts_char 43 c.args.text.now c.starts_with.result c.starts_with.ensures.cases (omega arith) (omega arith) in
    c.ok.ensures.value ∙ result_ok-parse c.args.text.now c.parse.result c.parse.ensures.value.0 (λ e. let t : c.starts_with.result ≡ true = plus.1 e in cc)
