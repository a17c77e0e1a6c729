use Rattle.std.proofs.Common.{◌≡◌, ◌∙◌, true, ap, arith}
use Rattle.std.proofs.lemmas.Str.Pattern.{starts_char}
use Rattle.ep_http.specs.Fields.{number_in}
use Rattle.ep_http.proofs.Numbers.{number_in-broken, result_ok-parse}
use Rattle.ep_http.proofs.fields.number_in.Goals as goal

pub returns-in_default : goal.returns-in_default
returns-in_default c = number_in-broken c.args.text.now c.in_default.ensures.cases.0

pub returns : goal.returns
returns c =
    let text = c.in-Ok.text.now in
    let same : text ≡ c.args.text.now = c.in-Ok.ensures.cases.0 in
    let plus = starts_char 43 text c.starts_with.result c.starts_with.ensures.cases (omega arith) (omega arith) in
    let read : c.ok.result ≡ number_in text = c.ok.ensures.value ∙ result_ok-parse text c.parse.result c.parse.ensures.value.0 (λ e. let t : c.starts_with.result ≡ true = plus.1 e in let f = c.if-starts_with.false in cc) in
    read ∙ ap number_in same
