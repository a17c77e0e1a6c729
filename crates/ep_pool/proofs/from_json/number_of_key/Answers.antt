use Rattle.std.proofs.Common.{◌≡◌, Ok, true≢false, decimal, arith, sym, ap, ◌∙◌}
use Rattle.std.specs.Result.{result_ok}
use Rattle.std.proofs.lemmas.Fmt.{parse-decimal}
use Rattle.std.proofs.lemmas.Option.{same_Some}
use Rattle.ep_pool.proofs.from_json.number_of_key.Goals as goal

pub returns-in-Err-clause-none : goal.returns-in-Err-clause-none
returns-in-Err-clause-none c _ n small is =
    let ok : c.parse.result ≡ Ok n = parse-decimal 64 n c.args.key.now c.parse.result (omega arith) (omega arith) is c.parse.ensures.value.0 in
    let both = sym ok ∙ c.in-Err.is in
    grind (arith, both)

pub returns-else-is_name_of-clause-none : goal.returns-else-is_name_of-clause-none
returns-else-is_name_of-clause-none c _ n small is =
    let ok : c.parse.result ≡ Ok n = parse-decimal 64 n c.args.key.now c.parse.result (omega arith) (omega arith) is c.parse.ensures.value.0 in
    let same : n ≡ c.in-Ok.number = same_Some n c.in-Ok.number (ap result_ok (sym ok ∙ c.in-Ok.is)) in
    true≢false (sym (c.if-is_name_of.ensures.1 (omega (arith, same, small), is ∙ ap decimal same)))
