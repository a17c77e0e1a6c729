use Rattle.std.proofs.Common.{◌≡◌, ◌<◌, ◌^◌, ℕ, Ok, true≢false, decimal, arith, sym, ap, ◌∙◌}
use Rattle.std.specs.Result.{result_ok}
use Rattle.std.proofs.lemmas.Fmt.{parse-decimal}
use Rattle.std.proofs.lemmas.Option.{same_Some}
use Rattle.std.proofs.lemmas.Slice.Eq.{bytes_eq-Decides}
use Rattle.ep_wire_words.proofs.Numerals.{number_is, number_not}
use Rattle.ep_wire_words.proofs.session.number.Goals as goal

pub returns-then-eq : goal.returns-then-eq
returns-then-eq c =
    let text : c.args.text.now ≡ decimal c.in-Ok.number = sym ((bytes_eq-Decides c.format.result.now c.args.text.now).0 (sym c.eq.ensures ∙ c.if-eq.true)) ∙ c.format.ensures.text in
    sym (number_is c.args.text.now c.in-Ok.number (omega arith) text)

pub returns-else-eq : goal.returns-else-eq
returns-else-eq c =
    sym (number_not c.args.text.now none)
  where
    none : (n : ℕ) → n < 2 ^ 64 → c.args.text.now ≡ decimal n → ⊥
    none n small is =
        let ok : c.parse.result ≡ Ok n = parse-decimal 64 n c.args.text.now c.parse.result small (omega arith) is c.parse.ensures.value.0 in
        let same : n ≡ c.in-Ok.number = same_Some n c.in-Ok.number (ap result_ok (sym ok ∙ c.in-Ok.is)) in
        let text : c.format.result.now ≡ c.args.text.now = c.format.ensures.text ∙ (ap decimal (sym same) ∙ sym is) in
        true≢false (sym ((bytes_eq-Decides c.format.result.now c.args.text.now).1 text) ∙ (sym c.eq.ensures ∙ c.if-eq.false))

pub returns-in-Err : goal.returns-in-Err
returns-in-Err c =
    sym (number_not c.args.text.now none)
  where
    none : (n : ℕ) → n < 2 ^ 64 → c.args.text.now ≡ decimal n → ⊥
    none n small is =
        let ok : c.parse.result ≡ Ok n = parse-decimal 64 n c.args.text.now c.parse.result small (omega arith) is c.parse.ensures.value.0 in
        let both = sym ok ∙ c.in-Err.is in
        grind (arith, both)
