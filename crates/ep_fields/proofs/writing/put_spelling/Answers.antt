use Rattle.std.proofs.Common.{rules, length, ◌≡◌, ◌+◌, ◌++◌, List, ℕ, IfOk, true, false, drop, ◌∙◌, ap, subst}
use Rattle.ep_fields.specs.Bytes.{text, IsText}
use Rattle.ep_fields.proofs.Ascii.{front_behind}
use Rattle.ep_fields.proofs.Spelled.{front_ascii}
use Rattle.ep_fields.specs.Writing.{is_ascii}
use Rattle.ep_fields.proofs.writing.put_spelling.Goals as goal

pub end_text-requires : goal.end_text-requires
end_text-requires c =
    let len : c.len-at.result ≡ length c.args.out.now.items = search rules in
    let front = c.in_ok-print_front.ensures.0 in
    let made = c.in_ok-print_front.ensures.1 ∙ ap (λ (bs : List ℕ). bs ++ front) c.in_ok-begin_text.ensures in
    let parts = front_behind c.args.out.now.items c.print_front.new.out.items front c.len-at.result len made in
    record { room = parts.0; front = ap is_ascii parts.2 ∙ front_ascii c.args.pairs.now.pairs c.args.done.now front c.in_ok-print_front.ensures.2 }

pub returns-clause-put : goal.returns-clause-put
returns-clause-put c =
    let old = c.args.out.now.items in
    let at = c.len-at.result in
    let len : at ≡ length old = search rules in
    let begun = c.print_front.new.out.items in
    let front = c.in_ok-print_front.ensures.0 in
    let rest = c.as_slice.result.now in
    let made = c.in_ok-print_front.ensures.1 ∙ ap (λ (bs : List ℕ). bs ++ front) c.in_ok-begin_text.ensures in
    let parts = front_behind old begun front at len made in
    let put : List ℕ → List ℕ → Type 0 = λ first us. IfOk c.end_text.result (λ ascii. ascii ≡ true → (c.end_text.new.out.items ≡ first ++ text us) × IsText us) in
    subst (put old)
    (ap (λ (bs : List ℕ). bs ++ rest) parts.2 ∙ ap (λ (bs : List ℕ). front ++ bs) (c.as_slice.ensures ∙ c.bank.ensures) ∙ c.in_ok-print_front.ensures.2)
    (subst (λ (first : List ℕ). put first (drop (at + 4) begun ++ rest)) parts.1 c.end_text.ensures.put)

pub returns-clause-not : goal.returns-clause-not
returns-clause-not c =
    let len : c.len-at.result ≡ length c.args.out.now.items = search rules in
    let front = c.in_ok-print_front.ensures.0 in
    let made = c.in_ok-print_front.ensures.1 ∙ ap (λ (bs : List ℕ). bs ++ front) c.in_ok-begin_text.ensures in
    subst (λ (first : List ℕ). IfOk c.end_text.result (λ ascii. ascii ≡ false → c.end_text.new.out.items ≡ first))
    (front_behind c.args.out.now.items c.print_front.new.out.items front c.len-at.result len made).1
    c.end_text.ensures.not
