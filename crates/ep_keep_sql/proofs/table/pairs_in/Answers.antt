use Rattle.std.proofs.Common.{◌≡◌, ◌<◌, ◌∙◌, ◌+◌, ◌++◌, ◌∷◌, [], drop, get_or, length, map, refl, sym, ap, subst, append_assoc, arith}
use Rattle.ep_outside.specs.Kept.{listed}
use Rattle.ep_keep_sql.specs.Told.{shows}
use Rattle.ep_keep_sql.proofs.Lists.{listed_first, next_shown}
use Rattle.ep_keep_sql.proofs.table.pairs_in.Goals as goal

pub loop-row-preserved : goal.loop-row-preserved
loop-row-preserved c = λ ps is.
    let i = c.loop-row.row-index in
    let prefix = c.args.prefix.now in
    let low : i < length (map shows ps) = subst (λ l. i < length l) is c.loop-row-test.true in
    let next = next_shown ps i c.row-item.result low (c.row-item.is ∙ ap (λ l. get_or l i c.row-item.result) is) in
    let items = c.loop-row.items.items in
    let rest = listed (drop (i + 1) ps) prefix in
    let pair : c.in_ok-pair_in.field-0 ≡ next.0 = c.in_ok-pair_in.ensures next.0 next.1 in
    let pushed : c.push_listed.new.items.items ≡ items ++ listed (next.0 ∷ []) prefix = c.in_ok-push_listed.ensures ∙ ap (λ p. items ++ listed (p ∷ []) prefix) pair in
    ap (λ l. l ++ rest) pushed ∙ (append_assoc items (listed (next.0 ∷ []) prefix) rest
    ∙ (ap (λ l. items ++ l) (sym (listed_first next.0 (drop (i + 1) ps) prefix)) ∙ (ap (λ l. items ++ listed l prefix) (sym next.2) ∙ c.loop-row.invariant ps is)))
