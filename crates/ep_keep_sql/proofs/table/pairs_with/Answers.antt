use Rattle.std.proofs.Common.{◌≡◌, ◌∙◌, map}
use Rattle.ep_outside.specs.Kept.{listed}
use Rattle.ep_keep_sql.specs.Told.{shows}
use Rattle.ep_keep_sql.proofs.Listings.{if_ok}
use Rattle.ep_keep_sql.proofs.table.pairs_with.Goals as goal

pub returns-clause-pairs : goal.returns-clause-pairs
returns-clause-pairs g c = λ clean m holds.
    let shown = c.in_ok-rows.ensures.rows clean m holds in
    let prefix = c.args.prefix.now in
    if_ok (λ pairs. pairs ≡ listed shown.0 prefix) (λ pairs. pairs ≡ listed m prefix) c.pairs_in.result (λ pairs e. e ∙ shown.2) (c.pairs_in.ensures shown.0 (c.deref.ensures.value ∙ shown.1))
