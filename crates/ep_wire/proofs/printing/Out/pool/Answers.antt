use Rattle.std.proofs.Common.{◌≡◌, codes, length, option_and_then, ap, ◌∙◌, rules}
use Rattle.std.proofs.lemmas.Option.{same_Some}
use Rattle.serde_json.specs.Data.{no_members}
use Rattle.serde_json.specs.Find.{as_object, get}
use Rattle.serde_json.specs.View.{members_view}
use Rattle.ep_pool.specs.Json.{numbered}
use Rattle.ep_wire.proofs.printing.Out.pool.Goals as goal

pub returns-clause-tokens : goal.returns-clause-tokens
returns-clause-tokens c =
    let pairs = c.args.pool.now.pairs in
    let entries : members_view c.in-Some.entries.now.entries ≡ numbered no_members 0 pairs =
    same_Some _ _ (c.in-Some.ensures ∙ ap (λ d. option_and_then as_object (get (codes "numToAttrib") d)) c.in_ok-json.ensures) in
    let count : c.from.result ≡ length pairs = search rules in
    rw (c.in_ok-pool_of.ensures, entries, count)
