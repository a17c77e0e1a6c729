use Rattle.std.proofs.Common.{◌≡◌, ◌∙◌, false, nat_eq, sym, ap₂}
use Rattle.std.specs.List.{starts_with}
use Rattle.std.specs.declared.cmp.Ordering.TheVariants.{Less}
use Rattle.std.proofs.lemmas.Bool.{not-true}
use Rattle.ep_outside.specs.Kept.{key_cmp}
use Rattle.ep_keep_sql.proofs.Prefixes.{below_end}
use Rattle.ep_keep_sql.proofs.prefix.is_past.Goals as goal

pub returns-in-Less : goal.returns-in-Less
returns-in-Less c = λ past n begins.
    let less : key_cmp c.args.prefix.now c.args.end.now ≡ Less = sym c.in-Less.ensures in
    let other : starts_with nat_eq c.args.end.now c.args.prefix.now ≡ false =
    ap₂ (starts_with nat_eq) (sym c.as_bytes.ensures.value) (sym c.as_bytes-in-Less.ensures.value) ∙ (sym c.starts_with.ensures.value ∙ not-true _ past) in
    below_end n c.args.prefix.now c.args.end.now less other begins
