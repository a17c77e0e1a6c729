use Rattle.std.proofs.Common.{◌≡◌, ℕ, ◌<◌, None, get_or, rules, ap, ◌∙◌}
use Rattle.ep_units.specs.Halves.{first_lone}
use Rattle.ep_units.specs.Utf8.{units_of}
use Rattle.ep_units.proofs.Back.{units_of-utf8_of}
use Rattle.ep_units.proofs.Lone.{well_formed-first_lone}
use Rattle.ep_units.proofs.units.Units.to_text.Goals as goal

pub returns-clause-back : goal.returns-clause-back
returns-clause-back c =
    let units = c.as_slice-units.result.now in
    let fits : (k : ℕ) → get_or units k 0 < 65536 = λ k. search rules in
    let whole : first_lone units ≡ None = search rules in
    ap units_of c.in_ok-from_utf16_lossy.ensures ∙ units_of-utf8_of units fits ((well_formed-first_lone units).1 whole) ∙ c.as_slice-units.ensures
