use Rattle.std.proofs.Common.{◌≡◌, ◌∙◌, ap, sym}
use Rattle.ep_units.specs.Text.{Text, text_eq}
use Rattle.ep_units.specs.Clean.{clean}
use Rattle.ep_attr.proofs.Maps.{exact_test}
use Rattle.ep_attr.proofs.SameMap.{itself}
use Rattle.ep_formats.proofs.writing.is_clean.Goals as goal

pub returns : goal.returns
returns c =
    let us = c.args.us.now in
    let e : c.in_ok-clean.field-0 ≡ clean us = c.in_ok-clean.ensures.clean in (
      λ h. sym e ∙ exact_test c.in_ok-clean.field-0 us (sym c.eq-2.ensures ∙ h),
      λ h. c.eq-2.ensures ∙ ap (λ (x : Text). text_eq x us) (e ∙ h) ∙ itself us,
    )
