use Rattle.std.proofs.Common.{◌≡◌, [], ◌∷◌}
use Rattle.ep_units.specs.Clean.{clean}
use Rattle.ep_fields.specs.Bytes.{number, text, IsNumber, IsText}
use Rattle.ep_formats.specs.Bytes.{spaced, IsSpaced}
use Rattle.ep_formats.proofs.Adding.{create_added}
use Rattle.ep_formats.proofs.writing.put_create.Goals as goal

pub returns : goal.returns
returns c =
    let a = c.args in
    create_added c.put_cleaned.result a.out.now.items c.push.new.self.items c.put_number.new.out.items c.put_number-2.new.out.items c.put_spacing.new.out.items c.put_cleaned.new.out.items
    (2 ∷ []) (number a.birth) (number a.time) (spaced a.format a.spacing) (text a.text.now) (IsNumber a.birth) (IsNumber a.time) (IsSpaced a.format a.spacing) (IsText a.text.now) (clean a.text.now ≡ a.text.now)
    c.in_ok-push.ensures.items c.in_ok-put_number.ensures c.in_ok-put_number-2.ensures c.in_ok-put_spacing.ensures c.put_cleaned.ensures
