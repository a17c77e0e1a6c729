use Rattle.std.proofs.Common.{◌≡◌, ℕ, ap, ◌∙◌, take, drop}
use Rattle.std.specs.List.{prefix_len}
use Rattle.ep_units.specs.Text.{Text}
use Rattle.ep_units.specs.Base36.{digits_of, is_digit, number_read}
use Rattle.ep_units.proofs.Reading.{digits_of-prefix, behind-prefix}
use Rattle.ep_units.proofs.base36.digits36.Goals as goal

front_is : (us : Text) (len : ℕ) → len ≡ prefix_len is_digit us → take len us ≡ digits_of us
front_is us len e = ap (λ k. take k us) e ∙ digits_of-prefix us

pub returns-clause-digits : goal.returns-clause-digits
returns-clause-digits c = front_is c.args.units.now c.digits_len-len.result c.digits_len-len.ensures.len

pub returns-clause-behind : goal.returns-clause-behind
returns-clause-behind c = ap (λ k. drop k c.args.units.now) c.digits_len-len.ensures.len ∙ behind-prefix c.args.units.now

pub returns-clause-number : goal.returns-clause-number
returns-clause-number c =
    c.value36.ensures.number
    ∙ ap number_read (front_is c.args.units.now c.digits_len-len.result c.digits_len-len.ensures.len)
