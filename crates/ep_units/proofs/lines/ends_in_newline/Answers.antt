use Rattle.std.proofs.Common.{◌≡◌, suc, ◌-◌, ◌<◌, [], ◌∷◌, length, get_or, nat_eq, refl, ap, ◌∙◌, arith}
use Rattle.ep_units.specs.Text.{Text, ends_in_newline}
use Rattle.ep_units.proofs.lines.ends_in_newline.Goals as goal

-- the last unit decides
last_unit : (us : Text) → 0 < length us → nat_eq (get_or us (length us - 1) 0) 10 ≡ ends_in_newline us
last_unit [] h = absurd (omega arith)
last_unit (u ∷ []) h = refl
last_unit (u ∷ (v ∷ us)) h =
    let k : suc (suc (length us)) - 1 ≡ suc (suc (length us) - 1) = omega arith in
    ap (λ n. nat_eq (get_or (u ∷ (v ∷ us)) n 0) 10) k ∙ last_unit (v ∷ us) (omega arith)

pub returns-in-len1-up : goal.returns-in-len1-up
returns-in-len1-up c = last_unit c.args.units.now (omega arith)
