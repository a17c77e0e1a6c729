-- What is left of a text without some last units that have no newline.
use Rattle.std.proofs.Common.{ℕ, ◌≡◌, ◌≤◌, ◌++◌, length, take, drop, sym, ap, ◌∙◌}
use Rattle.std.proofs.lemmas.List.{take-append-drop, take-append-le, drop-append-le}
use Rattle.ep_units.specs.Text.{Text}
use Rattle.ep_cs.specs.Lines.{count_lines}
use Rattle.ep_block_parts.proofs.Texts.{no_line_behind}

-- it begins the text, and behind it is no newline
pub record IsRest (us rest : Text) : Type 0 where
  pub first : rest ≡ take (length rest) us
  pub within : length rest ≤ length us
  pub behind : count_lines (drop (length rest) us) ≡ 0

whole : (us rest : Text) → IsRest us rest → rest ++ drop (length rest) us ≡ us
whole us rest r = ap (λ (x : Text). x ++ drop (length rest) us) r.first ∙ take-append-drop (length rest) us

-- a rest's own front, where no newline is behind that in it
pub shorter : (us rest : Text) (m : ℕ) → IsRest us rest → m ≤ length rest → count_lines (drop m rest) ≡ 0 → (take m us ≡ take m rest) × (count_lines (drop m us) ≡ 0)
shorter us rest m r h z =
    let behind = drop (length rest) us in
    let all = sym (whole us rest r) in
    let first : take m us ≡ take m rest = ap (take m) all ∙ take-append-le m rest behind h in
    let last : count_lines (drop m us) ≡ 0 =
    ap (λ (x : Text). count_lines (drop m x)) all ∙ ap count_lines (drop-append-le m rest behind h) ∙ no_line_behind (drop m rest) behind z r.behind in
    (first, last)
