-- Insertions: what they alter, and that they are what they are from the identity on.
use Rattle.std.proofs.Common.{◌≡◌, ℕ, zero, suc, ◌+◌, ◌-◌, ◌≤◌, false, List, [], ◌∷◌, ◌++◌, refl, sym, ap, ◌∙◌, arith}
use Rattle.ep_cs.specs.Doc.{Cell}
use Rattle.ep_cs.specs.Edit.{IsSettled, compose, inserts, settle, identity}
use Rattle.ep_cs.specs.Fits.{is_identity}
use Rattle.ep_cs.specs.Splice.{kept, dropped, splice}
use Rattle.ep_cs.proofs.Canonical.{settle-inserts}
use Rattle.ep_cs.proofs.Items.{settle_settled, identity-compose}
use Rattle.ep_cs.proofs.Splices.{length-splice}

alters_waiting : (c : Cell) (cells : List Cell) (n : ℕ) → is_identity (settle (c ∷ cells) (kept n)) ≡ false
alters_waiting c cells zero = refl
alters_waiting c cells (suc n) = refl

alters_behind : (at : ℕ) (c : Cell) (cells : List Cell) (n : ℕ) → is_identity (settle [] (kept at ++ (inserts (c ∷ cells) ++ kept n))) ≡ false
alters_behind zero c cells n = ap is_identity (settle-inserts (c ∷ []) cells (kept n)) ∙ alters_waiting c cells n
alters_behind (suc at) c cells n = alters_behind at c cells n

-- an insertion alters something
pub insertion_alters : (n at : ℕ) (c : Cell) (cells : List Cell) → is_identity (splice n at 0 (c ∷ cells)) ≡ false
insertion_alters n at c cells = alters_behind at c cells (n - (at + 0))

pub splice_settled : (n at count : ℕ) (piece : List Cell) → IsSettled (splice n at count piece)
splice_settled n at count piece = settle_settled [] (kept at ++ (dropped count ++ (inserts piece ++ kept (n - (at + count)))))

-- from the identity an insertion is what it is
pub identity_then : (n at : ℕ) (piece : List Cell) → at ≤ n → compose (identity n) (splice n at 0 piece) ≡ splice n at 0 piece
identity_then n at piece h =
    ap (λ k. compose (identity k) (splice n at 0 piece)) (sym (length-splice n at 0 piece (omega arith))) ∙ identity-compose (splice n at 0 piece) (splice_settled n at 0 piece)
