-- Rows one after another.
use Rattle.std.proofs.Common.{◌≡◌, ℕ, suc, ◌+◌, ◌-◌, ◌<◌, List, [], ◌∷◌, ◌++◌, Result, Ok, Err, refl, sym, ap, ◌∙◌, append_assoc, add-one, arith}
use Rattle.serde_json.specs.Data.{Data}
use Rattle.ep_import.specs.declared.bad.ImportBad.{ImportBad}
use Rattle.ep_import.specs.declared.bad.ImportBad.TheVariants as bad
use Rattle.ep_import.specs.declared.rows.Row as declared_row
use Rattle.ep_import.specs.Answer.{IsRefused, ◌>>=◌}
use Rattle.ep_import.specs.Imported.{Row, row_at, rows_from}
use Rattle.ep_import.specs.Seen.{row_view, row_views}

-- rows, with others before them
abbrev pub with_rows : List Row → Result (List Row) ImportBad → Result (List Row) ImportBad
with_rows front r = r >>= λ rs. Ok (front ++ rs)

-- a row, and then the others
abbrev then_rows : Result Row ImportBad → Result (List Row) ImportBad → Result (List Row) ImportBad
then_rows row rest = row >>= λ r. rest >>= λ rs. Ok (r ∷ rs)

with_next : (front : List Row) (r : Row) (rest : Result (List Row) ImportBad) → with_rows front (then_rows (Ok r) rest) ≡ with_rows (front ++ r ∷ []) rest
with_next front r (Ok rs) = ap Ok (sym (append_assoc front (r ∷ []) rs))
with_next front r (Err why) = refl

more_rows : (key : List ℕ) (d : Data) (n count : ℕ) (front : List Row) → n < count
    → with_rows front (rows_from key d n (count - n)) ≡ with_rows front (then_rows (row_at key n d) (rows_from key d (suc n) (count - (n + 1))))
more_rows key d n count front l = let e : count - n ≡ suc (count - (n + 1)) = omega arith in ap (λ k. with_rows front (rows_from key d n k)) e

-- the next row
pub rows_next : (key : List ℕ) (d : Data) (n count : ℕ) (front : List Row) (r : Row) → n < count → row_at key n d ≡ Ok r
    → with_rows front (rows_from key d n (count - n)) ≡ with_rows (front ++ r ∷ []) (rows_from key d (n + 1) (count - (n + 1)))
rows_next key d n count front r l e =
    more_rows key d n count front l ∙ ap (λ (row : Result Row ImportBad). with_rows front (then_rows row (rows_from key d (suc n) (count - (n + 1))))) e
    ∙ with_next front r (rows_from key d (suc n) (count - (n + 1))) ∙ ap (λ k. with_rows (front ++ r ∷ []) (rows_from key d k (count - (n + 1)))) (sym (add-one n))

-- one that is refused
pub rows_stop : (key : List ℕ) (d : Data) (n count : ℕ) (front : List Row) (why : ImportBad) (whole : Result (List Row) ImportBad) → n < count
    → with_rows front (rows_from key d n (count - n)) ≡ whole → IsRefused why (row_at key n d) → IsRefused why whole
rows_stop key d n count front bad.NoMemory whole l is refused = tt
rows_stop key d n count front why whole l is refused =
    sym is ∙ more_rows key d n count front l ∙ ap (λ (row : Result Row ImportBad). with_rows front (then_rows row (rows_from key d (suc n) (count - (n + 1))))) refused

pub views_push : (xs : List declared_row.Row) (x : declared_row.Row) → row_views (xs ++ x ∷ []) ≡ row_views xs ++ row_view x ∷ []
views_push [] x = refl
views_push (y ∷ ys) x = ap (λ (rs : List Row). row_view y ∷ rs) (views_push ys x)
