-- An imported history is a birth's.
use Rattle.std.proofs.Common.{◌≡◌, ℕ, suc, Bool, List, [], ◌∷◌, inl, inr, Result, Ok, Err, refl, sym, ap, subst}
use Rattle.serde_json.specs.Data.{Data}
use Rattle.ep_units.specs.Text.{Text}
use Rattle.ep_attr.specs.AttrMap.{Pair}
use Rattle.ep_history.specs.declared.rev.Rev.{Rev}
use Rattle.ep_past.specs.Revisions.{AreRevisions}
use Rattle.ep_export.specs.Keys.{pad_key}
use Rattle.ep_import.specs.declared.bad.ImportBad.{ImportBad}
use Rattle.ep_import.specs.Answer.{Then, ◌>>=◌}
use Rattle.ep_import.specs.Imported.{Compares, Front, Imports, ReadsObject, Replays, Rest, Row, Said, Told, WithPool, front_in, json_in, of_pool, public_in, row_at, rows_from}
use Rattle.ep_import.proofs.Following.{replayed_births}

-- an answer behind a step
then_ok : {A B : Type 0} (read : Result A ImportBad) (Next : A → Result B ImportBad → Type 0) (x : B) → Then read Next (Ok x) → (a : A) × (read ≡ Ok a) × Next a (Ok x)
then_ok (Ok a) Next x h = (a, refl, h)
then_ok (Err why) Next x h = absurd cc

-- one row and more
some_rows : (row : Result Row ImportBad) (rest : Row → Result (List Row) ImportBad) (rows : List Row) → (row >>= λ r. rest r >>= λ rs. Ok (r ∷ rs)) ≡ Ok rows → (r : Row) × (rs : List Row) × (rows ≡ r ∷ rs)
some_rows (Err why) rest rows e = absurd cc
some_rows (Ok r) rest rows e = go (rest r) e
  where
    go : (more : Result (List Row) ImportBad) → (more >>= λ rs. Ok (r ∷ rs)) ≡ Ok rows → (s : Row) × (rs : List Row) × (rows ≡ s ∷ rs)
    go (Err why) h = absurd cc
    go (Ok rs) h = let same : rows ≡ r ∷ rs = cc in (r, rs, same)

compared_revs : (pairs : List Pair) (f : Front) (s : Said) (public : Bool) (vs : List Rev) → Compares pairs f public vs (Ok s) → s.revs ≡ vs
compared_revs pairs f s public vs (inl (is, e)) = let same : s ≡ record { revs = vs; public = public } = cc in ap (λ (x : Said). x.revs) same
compared_revs pairs f s public vs (inr (never, e)) = absurd cc

told_births : (f : Front) (pairs : List Pair) (public : Bool) (rows : List Row) (s : Said) → (r : Row) (rs : List Row) → rows ≡ r ∷ rs → Told f pairs public rows (Ok s) → AreRevisions s.revs
told_births f pairs public rows s r rs some (revs, replays, h) =
    let t = then_ok revs (Compares pairs f public) s h in
    let is : Replays pairs [] (r ∷ rs) (Ok t.0) = subst (λ (k : List Row). Replays pairs [] k (Ok t.0)) some (subst (Replays pairs [] rows) t.1 replays) in
    subst AreRevisions (sym (compared_revs pairs f s public t.0 t.2)) (replayed_births pairs r rs t.0 is)

rest_births : (key : List ℕ) (d : Data) (f : Front) (pairs : List Pair) (s : Said) → Rest key d f pairs (Ok s) → AreRevisions s.revs
rest_births key d f pairs s h =
    let p = then_ok (public_in f.pad) (λ public. Then (rows_from key d 0 (suc f.head)) (Told f pairs public)) s h in
    let t = then_ok (rows_from key d 0 (suc f.head)) (Told f pairs p.0) s p.2 in
    let some = some_rows (row_at key 0 d) (λ r. rows_from key d 1 f.head) t.0 t.1 in
    told_births f pairs p.0 t.0 s some.0 some.1 some.2 t.2

pool_births : (key : List ℕ) (d : Data) (f : Front) (s : Said) → WithPool f.pool (Rest key d f) (Ok s) → AreRevisions s.revs
pool_births key d f s (pairs, pool, h) = let t = then_ok (of_pool pairs) (Rest key d f) s h in rest_births key d f t.0 s t.2

pub imported_births : (id : Text) (text : List ℕ) (s : Said) → Imports id text (Ok s) → AreRevisions s.revs
imported_births id text s h =
    let key = pad_key id in
    let j = then_ok (json_in text) (ReadsObject key) s h in
    let f = then_ok (front_in key j.0) (λ f. WithPool f.pool (Rest key j.0 f)) s j.2 in
    pool_births key j.0 f.0 s f.2
