-- No text has two answers.
use Rattle.std.proofs.Common.{◌≡◌, ℕ, suc, Bool, true, false, List, [], ◌∷◌, ◌++◌, inl, inr, Result, Ok, Err, Some, sym, ap, subst, ◌∙◌}
use Rattle.serde_json.specs.Data.{Data}
use Rattle.ep_units.specs.Text.{Text}
use Rattle.ep_attr.specs.AttrMap.{Pair}
use Rattle.ep_pool.specs.declared.from_json.PoolBad.{PoolBad}
use Rattle.ep_pool.proofs.Back as pools
use Rattle.ep_history.specs.declared.rev.Rev.{Rev}
use Rattle.ep_wire_words.specs.Pools.{IsPoolRead}
use Rattle.ep_export.specs.Keys.{pad_key}
use Rattle.ep_import.specs.declared.bad.ImportBad.{ImportBad}
use Rattle.ep_import.specs.Answer.{Then}
use Rattle.ep_import.specs.Imported.{Compares, Ends, Front, Imports, ReadsObject, Replays, Rest, Row, Said, Told, WithPool, front_in, json_in, of_pool, public_in, rows_from}

abbrev HasOne : {A : Type 0} → (Result A ImportBad → Type 0) → Type 0
HasOne {A} Reads = (a b : Result A ImportBad) → Reads a → Reads b → a ≡ b

then_once : {A B : Type 0} (read : Result A ImportBad) (Next : A → Result B ImportBad → Type 0) → ((x : A) → HasOne (Next x)) → HasOne (Then read Next)
then_once (Ok x) Next once a b h k = once x a b h k
then_once (Err why) Next once a b h k = h ∙ sym k

pool_once : (d : Data) (r s : Result (List Pair) PoolBad) → IsPoolRead d r → IsPoolRead d s → r ≡ s
pool_once d (Ok ps) (Ok qs) h k = ap Ok (pools.one d ps qs h.0 k.0)
pool_once d (Ok ps) (Err e) h k = absurd (pools.either d ps e h.1 h.0 k)
pool_once d (Err e) (Ok qs) h k = absurd (pools.either d qs e k.1 k.0 h)
pool_once d (Err e) (Err f) h k = ap Err (pools.one_cause d e f h k)

with_once : {A : Type 0} (d : Data) (Next : List Pair → Result A ImportBad → Type 0) → ((pairs : List Pair) → HasOne (Next pairs)) → HasOne (WithPool d Next)
with_once d Next once a b (r, h, k) (s, l, m) = then_once (of_pool r) Next once a b k (subst (λ t. Then (of_pool t) Next b) (pool_once d s r l h) m)

ends_once : (vs : List Rev) → HasOne (Ends vs)
ends_once vs a b (inl (line, e)) (inl (also, f)) = e ∙ sym f
ends_once vs a b (inl (line, e)) (inr (other, f)) = let bad : true ≡ false = sym other ∙ line in absurd (cc)
ends_once vs a b (inr (line, e)) (inl (other, f)) = let bad : true ≡ false = sym line ∙ other in absurd (cc)
ends_once vs a b (inr (line, e)) (inr (also, f)) = e ∙ sym f

replays_once : (pairs : List Pair) (vs : List Rev) (rows : List Row) → HasOne (Replays pairs vs rows)
replays_once pairs vs [] a b h k = ends_once vs a b h k
replays_once pairs vs (r ∷ rs) a b (inl (v, s, h)) (inl (w, t, k)) =
    let both : Some w ≡ Some v = sym t.0 ∙ s.0 in
    let same : w ≡ v = cc in
    replays_once pairs (vs ++ v ∷ []) rs a b h (subst (λ x. Replays pairs (vs ++ x ∷ []) rs b) same k)
replays_once pairs vs (r ∷ rs) a b (inl (v, s, h)) (inr (none, f)) = absurd (none v s)
replays_once pairs vs (r ∷ rs) a b (inr (none, e)) (inl (w, t, k)) = absurd (none w t)
replays_once pairs vs (r ∷ rs) a b (inr (none, e)) (inr (also, f)) = e ∙ sym f

compares_once : (pairs : List Pair) (f : Front) (public : Bool) (vs : List Rev) → HasOne (Compares pairs f public vs)
compares_once pairs f public vs a b (inl (is, e)) (inl (also, g)) = e ∙ sym g
compares_once pairs f public vs a b (inl (is, e)) (inr (never, g)) = absurd (never is)
compares_once pairs f public vs a b (inr (never, e)) (inl (is, g)) = absurd (never is)
compares_once pairs f public vs a b (inr (never, e)) (inr (also, g)) = e ∙ sym g

told_once : (f : Front) (pairs : List Pair) (public : Bool) (rows : List Row) → HasOne (Told f pairs public rows)
told_once f pairs public rows a b (r, h, k) (s, l, m) =
    then_once r (Compares pairs f public) (compares_once pairs f public) a b k (subst (λ t. Then t (Compares pairs f public) b) (replays_once pairs [] rows s r l h) m)

rest_once : (key : List ℕ) (d : Data) (f : Front) (pairs : List Pair) → HasOne (Rest key d f pairs)
rest_once key d f pairs a b h k =
    then_once (public_in f.pad) (λ public. Then (rows_from key d 0 (suc f.head)) (Told f pairs public)) (λ public. then_once (rows_from key d 0 (suc f.head)) (Told f pairs public) (told_once f pairs public)) a b h k

object_once : (key : List ℕ) (d : Data) → HasOne (ReadsObject key d)
object_once key d a b h k = then_once (front_in key d) (λ f. WithPool f.pool (Rest key d f)) (λ f. with_once f.pool (Rest key d f) (rest_once key d f)) a b h k

pub imports_once : (id : Text) (text : List ℕ) (a b : Result Said ImportBad) → Imports id text a → Imports id text b → a ≡ b
imports_once id text a b h k = then_once (json_in text) (ReadsObject (pad_key id)) (object_once (pad_key id)) a b h k
