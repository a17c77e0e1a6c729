-- The gate behind records, and the records behind it.
use Rattle.std.proofs.Common.{◌≡◌, ℕ, ◌+◌, ◌<◌, Bool, true, false, List, [], ◌∷◌, ◌++◌, length, take, drop, get_or, Option, Some, None, refl, sym, ap, ◌∙◌, arith}
use Rattle.std.specs.Prelude.{◌&&◌, nat_lt, if◌then◌else◌}
use Rattle.std.proofs.lemmas.List.{take_more}
use Rattle.ep_journal.specs.File.{closed_gate, end_of, header, records_of, stands_for}
use Rattle.ep_journal.proofs.Append.{end_push}
use Rattle.ep_verify.specs.Verdicts.{behind}
use Rattle.ep_verify.proofs.Rereading.{journal}

-- the gate behind one record more
pub gate_more : (rs : List (List ℕ)) (i gate next n : ℕ) → i < length rs → gate ≡ end_of 8 (take i rs) → n ≡ length (get_or rs i []) → next ≡ gate + n + 5 → next ≡ end_of 8 (take (i + 1) rs)
gate_more rs i gate next n lt at size is =
    let more : end_of 8 (take (i + 1) rs) ≡ end_of 8 (take i rs) + 5 + length (get_or rs i []) = ap (λ (l : List (List ℕ)). end_of 8 l) (take_more rs i [] lt) ∙ end_push 8 (take i rs) (get_or rs i []) in
    omega (arith, more, at, size, is)

-- what begins with a header and a gate is a journal
opened : (tail : List ℕ) → stands_for (header ++ 1 ∷ tail) ≡ Some (records_of (header ++ 1 ∷ tail))
opened tail = go (nat_lt 9 (length (header ++ 1 ∷ tail)))
  where
    go : (b : Bool) → (if b && false then None else Some (records_of (header ++ 1 ∷ tail))) ≡ Some (records_of (header ++ 1 ∷ tail))
    go true = refl
    go false = refl

pub not_opened : (tail : List ℕ) → None ≡ stands_for (header ++ 1 ∷ tail) → ⊥
not_opened tail is =
    let no : None ≡ Some (records_of (header ++ 1 ∷ tail)) = is ∙ opened tail in
    absurd (cc)

pub counted : (file tail : List ℕ) (records found : List (List ℕ)) (gate : ℕ) → stands_for file ≡ Some records → gate ≡ end_of 8 records → tail ≡ drop (gate + 1) file → Some found ≡ stands_for (header ++ 1 ∷ tail) → length found ≡ behind file
counted file tail records found gate stands at is scanned =
    let whole : Some found ≡ Some (records_of (header ++ 1 ∷ tail)) = scanned ∙ opened tail in
    let same : found ≡ records_of (header ++ 1 ∷ tail) = cc in
    let closed : gate ≡ closed_gate file = at ∙ ap (λ (l : List (List ℕ)). end_of 8 l) (sym (journal file records stands).are) in
    let rest : tail ≡ drop (closed_gate file + 1) file = is ∙ ap (λ (k : ℕ). drop (k + 1) file) closed in
    ap length same ∙ ap (λ (l : List ℕ). length (records_of (header ++ 1 ∷ l))) rest
