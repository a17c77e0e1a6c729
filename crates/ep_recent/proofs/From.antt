-- The last revisions as those of a list.
use Rattle.std.proofs.Common.{◌≡◌, ℕ, zero, suc, ◌+◌, ◌≤◌, ◌<◌, List, [], ◌∷◌, ◌++◌, length, take, slice_get, Option, Some, None, IfSome, unwrap_or, refl, sym, ap, subst, ◌∙◌, arith, length-append}
use Rattle.std.proofs.lemmas.List.{take_all, take-append-le}
use Rattle.ep_cs.specs.Doc.{Doc}
use Rattle.ep_cs.specs.Edit.{apply}
use Rattle.ep_history.specs.Lists.{at}
use Rattle.ep_history.specs.declared.rev.Rev.{Rev}
use Rattle.ep_history.specs.History.{newline, made}
use Rattle.ep_history.proofs.Lists.{none_some, some_same, at-below, at-left}
use Rattle.ep_recent.specs.Recent.{AreFrom, doc_before}

abbrev Last : Type 0
Last = Rev × Option Doc

-- the revision that was pushed
at_end : (vs : List Rev) (v : Rev) → at (vs ++ v ∷ []) (length vs) ≡ Some v
at_end [] v = refl
at_end (u ∷ vs) v = at_end vs v

-- earlier documents stay
before_stays : (vs : List Rev) (v : Rev) (n : ℕ) → n ≤ length vs → doc_before (vs ++ v ∷ []) n ≡ doc_before vs n
before_stays vs v n le = ap (made newline) (take-append-le n vs (v ∷ []) le)

kept_stays : (vs : List Rev) (v : Rev) (n : ℕ) (before : Option Doc) → n ≤ length vs → IfSome before (λ d. d ≡ doc_before vs n) → IfSome before (λ d. d ≡ doc_before (vs ++ v ∷ []) n)
kept_stays vs v n None le is = tt
kept_stays vs v n (Some d) le is = is ∙ sym (before_stays vs v n le)

kept_last : (vs : List Rev) (last before : Option Doc) (d : Doc) → unwrap_or last newline ≡ made newline vs → IfSome before (λ x. last ≡ Some x) → IfSome before (λ x. x ≡ doc_before vs (length vs))
kept_last vs last None d head is = tt
kept_last vs last (Some x) d head is =
    ap (λ o. unwrap_or o newline) (sym is) ∙ head ∙ ap (made newline) (sym (take_all (length vs) vs (omega arith)))

-- one revision more
pub from_more : (vs : List Rev) (n : ℕ) (es : List Last) (last : Option Doc) (v : Rev) (before : Option Doc) → AreFrom vs n es → unwrap_or last newline ≡ made newline vs → IfSome before (λ x. last ≡ Some x)
    → AreFrom (vs ++ v ∷ []) n (es ++ (v, before) ∷ [])
from_more vs n [] last v before h head is = (
  ap (at (vs ++ v ∷ [])) h ∙ at_end vs v,
  kept_stays vs v n before (omega (arith, h)) (subst (λ (k : ℕ). IfSome before (λ x. x ≡ doc_before vs k)) (sym h) (kept_last vs last before newline head is)),
  ap suc h ∙ sym (length-append vs (v ∷ []) ∙ omega arith),
)
from_more vs n (e ∷ es) last v before h head is =
    let below : n < length vs = at-below vs n e.0 h.0 in (
      at-left vs (v ∷ []) n e.0 h.0,
      kept_stays vs v n e.1 (omega (arith, below)) h.1,
      from_more vs (suc n) es last v before h.2 head is,
    )

-- the one at a place
pub from_at : (vs : List Rev) (n : ℕ) (es : List Last) (i : ℕ) (v : Rev) (before : Option Doc) → AreFrom vs n es → slice_get es i ≡ Some (v, before) → (at vs (n + i) ≡ Some v) × IfSome before (λ d. d ≡ doc_before vs (n + i))
from_at vs n [] i v before h e = absurd cc
from_at vs n (x ∷ es) zero v before h e =
    let here : x ≡ (v, before) = ap (λ o. unwrap_or o (v, before)) e in
    let same : n ≡ n + 0 = omega arith in
    subst (λ (k : ℕ). (at vs k ≡ Some v) × IfSome before (λ d. d ≡ doc_before vs k)) same
    (h.0 ∙ ap (λ (y : Last). Some y.0) here, subst (λ (o : Option Doc). IfSome o (λ d. d ≡ doc_before vs n)) (ap (λ (y : Last). y.1) here) h.1)
from_at vs n (x ∷ es) (suc i) v before h e =
    let on = from_at vs (suc n) es i v before h.2 e in
    let same : suc n + i ≡ n + suc i = omega arith in
    subst (λ (k : ℕ). (at vs k ≡ Some v) × IfSome before (λ d. d ≡ doc_before vs k)) same on

-- how many they are
pub from_count : (vs : List Rev) (n : ℕ) (es : List Last) → AreFrom vs n es → n + length es ≡ length vs
from_count vs n [] h = omega (arith, h)
from_count vs n (x ∷ es) h = let on = from_count vs (suc n) es h.2 in omega (arith, on)

-- the document behind a revision
pub before_next : (doc : Doc) (vs : List Rev) (n : ℕ) (v : Rev) → at vs n ≡ Some v → made doc (take (suc n) vs) ≡ apply v.change.edit (made doc (take n vs))
before_next doc [] n v e = none_some e
before_next doc (u ∷ vs) zero v e = ap (λ (w : Rev). apply w.change.edit doc) (some_same e)
before_next doc (u ∷ vs) (suc n) v e = before_next (apply u.change.edit doc) vs n v e
