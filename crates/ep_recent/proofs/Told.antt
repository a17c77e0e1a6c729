-- What the calls tell, of what code holds.
use Rattle.std.proofs.Common.{◌≡◌, ℕ, zero, suc, ◌+◌, ◌-◌, ◌≤◌, ◌<◌, Bool, true, false, List, [], ◌∷◌, ◌++◌, map, length, drop, get_or, slice_get, Option, Some, None, IfSome, is_some, nat_lt, unwrap_or, option_map, Bor, refl, sym, ap, subst, ◌∙◌, arith}
use Rattle.std.proofs.lemmas.List.{map-append, length-map}
use Rattle.std.proofs.lemmas.Option.{slice_get-map, slice_get-get_or, slice_get_past}
use Rattle.std.proofs.lemmas.Bool.{ltb-true, ltb-false}
use Rattle.ep_cs.specs.Doc.{Doc}
use Rattle.ep_cs.specs.Edit.{apply}
use Rattle.ep_cs.specs.Fits.{Fits}
use Rattle.ep_history.specs.Lists.{at}
use Rattle.ep_history.specs.declared.rev.Rev.{Rev}
use Rattle.ep_history.specs.History.{newline, made}
use Rattle.ep_history.proofs.Client.{made-push}
use Rattle.ep_recent.specs.Recent.{LastRevs, AreFrom, AreLastOf, Leads, IsKeptAt, count_of, doc_before, head_of}
use Rattle.ep_recent.specs.Held.{AreLed, entry, held}
use Rattle.ep_recent.specs.declared.recent.Recent.TheInside as recent
use Rattle.std.specs.VecDeque.{deque_len}
use Rattle.ep_recent.specs.declared.recent.Kept.{Kept}
use Rattle.ep_recent.proofs.From.{from_more, from_at, before_next}
use Rattle.ep_recent.proofs.Led.{IsHead, led_more, led_less, led_at, leads_on}

abbrev Last : Type 0
Last = Rev × Option Doc

-- ---- one revision more

abbrev pub kept_of : Rev → Option Doc → Kept
kept_of v before = record { rev = v; before = before }

pub entries_more : (old new : List Kept) (v : Rev) (before : Option Doc) → new ≡ old ++ kept_of v before ∷ [] → map entry new ≡ map entry old ++ (v, before) ∷ []
entries_more old new v before e = ap (map entry) e ∙ map-append entry old (kept_of v before ∷ [])

pub push_led : (old new : List Kept) (last before head : Option Doc) (v : Rev) (doc : Doc) → new ≡ old ++ kept_of v before ∷ [] → AreLed (map entry old) last → IsHead before last
    → Fits v.change (unwrap_or last newline) → doc ≡ apply v.change.edit (unwrap_or last newline) → head ≡ Some doc → AreLed (map entry new) head
push_led old new last before head v doc e led is fits made put =
    subst (AreLed (map entry new)) (sym put)
    (subst (λ (es : List Last). AreLed es (Some doc)) (sym (entries_more old new v before e)) (led_more (map entry old) last v before doc led is fits made))

pub push_last : (old new : LastRevs) (vs : List Rev) (v : Rev) (before : Option Doc) (doc : Doc) → new.first ≡ old.first → new.kept ≡ old.kept ++ (v, before) ∷ [] → new.head ≡ Some doc → IsHead before old.head
    → doc ≡ apply v.change.edit (head_of old) → AreLastOf old vs → AreLastOf new (vs ++ v ∷ [])
push_last old new vs v before doc first kept head is doc_is h = record {
  kept = subst (λ (n : ℕ). AreFrom (vs ++ v ∷ []) n new.kept) (sym first)
      (subst (AreFrom (vs ++ v ∷ []) old.first) (sym kept) (from_more vs old.first old.kept old.head v before h.kept h.head is));
  head = ap (λ o. unwrap_or o newline) head ∙ doc_is ∙ ap (apply v.change.edit) h.head ∙ sym (made-push newline vs v);
}

-- ---- the first one less

pub leave_led : (old new : List Kept) (k : Kept) (head : Option Doc) → old ≡ k ∷ new → AreLed (map entry old) head → AreLed (map entry new) head
leave_led old new k head e led = led_less (entry k) (map entry new) head (subst (λ (ks : List Kept). AreLed (map entry ks) head) e led)

pub leave_last : (old new : LastRevs) (vs : List Rev) (e : Last) → old.kept ≡ e ∷ new.kept → new.first ≡ old.first + 1 → new.head ≡ old.head → AreLastOf old vs → AreLastOf new vs
leave_last old new vs e kept first head h =
    let all : AreFrom vs old.first (e ∷ new.kept) = subst (AreFrom vs old.first) kept h.kept in
    let next : suc old.first ≡ new.first = omega (arith, first) in
    record { kept = subst (λ (n : ℕ). AreFrom vs n new.kept) next all.2; head = ap (λ o. unwrap_or o newline) head ∙ h.head }

pub leave_first : (old : LastRevs) (rest : List Last) (e : Last) (vs : List Rev) → old.kept ≡ e ∷ rest → AreLastOf old vs → at vs old.first ≡ Some e.0
leave_first old rest e vs kept h =
    let all : AreFrom vs old.first (e ∷ rest) = subst (AreFrom vs old.first) kept h.kept in
    all.0

-- ---- one that is kept

pub entry_at : (ks : List Kept) (es : List Last) (i : ℕ) (r : Option (Bor Kept)) → map entry ks ≡ es → is_some r ≡ nat_lt i (length ks) → IfSome r (λ x. x.now ≡ get_or ks i x.now)
    → option_map (λ k. (k.now.rev, k.now.before)) r ≡ slice_get es i
entry_at ks es i None same is look =
    let past : slice_get ks i ≡ None = slice_get_past ks i (ltb-false i (length ks) (sym is)) in
    sym (ap (option_map entry) past) ∙ sym (slice_get-map entry ks i) ∙ ap (λ (l : List Last). slice_get l i) same
entry_at ks es i (Some x) same is look =
    let there : slice_get ks i ≡ Some x.now = slice_get-get_or ks i x.now (ltb-true i (length ks) (sym is)) ∙ ap Some (sym look) in
    sym (ap (option_map entry) there) ∙ sym (slice_get-map entry ks i) ∙ ap (λ (l : List Last). slice_get l i) same

pub index_at : (ks : List Kept) (es : List Last) (i : ℕ) (x : Kept) → map entry ks ≡ es → i < length ks → x ≡ get_or ks i x → slice_get es i ≡ Some (x.rev, x.before)
index_at ks es i x same lt look =
    let there : slice_get ks i ≡ Some x = slice_get-get_or ks i x lt ∙ ap Some (sym look) in
    ap (λ (l : List Last). slice_get l i) (sym same) ∙ slice_get-map entry ks i ∙ ap (option_map entry) there

pub found_is : (k : LastRevs) (vs : List Rev) (i : ℕ) (v : Rev) (before : Option Doc) → k.first ≤ i → slice_get k.kept (i - k.first) ≡ Some (v, before) → AreLastOf k vs → at vs i ≡ Some v
found_is k vs i v before le there h =
    let same : k.first + (i - k.first) ≡ i = omega (arith, le) in
    ap (at vs) (sym same) ∙ (from_at vs k.first k.kept (i - k.first) v before h.kept there).0

pub is_past : (es : List Last) (i : ℕ) → slice_get es i ≡ None → (length es ≤ i)
is_past [] i e = omega arith
is_past (x ∷ es) zero e = absurd cc
is_past (x ∷ es) (suc i) e = let rest = is_past es i e in omega (arith, rest)

-- ---- the document before one

-- this is the document before the revision at a place, or behind the last one, and from there on each fits
abbrev pub IsMade : LastRevs → ℕ → Doc → Type 0
IsMade k i d = Leads d (drop i k.kept) k.head × ((vs : List Rev) → AreLastOf k vs → d ≡ doc_before vs (k.first + i))

pub made_from : (k : LastRevs) (i : ℕ) (d : Doc) → AreLed k.kept k.head → IsKeptAt k.kept i d → IsMade k i d
made_from k i d led is = (
  led_at k.kept i is.0 d k.head led is.1,
  λ vs h. (from_at vs k.first k.kept i is.0 (Some d) h.kept is.1).1,
)

pub made_fits : (k : LastRevs) (i : ℕ) (v : Rev) (before : Option Doc) (d : Doc) → IsMade k i d → slice_get k.kept i ≡ Some (v, before) → Fits v.change d
made_fits k i v before d m e = (leads_on k.kept i v before d k.head e m.0).0

pub made_next : (k : LastRevs) (i : ℕ) (v : Rev) (before : Option Doc) (d after : Doc) → IsMade k i d → slice_get k.kept i ≡ Some (v, before) → after ≡ apply v.change.edit d → IsMade k (i + 1) after
made_next k i v before d after m e made_by =
    let on = leads_on k.kept i v before d k.head e m.0 in
    let more : suc i ≡ i + 1 = omega arith in
    let same : suc (k.first + i) ≡ k.first + (i + 1) = omega arith in (
      subst (λ (x : Doc). Leads x (drop (i + 1) k.kept) k.head) (sym made_by) (subst (λ (n : ℕ). Leads (apply v.change.edit d) (drop n k.kept) k.head) more on.1),
      λ vs h.
          made_by ∙ ap (apply v.change.edit) (m.1 vs h) ∙ sym (before_next newline vs (k.first + i) v (from_at vs k.first k.kept i v before h.kept e).0) ∙ ap (doc_before vs) same,
    )

-- ---- none

-- what holds from a place on holds from the one before it on
pub from_before : (P : ℕ → Type 0) (i end : ℕ) → 0 < i → ((j : ℕ) → i ≤ j → j < end → P j) → P (i - 1) → (j : ℕ) → i - 1 ≤ j → j < end → P j
from_before P i end some later here j low high = by (nat_lt j i) refl
  where
    by : (b : Bool) → nat_lt j i ≡ b → P j
    by true t =
        let lt : j < i = ltb-true j i t in
        let same : i - 1 ≡ j = omega (arith, lt, low, some) in
        subst P same here
    by false f = later j (ltb-false j i f) high

-- ---- what is held

pub count_held : (r : recent.Inside) (k : LastRevs) → held r ≡ k → r.first + deque_len r.kept ≡ count_of k
count_held r k e = ap (λ n. r.first + n) (r.kept.ok.0 ∙ sym (length-map r.kept.items entry)) ∙ ap count_of e

pub led_held : (r : recent.Inside) (k : LastRevs) → held r ≡ k → AreLed (map entry r.kept.items) r.head → AreLed k.kept k.head
led_held r k e = subst (λ (x : LastRevs). AreLed x.kept x.head) e
