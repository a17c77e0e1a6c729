-- What is known of the last revisions over any disk: they fit one after another.
use Rattle.std.proofs.Common.{◌≡◌, ℕ, zero, suc, List, [], ◌∷◌, ◌++◌, drop, slice_get, Option, Some, None, IfSome, unwrap_or, sym, ap, subst, ◌∙◌}
use Rattle.std.specs.Prelude.{MatchOption}
use Rattle.ep_cs.specs.Doc.{Doc}
use Rattle.ep_cs.specs.Edit.{apply}
use Rattle.ep_cs.specs.Fits.{Fits}
use Rattle.ep_history.specs.declared.rev.Rev.{Rev}
use Rattle.ep_history.specs.History.{newline}
use Rattle.ep_recent.specs.Recent.{Leads}
use Rattle.ep_recent.specs.Held.{AreLed}

abbrev Last : Type 0
Last = Rev × Option Doc

-- a document that is kept before the next revision is the head's
abbrev pub IsHead : Option Doc → Option Doc → Type 0
IsHead before last = IfSome before (λ d. last ≡ Some d)

same_doc : {a b : Doc} → ◌≡◌ {A = Option Doc} (Some a) (Some b) → a ≡ b
same_doc {b = b} e = ap (λ o. unwrap_or o b) e

kept_is : (before last : Option Doc) (x : Doc) → IsHead before last → last ≡ Some x → IfSome before (λ d. d ≡ x)
kept_is None last x is e = tt
kept_is (Some d) last x is e = same_doc (sym is ∙ e)

-- one revision more
leads_more : (x : Doc) (es : List Last) (last : Option Doc) (v : Rev) (before : Option Doc) (doc : Doc) → Leads x es last → IsHead before last → Fits v.change (unwrap_or last newline) → doc ≡ apply v.change.edit (unwrap_or last newline)
    → Leads x (es ++ (v, before) ∷ []) (Some doc)
leads_more x [] last v before doc h is fits made =
    let head : unwrap_or last newline ≡ x = ap (λ o. unwrap_or o newline) h in
    (kept_is before last x is h, subst (Fits v.change) head fits, ap Some (made ∙ ap (apply v.change.edit) head))
leads_more x (e ∷ es) last v before doc h is fits made = (h.0, h.1, leads_more (apply e.0.change.edit x) es last v before doc h.2 is fits made)

first_kept : (last : Option Doc) (v : Rev) (before : Option Doc) (doc : Doc) → IsHead before last → Fits v.change (unwrap_or last newline) → doc ≡ apply v.change.edit (unwrap_or last newline) → AreLed ((v, before) ∷ []) (Some doc)
first_kept last v None doc is fits made = tt
first_kept last v (Some d) doc is fits made = leads_more d [] last v (Some d) doc is is fits made

pub led_more : (es : List Last) (last : Option Doc) (v : Rev) (before : Option Doc) (doc : Doc) → AreLed es last → IsHead before last → Fits v.change (unwrap_or last newline) → doc ≡ apply v.change.edit (unwrap_or last newline)
    → AreLed (es ++ (v, before) ∷ []) (Some doc)
led_more [] last v before doc h is fits made = first_kept last v before doc is fits made
led_more (e ∷ es) last v before doc h is fits made = by e.1 h (λ k. led_more es last v before doc k is fits made) (λ d k. leads_more d (e ∷ es) last v before doc k is fits made)
  where
    by : (o : Option Doc) → MatchOption o (AreLed es last) (λ d. Leads d (e ∷ es) last) → (AreLed es last → AreLed (es ++ (v, before) ∷ []) (Some doc))
        → ((d : Doc) → Leads d (e ∷ es) last → Leads d (e ∷ (es ++ (v, before) ∷ [])) (Some doc))
        → MatchOption o (AreLed (es ++ (v, before) ∷ []) (Some doc)) (λ d. Leads d (e ∷ (es ++ (v, before) ∷ [])) (Some doc))
    by None k later now = later k
    by (Some d) k later now = now d k

-- the first one less
led_from : (x : Doc) (es : List Last) (head : Option Doc) → Leads x es head → AreLed es head
led_from x [] head h = tt
led_from x (e ∷ es) head h = by e.1 h.0 (led_from (apply e.0.change.edit x) es head h.2)
  where
    by : (o : Option Doc) → IfSome o (λ b. b ≡ x) → AreLed es head → MatchOption o (AreLed es head) (λ d. Leads d (e ∷ es) head)
    by None s later = later
    by (Some d) s later = subst (λ (y : Doc). Leads y (e ∷ es) head) (sym s) h

pub led_less : (e : Last) (es : List Last) (head : Option Doc) → AreLed (e ∷ es) head → AreLed es head
led_less e es head h = by e.1 h
  where
    by : (o : Option Doc) → MatchOption o (AreLed es head) (λ d. Leads d (e ∷ es) head) → AreLed es head
    by None k = k
    by (Some d) k = led_from (apply e.0.change.edit d) es head k.2

same_last : {a b : Last} → ◌≡◌ {A = Option Last} (Some a) (Some b) → a ≡ b
same_last {b = b} e = ap (λ o. unwrap_or o b) e

-- from a document that is kept on
pub led_at : (es : List Last) (i : ℕ) (v : Rev) (d : Doc) (head : Option Doc) → AreLed es head → slice_get es i ≡ Some (v, Some d) → Leads d (drop i es) head
led_at [] i v d head h e = absurd cc
led_at (x ∷ es) zero v d head h e =
    let here : x ≡ (v, Some d) = same_last e in
    subst (λ (o : Option Doc). MatchOption o (AreLed es head) (λ b. Leads b (x ∷ es) head)) (ap (λ (y : Last). y.1) here) h
led_at (x ∷ es) (suc i) v d head h e = led_at es i v d head (led_less x es head h) e

-- a step from there
pub leads_on : (es : List Last) (i : ℕ) (v : Rev) (before : Option Doc) (d : Doc) (head : Option Doc) → slice_get es i ≡ Some (v, before) → Leads d (drop i es) head
    → Fits v.change d × Leads (apply v.change.edit d) (drop (suc i) es) head
leads_on [] i v before d head e h = absurd cc
leads_on (x ∷ es) zero v before d head e h =
    let here : x.0 ≡ v = ap (λ (y : Last). y.0) (same_last e) in (
      subst (λ (w : Rev). Fits w.change d) here h.1,
      subst (λ (w : Rev). Leads (apply w.change.edit d) es head) here h.2,
    )
leads_on (x ∷ es) (suc i) v before d head e h = leads_on es i v before d head e h
