-- The equations of a kept client, with no pad in sight; and edits that have become nothing.
use Rattle.std.proofs.Common.{◌≡◌, ℕ, zero, suc, ◌≤◌, Bool, true, false, not, ◌||◌, ◌==◌, nat_lt, if◌then◌else◌, List, [], ◌∷◌, ◌⊎◌, inl, inr, length, Option, Some, None, refl, sym, ap, ◌∙◌, subst, arith}
use Rattle.ep_units.specs.Text.{is_high}
use Rattle.ep_attr.proofs.SameMap.{first_true, second_true}
use Rattle.ep_cs.specs.Doc.{Doc, text_of}
use Rattle.ep_cs.specs.Edit.{Place, Edit, apply, compose, identity}
use Rattle.ep_cs.specs.Fits.{goes_on, keeps_pairs}
use Rattle.ep_cs.specs.Follow.{follow}
use Rattle.ep_cs.proofs.Composed.{apply-compose}
use Rattle.ep_cs.specs.EditFits.{fits}
use Rattle.ep_history.specs.History.{Birth, doc_at, head, is_session}
use Rattle.ep_history.specs.Kept.{IfKept, IsKeptSound, IsSpent, KeepsEquations, KeptClient, is_kept_elsewhere, is_kept_spent, kept_nop, kept_dropped, kept_edited, kept_other, kept_own, kept_submitted, kept_submitted_from}
use Rattle.ep_history.proofs.Lists.{none_some, at-some}
use Rattle.ep_cs.proofs.EditFits.{IsFit, fits_true, true_fits, fit-follow, fit-compose, both_ways, ends_well, ends-apply, fit-identity, follow-identity}
use Rattle.ep_cs.proofs.Identity.{apply-identity, only_identity}
use Rattle.ep_history.proofs.Births.{decide, IsGoodBirth}
use Rattle.ep_history.proofs.Client.{next-doc, next-rebase}
use Rattle.ep_units.specs.declared.session.Session.{Session}
use Rattle.ep_cs.specs.Fits.{is_identity}

not_or_false : (a : Bool) → (a || false) ≡ true → a ≡ true
not_or_false true e = refl
not_or_false false e = e

-- where some edit fits a document, its last unit is no first half
ends-pairs : (ps : List Place) (doc : Doc) → length doc ≡ length ps → keeps_pairs ps (text_of doc) ≡ true → ends_well doc ≡ true
ends-pairs ps [] n e = refl
ends-pairs [] (c ∷ doc) n e = absurd (omega (arith, n))
ends-pairs (p ∷ []) (c ∷ []) n e = not_or_false _ (first_true _ _ e)
ends-pairs (p ∷ (q ∷ ps)) (c ∷ []) n e = absurd (omega (arith, n))
ends-pairs (p ∷ []) (c ∷ (d ∷ doc)) n e = absurd (omega (arith, n))
ends-pairs (p ∷ (q ∷ ps)) (c ∷ (d ∷ doc)) n e = ends-pairs (q ∷ ps) (d ∷ doc) (omega (arith, n)) (second_true (not (is_high c.unit) || goes_on p.fate (q ∷ ps)) _ e)

pub fit-ends : (e : Edit) (doc : Doc) → IsFit e doc → ends_well doc ≡ true
fit-ends e doc f = ends-pairs e.places doc f.long f.pairs

nothing : (doc : Doc) → ends_well doc ≡ true → fits (identity (length doc)) doc ≡ true
nothing doc e = true_fits (identity (length doc)) doc (fit-identity doc e)

sound-edit : (k : KeptClient) (e : Edit) → IsKeptSound k → fits e k.view ≡ true → IsKeptSound (kept_edited e k)
sound-edit k e g h =
    let x = apply k.sent k.doc in
    let l = fits_true k.local x g.local_fits in
    let f : IsFit e (apply k.local x) = fits_true e (apply k.local x) (ap (fits e) (sym g.view) ∙ h) in
    record {
      sent_fits = g.sent_fits;
      local_fits = true_fits (compose k.local e) x (fit-compose k.local e x l f);
      view = ap (apply e) g.view ∙ sym (apply-compose k.local e x l.long);
      nothing_sent = g.nothing_sent;
    }

sound-submit : (k : KeptClient) → IsKeptSound k → IfKept (kept_submitted k)
sound-submit k g = connected k.connected
  where
    first : k.sent_in ≡ None → (t : Bool) → IfKept (if t then None else Some (record k { sent = k.local; sent_in = Some k.session; local = identity (length k.view) }))
    first n true = tt
    first n false =
        let d : apply k.sent k.doc ≡ k.doc = ap (λ x. apply x k.doc) (g.nothing_sent n) ∙ apply-identity k.doc in
        let l : IsFit k.local k.doc = subst (λ doc. IsFit k.local doc) d (fits_true k.local (apply k.sent k.doc) g.local_fits) in
        let v : k.view ≡ apply k.local k.doc = g.view ∙ ap (apply k.local) d in
        let w : ends_well k.view ≡ true = ap ends_well v ∙ ends-apply k.local k.doc l in
        record {
          sent_fits = true_fits k.local k.doc l;
          local_fits = ap (fits (identity (length k.view))) (sym v) ∙ nothing k.view w;
          view = v ∙ sym (ap (λ n. apply (identity n) (apply k.local k.doc)) (ap (λ (x : Doc). length x) v) ∙ apply-identity (apply k.local k.doc));
          nothing_sent = λ e. none_some (sym e);
        }

    again : (t : Bool) → IfKept (if t then None else Some (record k { sent_in = Some k.session }))
    again true = tt
    again false = record { sent_fits = g.sent_fits; local_fits = g.local_fits; view = g.view; nothing_sent = λ e. none_some (sym e) }

    from : (o : Option Session) → k.sent_in ≡ o → IfKept (kept_submitted_from k o)
    from None e = first e (is_identity k.local)
    from (Some s) e = again (is_session s k.session || nat_lt k.rev k.told)

    connected : (t : Bool) → IfKept (if t then kept_submitted_from k k.sent_in else None)
    connected true = from k.sent_in refl
    connected false = tt

sound-own : (k : KeptClient) → IsKeptSound k → IsKeptSound (kept_own k) × ((kept_own k).view ≡ k.view)
sound-own k g =
    let x = apply k.sent k.doc in
    let l = fits_true k.local x g.local_fits in
    let w = fit-ends k.local x l in (
      record {
        sent_fits = nothing x w;
        local_fits = ap (fits k.local) (apply-identity x) ∙ g.local_fits;
        view = g.view ∙ ap (apply k.local) (sym (apply-identity x));
        nothing_sent = λ e. refl;
      },
      refl,
    )

sound-other : (k : KeptClient) (e : Edit) → IsKeptSound k → fits e k.doc ≡ true → IsKeptSound (kept_other e k)
sound-other k e g h =
    let s = fits_true k.sent k.doc g.sent_fits in
    let l = fits_true k.local (apply k.sent k.doc) g.local_fits in
    let f = fits_true e k.doc h in
    let below = follow false k.sent e in
    let fb = fit-follow false k.sent e k.doc s f in
    let one : apply (follow true e k.sent) (apply e k.doc) ≡ apply below (apply k.sent k.doc) = both_ways true e k.sent k.doc f s in
    record {
      sent_fits = true_fits (follow true e k.sent) (apply e k.doc) (fit-follow true e k.sent k.doc f s);
      local_fits = true_fits (follow false below k.local) (apply (follow true e k.sent) (apply e k.doc))
          (subst (λ doc. IsFit (follow false below k.local) doc) (sym one) (fit-follow false below k.local (apply k.sent k.doc) fb l));
      view = ap (apply (follow true k.local below)) g.view
          ∙ sym (ap (apply (follow false below k.local)) one ∙ both_ways false below k.local (apply k.sent k.doc) fb l);
      nothing_sent = λ n. ap (follow true e) (g.nothing_sent n) ∙ follow-identity true e k.doc f.long;
    }

sound-nop : (k : KeptClient) → IsKeptSound k → is_identity k.sent ≡ true → IsKeptSound (kept_nop k)
sound-nop k g h = record {
  sent_fits = g.sent_fits;
  local_fits = g.local_fits;
  view = g.view;
  nothing_sent = λ n. only_identity k.sent h ∙ ap identity (sym (fits_true k.sent k.doc g.sent_fits).long);
}

sound-drop : (k : KeptClient) → IsKeptSound k → IsKeptSound (kept_dropped k)
sound-drop k g = go (is_kept_spent k) refl
  where
    go : (t : Bool) → is_kept_spent k ≡ t → IsKeptSound (if t then kept_nop k else k)
    go true h = sound-nop k g (second_true (is_kept_elsewhere k.session k.sent_in) _ (second_true (not (nat_lt k.rev k.told)) _ (second_true k.connected _ h)))
    go false h = g

pub equations : KeepsEquations
equations = record { edit = sound-edit; submit = sound-submit; own = sound-own; other = sound-other; nop = sound-nop; dropped = sound-drop }

-- ---- what has become nothing stays nothing

pub spent-next : (b : Birth) → IsGoodBirth b → (e : Edit) (base h : ℕ) → base ≤ h → suc h ≤ head b → IsSpent b e base h → IsSpent b e base (suc h)
spent-next b g e base h l m spent =
    let v = at-some b.later h (omega (arith, m)) in
    next-rebase b e base h v.0 v.1 l
    ∙ ap (follow true v.0.change.edit) spent
    ∙ follow-identity true v.0.change.edit (doc_at b h) (g.later h v.0 v.1).fit.long
    ∙ ap (λ (d : Doc). identity (length d)) (sym (next-doc b h v.0 v.1))

pub spent-stays : (b : Birth) → IsGoodBirth b → (e : Edit) (base h : ℕ) → base ≤ h → IsSpent b e base h → (k : ℕ) → h ≤ k → k ≤ head b → IsSpent b e base k
spent-stays b g e base h l spent zero p q = let z : h ≡ 0 = omega (arith, p) in subst (λ k. IsSpent b e base k) z spent
spent-stays b g e base h l spent (suc k) p q = go (decide h (suc k)) (λ r. spent-stays b g e base h l spent k r (omega (arith, q)))
  where
    go : (((h == suc k) ≡ true) × (h ≡ suc k)) ⊎ (((h == suc k) ≡ false) × (h ≡ suc k → ⊥)) → (h ≤ k → IsSpent b e base k) → IsSpent b e base (suc k)
    go (inl z) ih = subst (λ j. IsSpent b e base j) z.1 spent
    go (inr z) ih = let n = z.1 in let r : h ≤ k = omega (arith, n, p) in spent-next b g e base k (omega (arith, l, r)) q (ih r)
