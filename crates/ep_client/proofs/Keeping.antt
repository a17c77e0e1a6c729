-- What the changes and documents of a client are after each of its steps.
use Rattle.std.proofs.Common.{◌≡◌, Bool, true, false, cond, not, [], ◌∷◌, length, Some, None, if◌then◌else◌, refl, sym, ap, ◌∙◌, subst}
use Rattle.ep_units.specs.Text.{is_high, is_low, is_paired}
use Rattle.ep_attr.proofs.SameMap.{first_true, second_true}
use Rattle.ep_cs.specs.Doc.{Doc, text_of}
use Rattle.ep_cs.specs.Edit.{Edit, apply, identity}
use Rattle.ep_cs.specs.Change.{Change, stamped, newlines}
use Rattle.ep_cs.specs.Fits.{Fits, keeps_pairs, is_identity}
use Rattle.ep_cs.specs.Follow.{follow}
use Rattle.ep_cs.proofs.Composed.{apply-compose}
use Rattle.ep_cs.proofs.Diamond.{diamond}
use Rattle.ep_cs.proofs.Packings.{identity_runs}
use Rattle.ep_apply.specs.Documents.{IsDocument}
use Rattle.ep_compose.specs.Composed.{composed}
use Rattle.ep_client.specs.declared.client.Client.TheInside as client
use Rattle.ep_client.specs.Held.{IsHeld}
use Rattle.ep_history.specs.Kept.{KeptClient, kept_submitted, kept_submitted_from}
use Rattle.ep_cs.proofs.EditFits.{ends_well, fit-identity, follow-identity}
use Rattle.ep_cs.proofs.Identity.{apply-identity, only_identity}

ends-paired : (half : Bool) (doc : Doc) → is_paired half (text_of doc) ≡ true → ends_well doc ≡ true
ends-paired half [] e = refl
ends-paired half (c ∷ []) e = second_true (cond half (is_low c.unit) (not (is_low c.unit))) _ e
ends-paired half (c ∷ (d ∷ doc)) e = ends-paired (is_high c.unit) (d ∷ doc) (second_true (cond half (is_low c.unit) (not (is_low c.unit))) _ e)

pub document-ends : (doc : Doc) → IsDocument doc → ends_well doc ≡ true
document-ends doc d = ends-paired false doc (first_true _ _ d.pairs)

-- the change that alters nothing fits every document of its length
pub fits-identity : (c : Change) (doc : Doc) → c.edit ≡ identity (length doc) → c.runs ≡ [] → IsDocument doc → Fits c doc
fits-identity c doc e r d =
    let f = fit-identity doc (document-ends doc d) in
    record {
      length = f.long ∙ ap (λ (x : Edit). length x.places) (sym e);
      runs = r ∙ sym (ap (λ x. (stamped x (text_of doc)).runs) e ∙ identity_runs (length doc) (newlines (text_of doc)));
      pairs = ap (λ (x : Edit). keeps_pairs x.places (text_of doc)) e ∙ f.pairs;
    }

pub nothing-applied : (c : Change) (doc : Doc) → c.edit ≡ identity (length doc) → apply c.edit doc ≡ doc
nothing-applied c doc e = ap (λ x. apply x doc) e ∙ apply-identity doc

pub composed-view : (local c new : Change) (doc view view' : Doc) → Fits local doc → view ≡ apply local.edit doc → view' ≡ apply c.edit view → new ≡ composed local c doc → view' ≡ apply new.edit doc
composed-view local c new doc view view' f e e' n =
    e' ∙ ap (apply c.edit) e ∙ sym (apply-compose local.edit c.edit doc f.length) ∙ ap (λ (x : Change). apply x.edit doc) (sym n)

-- the two ways to make both
pub meet : (side : Bool) (a b : Edit) (doc : Doc) → length doc ≡ length a.places → length doc ≡ length b.places
    → apply (follow side a b) (apply a doc) ≡ apply (follow (not side) b a) (apply b doc)
meet side a b doc f g =
    sym (apply-compose a (follow side a b) doc f)
    ∙ ap (λ e. apply e doc) (diamond side a b (sym f ∙ g))
    ∙ apply-compose b (follow (not side) b a) doc g

pub held-start : (c : client.Inside) → c.sent.edit ≡ identity (length c.doc) → c.local.edit ≡ identity (length c.doc) → Fits c.sent c.doc → Fits c.local c.doc → c.view ≡ c.doc → IsHeld c
held-start c s l f g v =
    let n = nothing-applied c.sent c.doc s in
    record {
      sent = f;
      local = subst (λ d. Fits c.local d) (sym n) g;
      view = v ∙ sym (ap (apply c.local.edit) n ∙ nothing-applied c.local c.doc l);
      nothing_sent = λ h. s;
    }

-- what was not submitted is submitted
pub held-first : (c new : client.Inside) → IsHeld c → c.sent_in ≡ None → (new.sent_in ≡ None → ⊥) → new.doc ≡ c.doc → new.view ≡ c.view → new.sent ≡ c.local → new.local.edit ≡ identity (length c.view) → Fits new.local c.view → IsHeld new
held-first c new h none some d v s l f =
    let n = nothing-applied c.sent c.doc (h.nothing_sent none) in
    let view : c.view ≡ apply c.local.edit c.doc = h.view ∙ ap (apply c.local.edit) n in
    let made : apply new.sent.edit new.doc ≡ c.view = (λ i. apply (s i).edit (d i)) ∙ sym view in
    record {
      sent = subst (λ (x : Change × Doc). Fits x.0 x.1) (λ i. (sym s i, sym d i)) (subst (λ d. Fits c.local d) n h.local);
      local = subst (λ d. Fits new.local d) (sym made) f;
      view = v ∙ sym (ap (apply new.local.edit) made ∙ nothing-applied new.local c.view l);
      nothing_sent = λ e. absurd (some e);
    }

-- the submission is part of the document
pub held-own : (c new : client.Inside) → IsHeld c → new.doc ≡ apply c.sent.edit c.doc → new.view ≡ c.view → new.local ≡ c.local → new.sent.edit ≡ identity (length new.doc) → Fits new.sent new.doc → IsHeld new
held-own c new h d v l s f =
    let made : apply new.sent.edit new.doc ≡ apply c.sent.edit c.doc = nothing-applied new.sent new.doc s ∙ d in
    record {
      sent = f;
      local = subst (λ (x : Change × Doc). Fits x.0 x.1) (λ i. (sym l i, sym made i)) h.local;
      view = v ∙ h.view ∙ sym (λ i. apply (l i).edit (made i));
      nothing_sent = λ e. s;
    }

-- another's change goes before the submission, and behind the client's own text before the rest
pub held-other : (c new : client.Inside) (change below shown : Change) → IsHeld c → Fits change c.doc
    → Fits below (apply c.sent.edit c.doc) → below.edit ≡ follow false c.sent.edit change.edit
    → Fits new.sent (apply change.edit c.doc) → new.sent.edit ≡ follow true change.edit c.sent.edit
    → shown.edit ≡ follow true c.local.edit below.edit
    → Fits new.local (apply below.edit (apply c.sent.edit c.doc)) → new.local.edit ≡ follow false below.edit c.local.edit
    → new.doc ≡ apply change.edit c.doc → new.view ≡ apply shown.edit c.view → new.sent_in ≡ c.sent_in
    → IsHeld new
held-other c new change below shown h f fb b fs s sh fl l d v si =
    let one : apply new.sent.edit new.doc ≡ apply below.edit (apply c.sent.edit c.doc) =
    (λ i. apply (s i) (d i)) ∙ meet true change.edit c.sent.edit c.doc f.length h.sent.length ∙ ap (λ e. apply e (apply c.sent.edit c.doc)) (sym b) in
    record {
      sent = subst (λ x. Fits new.sent x) (sym d) fs;
      local = subst (λ x. Fits new.local x) (sym one) fl;
      view =
          v ∙ (λ i. apply (sh i) (h.view i))
          ∙ sym ((λ i. apply (l i) (one i)) ∙ meet false below.edit c.local.edit (apply c.sent.edit c.doc) fb.length h.local.length);
      nothing_sent = λ e.
          s ∙ ap (follow true change.edit) (h.nothing_sent (sym si ∙ e))
          ∙ follow-identity true change.edit c.doc f.length
          ∙ ap (λ (x : Doc). identity (length x)) (sym d);
    }

-- what was submitted has become nothing, and is gone
pub held-nop : (c new : client.Inside) → IsHeld c → is_identity c.sent.edit ≡ true → new.doc ≡ c.doc → new.sent ≡ c.sent → new.local ≡ c.local → new.view ≡ c.view → IsHeld new
held-nop c new h e d s l v = record {
  sent = subst (λ (x : Change × Doc). Fits x.0 x.1) (λ i. (sym s i, sym d i)) h.sent;
  local = subst (λ (x : Change × Doc). Fits x.0 x.1) (λ i. (sym l i, apply (sym s i).edit (sym d i))) h.local;
  view = v ∙ h.view ∙ (λ i. apply (sym l i).edit (apply (sym s i).edit (sym d i)));
  nothing_sent = λ n. ap (λ (x : Change). x.edit) s ∙ only_identity c.sent.edit e ∙ ap identity (sym h.sent.length) ∙ ap (λ (x : Doc). identity (length x)) (sym d);
}

-- what is sent first
pub sends-first : (c : client.Inside) (s : Change) → IsHeld c → c.sent_in ≡ None → s ≡ c.local → s ≡ stamped c.local.edit (text_of c.doc)
sends-first c s h none e =
    let n = nothing-applied c.sent c.doc (h.nothing_sent none) in
    e ∙ told c.local c.doc (subst (λ d. Fits c.local d) n h.local)
  where
    told : (x : Change) (doc : Doc) → Fits x doc → x ≡ stamped x.edit (text_of doc)
    told x doc f = λ i. record { edit = x.edit; runs = f.runs i }

pub submits-first : (k : KeptClient) (sent local : Edit) → k.connected ≡ true → k.sent_in ≡ None → is_identity k.local ≡ false → sent ≡ k.local → local ≡ identity (length k.view)
    → kept_submitted k ≡ Some (record k { sent = sent; sent_in = Some k.session; local = local })
submits-first k sent local c n a s l =
    ap (λ t. if t then kept_submitted_from k k.sent_in else None) c
    ∙ ap (kept_submitted_from k) n
    ∙ ap (λ t. if t then None else Some (record k { sent = k.local; sent_in = Some k.session; local = identity (length k.view) })) a
    ∙ (λ i. Some (record k { sent = sym s i; sent_in = Some k.session; local = sym l i }))
