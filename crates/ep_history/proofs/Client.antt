-- The client as it is kept stands for the client, through each of its steps.
use Rattle.std.proofs.Common.{◌≡◌, ℕ, zero, suc, ◌≤◌, Bool, true, false, not, ◌&&◌, nat_lt, if◌then◌else◌, List, [], ◌∷◌, ◌++◌, length, take, drop, Option, Some, None, refl, sym, ap, ◌∙◌, subst, arith}
use Rattle.std.proofs.lemmas.List.{length-take-le, drop-append-le}
use Rattle.ep_cs.specs.Doc.{Doc}
use Rattle.ep_cs.specs.Edit.{Edit, apply, compose, identity}
use Rattle.ep_cs.specs.Follow.{follow}
use Rattle.ep_cs.proofs.Composed.{apply-compose}
use Rattle.ep_history.specs.Client.{submitted_doc, sends, is_elsewhere, is_spent, without_sent, dropped, ClientState, edited, hear_other, hear_own, sends, sent_now, started, submission, submitted_doc, view}
use Rattle.ep_history.specs.History.{first_doc, Birth, doc_at, head, made, rebase, rebased}
use Rattle.ep_history.specs.Kept.{Keeps, KeptClient, sent_session, is_kept_elsewhere, is_kept_spent, kept_nop, kept_dropped, kept_edited, kept_other, kept_own}
use Rattle.ep_cs.specs.Fits.{is_identity}
use Rattle.ep_history.specs.Lists.{at}
use Rattle.ep_history.proofs.Lists.{none_some, some_same, at-below, take-next}
use Rattle.ep_cs.proofs.EditFits.{IsFit, fit-follow, fit-compose, both_ways, ends_well, ends-apply, fit-identity, follow-identity}
use Rattle.ep_cs.proofs.Identity.{apply-identity, only_identity}
use Rattle.ep_units.specs.declared.session.Session.{Session}
use Rattle.ep_history.specs.declared.rev.Rev.{Rev}
use Rattle.ep_history.specs.declared.submission.Submission.{Submission}
use Rattle.ep_attr.proofs.SameMap.{second_true}

pub made-push : (doc : Doc) (vs : List Rev) (v : Rev) → made doc (vs ++ v ∷ []) ≡ apply v.change.edit (made doc vs)
made-push doc [] v = refl
made-push doc (w ∷ vs) v = made-push (apply w.change.edit doc) vs v

pub rebased-push : (e : Edit) (vs : List Rev) (v : Rev) → rebased (vs ++ v ∷ []) e ≡ follow true v.change.edit (rebased vs e)
rebased-push e [] v = refl
rebased-push e (w ∷ vs) v = rebased-push (follow true w.change.edit e) vs v

-- the next revision's document
pub next-doc : (b : Birth) (r : ℕ) (v : Rev) → at b.later r ≡ Some v → doc_at b (suc r) ≡ apply v.change.edit (doc_at b r)
next-doc b r v e = ap (made (first_doc b)) (take-next b.later r v e) ∙ made-push (first_doc b) (take r b.later) v

-- an edit rebased through one more revision
pub next-rebase : (b : Birth) (edit : Edit) (base r : ℕ) (v : Rev) → at b.later r ≡ Some v → base ≤ r → rebase b edit base (suc r) ≡ follow true v.change.edit (rebase b edit base r)
next-rebase b edit base r v e h =
    let l = at-below b.later r v e in
    let n = length-take-le r b.later (omega (arith, l)) in
    ap (λ vs. rebased (drop base vs) edit) (take-next b.later r v e)
    ∙ ap (λ vs. rebased vs edit) (drop-append-le base (take r b.later) (v ∷ []) (omega (arith, n, h)))
    ∙ rebased-push edit (drop base (take r b.later)) v

-- on its own base an edit stays
pub rebase-none : (b : Birth) (edit : Edit) (r : ℕ) → rebase b edit r r ≡ edit
rebase-none b edit r = ap (λ vs. rebased vs edit) (drop-taken r b.later)
  where
    drop-taken : (r : ℕ) (vs : List Rev) → drop r (take r vs) ≡ []
    drop-taken zero vs = refl
    drop-taken (suc r) [] = refl
    drop-taken (suc r) (v ∷ vs) = drop-taken r vs

-- each edit of the client is an edit of the document before it
pub record IsSound (b : Birth) (c : ClientState) : Type 0 where
  pub rev : c.rev ≤ head b
  pub ends : ends_well (doc_at b c.rev) ≡ true
  pub sent : IsFit (submission b c) (doc_at b c.rev)
  pub local : IsFit c.local (submitted_doc b c)
  pub base : (s : Submission) → c.sent ≡ Some s → s.base ≤ c.rev

pub sound-started : (b : Birth) (r : ℕ) (s : Session) → r ≤ head b → ends_well (doc_at b r) ≡ true → IsSound b (started b r s)
sound-started b r s h e = record {
  rev = h;
  ends = e;
  sent = fit-identity (doc_at b r) e;
  local = subst (λ doc. IsFit (identity (length (doc_at b r))) doc) (sym (apply-identity (doc_at b r))) (fit-identity (doc_at b r) e);
  base = λ s h. none_some h;
}

-- ---- an edit

pub sound-edited : (b : Birth) (c : ClientState) (e : Edit) → IsSound b c → IsFit e (view b c) → IsSound b (edited e c)
sound-edited b c e g f = record { rev = g.rev; ends = g.ends; sent = g.sent; local = fit-compose c.local e (submitted_doc b c) g.local f; base = g.base }

pub view-edited : (b : Birth) (c : ClientState) (e : Edit) → IsSound b c → view b (edited e c) ≡ apply e (view b c)
view-edited b c e g = apply-compose c.local e (submitted_doc b c) g.local.long

pub keeps-edited : (b : Birth) (c : ClientState) (k : KeptClient) (e : Edit) → IsSound b c → Keeps b c k → Keeps b (edited e c) (kept_edited e k)
keeps-edited b c k e g h = record {
  rev = h.rev;
  doc = h.doc;
  sent = h.sent;
  local = ap (λ l. compose l e) h.local;
  view = ap (apply e) h.view ∙ sym (view-edited b c e g);
  sent_in = h.sent_in;
  session = h.session;
  connected = h.connected;
  told = h.told;
}

-- ---- hearing another's revision

-- the submission after one more revision
pub other-submission : (b : Birth) (c : ClientState) (v : Rev) → IsSound b c → at b.later c.rev ≡ Some v → IsFit v.change.edit (doc_at b c.rev)
    → submission b (hear_other b v.change.edit c) ≡ follow true v.change.edit (submission b c)
other-submission b c v g e f = go c.sent refl
  where
    go : (s : Option Submission) → c.sent ≡ s → sent_now b (suc c.rev) s ≡ follow true v.change.edit (sent_now b c.rev s)
    go None i = ap (λ doc. identity (length doc)) (next-doc b c.rev v e) ∙ sym (follow-identity true v.change.edit (doc_at b c.rev) f.long)
    go (Some s) i = next-rebase b s.change.edit s.base c.rev v e (g.base s i)

module _ (b : Birth) (c : ClientState) (v : Rev) (g : IsSound b c) (e : at b.later c.rev ≡ Some v) (f : IsFit v.change.edit (doc_at b c.rev)) where
  -- the revision, brought below the submission
  below : Edit
  below = follow false (submission b c) v.change.edit

  fit-below : IsFit (follow false (submission b c) v.change.edit) (submitted_doc b c)
  fit-below = fit-follow false (submission b c) v.change.edit (doc_at b c.rev) g.sent f

  -- both ways round the first square
  pub other-submitted : submitted_doc b (hear_other b v.change.edit c) ≡ apply (follow false (submission b c) v.change.edit) (submitted_doc b c)
  other-submitted =
      ap (λ x. apply x (doc_at b (suc c.rev))) (other-submission b c v g e f)
      ∙ ap (apply (follow true v.change.edit (submission b c))) (next-doc b c.rev v e)
      ∙ both_ways true v.change.edit (submission b c) (doc_at b c.rev) f g.sent

  -- and round the second
  pub other-view : view b (hear_other b v.change.edit c) ≡ apply (follow true c.local (follow false (submission b c) v.change.edit)) (view b c)
  other-view =
      ap (apply (follow false (follow false (submission b c) v.change.edit) c.local)) other-submitted
      ∙ both_ways false (follow false (submission b c) v.change.edit) c.local (submitted_doc b c) fit-below g.local

  pub sound-other : IsSound b (hear_other b v.change.edit c)
  sound-other = record {
    rev = at-below b.later c.rev v e;
    ends = ap ends_well (next-doc b c.rev v e) ∙ ends-apply v.change.edit (doc_at b c.rev) f;
    sent = subst (λ x. IsFit x (doc_at b (suc c.rev))) (sym (other-submission b c v g e f))
        (subst (λ doc. IsFit (follow true v.change.edit (submission b c)) doc) (sym (next-doc b c.rev v e)) (fit-follow true v.change.edit (submission b c) (doc_at b c.rev) f g.sent));
    local = subst (λ doc. IsFit (follow false (follow false (submission b c) v.change.edit) c.local) doc) (sym other-submitted)
        (fit-follow false (follow false (submission b c) v.change.edit) c.local (submitted_doc b c) fit-below g.local);
    base = λ s i. let h = g.base s i in omega (arith, h);
  }

  pub keeps-other : (k : KeptClient) → Keeps b c k → Keeps b (hear_other b v.change.edit c) (kept_other v.change.edit k)
  keeps-other k h = record {
    rev = ap suc h.rev;
    doc = ap (apply v.change.edit) h.doc ∙ sym (next-doc b c.rev v e);
    sent = ap (follow true v.change.edit) h.sent ∙ sym (other-submission b c v g e f);
    local = λ i. follow false (follow false (h.sent i) v.change.edit) (h.local i);
    view = (λ i. apply (follow true (h.local i) (follow false (h.sent i) v.change.edit)) (h.view i)) ∙ sym other-view;
    sent_in = h.sent_in;
    session = h.session;
    connected = h.connected;
    told = h.told;
  }

  -- ---- hearing its own: the revision is the submission

  module _ (same : v.change.edit ≡ submission b c) where
    own-doc : doc_at b (suc c.rev) ≡ submitted_doc b c
    own-doc = next-doc b c.rev v e ∙ ap (λ x. apply x (doc_at b c.rev)) same

    own-submitted : submitted_doc b (hear_own c) ≡ submitted_doc b c
    own-submitted = apply-identity (doc_at b (suc c.rev)) ∙ own-doc

    pub own-view : view b (hear_own c) ≡ view b c
    own-view = ap (apply c.local) own-submitted

    pub sound-own : IsSound b (hear_own c)
    sound-own =
        let ends : ends_well (doc_at b (suc c.rev)) ≡ true = ap ends_well (next-doc b c.rev v e) ∙ ends-apply v.change.edit (doc_at b c.rev) f in
        record {
          rev = at-below b.later c.rev v e;
          ends = ends;
          sent = fit-identity (doc_at b (suc c.rev)) ends;
          local = subst (λ doc. IsFit c.local doc) (sym own-submitted) g.local;
          base = λ s i. none_some i;
        }

    pub keeps-own : (k : KeptClient) → Keeps b c k → Keeps b (hear_own c) (kept_own k)
    keeps-own k h =
        let doc : apply k.sent k.doc ≡ doc_at b (suc c.rev) = (λ i. apply (h.sent i) (h.doc i)) ∙ sym own-doc in
        record {
          rev = ap suc h.rev;
          doc = doc;
          sent = ap (λ d. identity (length d)) doc;
          local = h.local;
          view = h.view ∙ sym own-view;
          sent_in = refl;
          session = h.session;
          connected = h.connected;
          told = h.told;
        }

-- ---- what has become nothing is gone

-- without a submission that has become nothing
pub sound-without : (b : Birth) (c : ClientState) → IsSound b c → submission b c ≡ identity (length (doc_at b c.rev)) → IsSound b (without_sent c)
sound-without b c g e = record {
  rev = g.rev;
  ends = g.ends;
  sent = subst (λ x. IsFit x (doc_at b c.rev)) e g.sent;
  local = subst (λ x. IsFit c.local (apply x (doc_at b c.rev))) e g.local;
  base = λ s h. none_some h;
}

pub nothing-sent : (b : Birth) (c : ClientState) → IsSound b c → is_identity (submission b c) ≡ true → submission b c ≡ identity (length (doc_at b c.rev))
nothing-sent b c g h = only_identity (submission b c) h ∙ ap identity (sym g.sent.long)

pub spent-nothing : (b : Birth) (c : ClientState) → is_spent b c ≡ true → is_identity (submission b c) ≡ true
spent-nothing b c h =
    second_true (is_elsewhere c.session c.sent) _ (second_true (not (nat_lt c.rev c.told)) _ (second_true c.connected _ h))

pub sound-dropped : (b : Birth) (c : ClientState) → IsSound b c → IsSound b (dropped b c)
sound-dropped b c g = go (is_spent b c) refl
  where
    go : (t : Bool) → is_spent b c ≡ t → IsSound b (if t then without_sent c else c)
    go true h = sound-without b c g (nothing-sent b c g (spent-nothing b c h))
    go false h = g

pub keeps-without : (b : Birth) (c : ClientState) (k : KeptClient) → submission b c ≡ identity (length (doc_at b c.rev)) → Keeps b c k → Keeps b (without_sent c) (kept_nop k)
keeps-without b c k e h = record {
  rev = h.rev;
  doc = h.doc;
  sent = h.sent ∙ e;
  local = h.local;
  view = h.view ∙ ap (λ x. apply c.local (apply x (doc_at b c.rev))) e;
  sent_in = refl;
  session = h.session;
  connected = h.connected;
  told = h.told;
}

kept-elsewhere : (s : Session) (o : Option Submission) → is_kept_elsewhere s (sent_session o) ≡ is_elsewhere s o
kept-elsewhere s None = refl
kept-elsewhere s (Some t) = refl

pub kept-spent : (b : Birth) (c : ClientState) (k : KeptClient) → Keeps b c k → is_kept_spent k ≡ is_spent b c
kept-spent b c k h =
    (λ i. h.connected i && (not (nat_lt (h.rev i) (h.told i)) && (is_kept_elsewhere (h.session i) (h.sent_in i) && is_identity (h.sent i))))
    ∙ ap (λ e. c.connected && (not (nat_lt c.rev c.told) && (e && is_identity (submission b c)))) (kept-elsewhere c.session c.sent)

pub keeps-dropped : (b : Birth) (c : ClientState) (k : KeptClient) → IsSound b c → Keeps b c k → Keeps b (dropped b c) (kept_dropped k)
keeps-dropped b c k g h =
    subst (λ t. Keeps b (dropped b c) (if t then kept_nop k else k)) (sym (kept-spent b c k h)) (go (is_spent b c) refl)
  where
    go : (t : Bool) → is_spent b c ≡ t → Keeps b (if t then without_sent c else c) (if t then kept_nop k else k)
    go true e = keeps-without b c k (nothing-sent b c g (spent-nothing b c e)) h
    go false e = h

-- ---- submitting

pub sound-first : (b : Birth) (c : ClientState) → IsSound b c → c.sent ≡ None → IsSound b (sends b c c.local (identity (length (view b c))))
sound-first b c g n =
    let x : submission b c ≡ identity (length (doc_at b c.rev)) = ap (sent_now b c.rev) n in
    let d : submitted_doc b c ≡ doc_at b c.rev = ap (λ y. apply y (doc_at b c.rev)) x ∙ apply-identity (doc_at b c.rev) in
    let f : IsFit c.local (doc_at b c.rev) = subst (λ doc. IsFit c.local doc) d g.local in
    let s : submission b (sends b c c.local (identity (length (view b c)))) ≡ c.local = rebase-none b c.local c.rev in
    let v : submitted_doc b (sends b c c.local (identity (length (view b c)))) ≡ view b c =
    ap (λ y. apply y (doc_at b c.rev)) s ∙ ap (apply c.local) (sym d) in
    let w : ends_well (view b c) ≡ true = ends-apply c.local (submitted_doc b c) g.local in
    record {
      rev = g.rev;
      ends = g.ends;
      sent = subst (λ y. IsFit y (doc_at b c.rev)) (sym s) f;
      local = subst (λ doc. IsFit (identity (length (view b c))) doc) (sym v) (fit-identity (view b c) w);
      base = λ t i. let h : c.rev ≡ t.base = ap (λ (u : Submission). u.base) (some_same i) in omega (arith, h);
    }

pub sound-again : (b : Birth) (c : ClientState) → IsSound b c → IsSound b (sends b c (submission b c) c.local)
sound-again b c g =
    let s : submission b (sends b c (submission b c) c.local) ≡ submission b c = rebase-none b (submission b c) c.rev in
    record {
      rev = g.rev;
      ends = g.ends;
      sent = subst (λ y. IsFit y (doc_at b c.rev)) (sym s) g.sent;
      local = subst (λ y. IsFit c.local (apply y (doc_at b c.rev))) (sym s) g.local;
      base = λ t i. let h : c.rev ≡ t.base = ap (λ (u : Submission). u.base) (some_same i) in omega (arith, h);
    }

pub keeps-first : (b : Birth) (c : ClientState) (k : KeptClient) → IsSound b c → Keeps b c k → c.sent ≡ None
    → Keeps b (sends b c c.local (identity (length (view b c)))) (record k { sent = k.local; sent_in = Some k.session; local = identity (length k.view) })
keeps-first b c k g h n =
    let x : submission b c ≡ identity (length (doc_at b c.rev)) = ap (sent_now b c.rev) n in
    let d : submitted_doc b c ≡ doc_at b c.rev = ap (λ y. apply y (doc_at b c.rev)) x ∙ apply-identity (doc_at b c.rev) in
    let s : submission b (sends b c c.local (identity (length (view b c)))) ≡ c.local = rebase-none b c.local c.rev in
    let v : submitted_doc b (sends b c c.local (identity (length (view b c)))) ≡ view b c = ap (λ y. apply y (doc_at b c.rev)) s ∙ ap (apply c.local) (sym d) in
    record {
      rev = h.rev;
      doc = h.doc;
      sent = h.local ∙ sym s;
      local = ap (λ d. identity (length d)) h.view;
      view = h.view ∙ sym (ap (apply (identity (length (view b c)))) v ∙ apply-identity (view b c));
      sent_in = ap Some h.session;
      session = h.session;
      connected = h.connected;
      told = h.told;
    }

pub keeps-again : (b : Birth) (c : ClientState) (k : KeptClient) → Keeps b c k → Keeps b (sends b c (submission b c) c.local) (record k { sent_in = Some k.session })
keeps-again b c k h =
    let s : submission b (sends b c (submission b c) c.local) ≡ submission b c = rebase-none b (submission b c) c.rev in
    record {
      rev = h.rev;
      doc = h.doc;
      sent = h.sent ∙ sym s;
      local = h.local;
      view = h.view ∙ ap (λ y. apply c.local (apply y (doc_at b c.rev))) (sym s);
      sent_in = ap Some h.session;
      session = h.session;
      connected = h.connected;
      told = h.told;
    }
