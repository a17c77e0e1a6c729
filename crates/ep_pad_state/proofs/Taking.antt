-- An edit that a birth takes.
use Rattle.std.proofs.Common.{◌≡◌, ◌⊎◌, inl, inr, ℕ, suc, ◌+◌, ◌<◌, ◌≤◌, Bool, true, false, if◌then◌else◌, List, [], ◌∷◌, length, drop, Option, Some, None, Result, Ok, Err, refl, sym, ap, ◌∙◌, subst, arith}
use Rattle.std.proofs.lemmas.List.{take_all}
use Rattle.ep_units.specs.Text.{Text}
use Rattle.ep_units.specs.declared.session.Session.{Session}
use Rattle.ep_cs.specs.Doc.{Doc, text_of}
use Rattle.ep_cs.specs.Edit.{Edit}
use Rattle.ep_cs.specs.Change.{Change, stamped}
use Rattle.ep_cs.specs.Fits.{is_identity}
use Rattle.ep_cs.specs.Made.{AreMade}
use Rattle.ep_history.specs.declared.rev.Rev.{Rev}
use Rattle.ep_history.specs.declared.seat.Seat.{Seat}
use Rattle.ep_history.specs.declared.pad_bad.PadBad.{PadBad}
use Rattle.ep_history.specs.declared.pad_bad.PadBad.TheVariants.{NoMemory}
use Rattle.ep_history.specs.declared.record.Record.{Record}
use Rattle.ep_history.specs.declared.record.Record.TheVariants as record_of
use Rattle.ep_history.specs.History.{By, Birth, nop_by, head, head_doc, made, newline, step_revs}
use Rattle.ep_history.specs.Pad.{PadState, newest, seat_of, with_revs, with_nops}
use Rattle.ep_history.specs.Accept.{at_head, refusal}
use Rattle.ep_history.specs.Readings.{Committed, commit}
use Rattle.ep_history.specs.Records.{rev_record}
use Rattle.ep_history.specs.Entries.{outcome}
use Rattle.ep_history.specs.Entries.Entry.{Accept}
use Rattle.ep_history.specs.Entries.Answer.{CommitAnswer}
use Rattle.ep_history.specs.Entries.Outcome.{Records}
use Rattle.ep_revs.specs.Revisions.{doc_of, last_doc}
use Rattle.ep_step.specs.declared.step.Step.{Step}
use Rattle.ep_step.specs.declared.taking.Head.{Head}
use Rattle.ep_step.specs.declared.taking.Base.{Base}
use Rattle.ep_step.specs.declared.taking.Taken.{Taken}
use Rattle.ep_step.specs.declared.taking.Taken.TheVariants as taken
use Rattle.ep_step.specs.Answers.{Refuses}
use Rattle.ep_step.specs.Changes.{changes_of}
use Rattle.ep_step.specs.Step.{step_of}
use Rattle.ep_step.specs.Taking.{Leads, IsHeadOf, IsAsked, taken_of}
use Rattle.ep_pad_state.specs.declared.birth.Birth.{Birth as Kept}
use Rattle.ep_pad_state.specs.Held.{HasRevs}
use Rattle.ep_pad_state.proofs.Pads.{leads-on}
use Rattle.ep_pad_state.proofs.Keeping.{head-doc-of}
use Rattle.ep_pad_state.proofs.Outcomes.{accept-taken}

-- ---- refusals

pub refused-by : (A : Type 0) (f : Option PadBad) (bad : PadBad) → Refuses {A = A} f (Err bad) → (f ≡ Some bad) ⊎ (bad ≡ NoMemory)
refused-by A None bad r = inr r
refused-by A (Some why) bad (inl e) = inl (ap Some (sym (same e)))
  where
    same : ◌≡◌ {A = Result A PadBad} (Err bad) (Err why) → bad ≡ why
    same e = cc
refused-by A (Some why) bad (inr e) = inr (same e)
  where
    same : ◌≡◌ {A = Result A PadBad} (Err bad) (Err NoMemory) → bad ≡ NoMemory
    same e = cc

pub not-refused : (A : Type 0) (f : Option PadBad) (x : A) → Refuses {A = A} f (Ok x) → f ≡ None
not-refused A None x r = refl
not-refused A (Some why) x (inl e) = absurd (differ e)
  where
    differ : ◌≡◌ {A = Result A PadBad} (Ok x) (Err why) → ⊥
    differ e = cc
not-refused A (Some why) x (inr e) = absurd (differ e)
  where
    differ : ◌≡◌ {A = Result A PadBad} (Ok x) (Err NoMemory) → ⊥
    differ e = cc

-- ---- the base

pub last-is : (vs : List Rev) (r : ℕ) → length vs ≡ r + 1 → last_doc vs ≡ doc_of vs r
last-is vs r e = ap (made newline) (sym (take_all (suc r) vs (omega (arith, e))))

pub leads : (vs : List Rev) (at : Base) (h : Head) (r : ℕ) → at.doc.now ≡ doc_of vs r → at.since.now ≡ drop (suc r) vs → AreMade (doc_of vs r) (changes_of at.since.now) → h.doc.now ≡ last_doc vs → Leads at h
leads vs at h r e s m d = record {
  fit = subst (λ doc. AreMade doc (changes_of at.since.now)) (sym e) m;
  lead = ap (λ doc. made doc at.since.now) e ∙ ap (made (doc_of vs r)) s ∙ leads-on (suc r) vs ∙ sym d;
}

pub asked-none : (p : PadState) (l : Seat) (h : Head) (name : Text) (r : ℕ) → IsHeadOf h p → h.rev < r → l.author ≡ name → l.read_only ≡ false → IsAsked h None name p l r
asked-none p l h name r o lt a w = let e = o.rev in record { head = o; base = omega (arith, e, lt); author = sym a; writes = w }

pub asked-some : (k : Kept) (p : PadState) (l : Seat) (h : Head) (at : Base) (name : Text) (r : ℕ) → HasRevs k (newest p) → IsHeadOf h p → r ≤ h.rev
    → at.doc.now ≡ doc_of k.revs.revs r → at.since.now ≡ drop (suc r) k.revs.revs → l.author ≡ name → l.read_only ≡ false → IsAsked h (Some at) name p l r
asked-some k p l h at name r b o le d s a w =
    let e = o.rev in
    record {
      head = o;
      base = (omega (arith, e, le), d ∙ ap (λ vs. doc_of vs r) b, s ∙ ap (drop (suc r)) b);
      author = sym a;
      writes = w;
    }

-- ---- what was taken

-- it is taken of some edit of the head's document, whatever the pad
pub own-taken : (k : Kept) (limit : ℕ) (name : Text) (base : ℕ) (c : Change) (t : Taken) → 1 ≤ length k.revs.revs
    → ((p : PadState) (l : Seat) → HasRevs k (newest p) → p.limits.units ≡ limit → l.author ≡ name → l.read_only ≡ false → t ≡ taken_of (at_head p base c.edit) (head_doc (newest p)))
    → (e : Edit) × (t ≡ taken_of e (last_doc k.revs.revs))
own-taken k limit name base c t some of = go k.revs.revs refl some
  where
    go : (vs : List Rev) → k.revs.revs ≡ vs → 1 ≤ length vs → (e : Edit) × (t ≡ taken_of e (last_doc k.revs.revs))
    go [] r n = absurd (omega (arith, n))
    go (v ∷ vs) r n =
        let b : Birth = record { first = v; later = vs; nops = [] } in
        let p : PadState = record {
          limits = record { live = 0; logins = 0; units = limit; journal = 0; openings = 0; pads = 0 };
          epoch = 0;
          sessions = [];
          births = b ∷ [];
          present = true;
          public = false;
        } in
        let l : Seat = record { author = name; read_only = false; end = None } in
        (at_head p base c.edit, of p l r refl refl refl ∙ ap (taken_of (at_head p base c.edit)) (sym (head-doc-of k b r)))

pub step-of-taken : (e : Edit) (doc : Doc) (s : Step) → taken.Step s ≡ taken_of e doc → s ≡ step_of e doc
step-of-taken e doc s h = go (is_identity e) h
  where
    go : (b : Bool) → taken.Step s ≡ (if b then taken.Nop (stamped e (text_of doc)) else taken.Step (step_of e doc)) → s ≡ step_of e doc
    go true h = absurd (cc)
    go false h = cc

not-nop : (e : Edit) (doc : Doc) (s : Step) → taken.Step s ≡ taken_of e doc → is_identity e ≡ false
not-nop e doc s h = go (is_identity e) refl h
  where
    go : (b : Bool) → is_identity e ≡ b → taken.Step s ≡ (if b then taken.Nop (stamped e (text_of doc)) else taken.Step (step_of e doc)) → is_identity e ≡ false
    go true i h = absurd (cc)
    go false i h = i

is-nop : (e : Edit) (doc : Doc) (c : Change) → taken.Nop c ≡ taken_of e doc → is_identity e ≡ true
is-nop e doc c h = go (is_identity e) refl h
  where
    go : (b : Bool) → is_identity e ≡ b → taken.Nop c ≡ (if b then taken.Nop (stamped e (text_of doc)) else taken.Step (step_of e doc)) → is_identity e ≡ true
    go true i h = i
    go false i h = absurd (cc)

-- ---- what is committed

pub accept-nop : (p : PadState) (s : Session) (base : ℕ) (c : Change) (now : ℕ) (l : Seat) (d : Change) (n : ℕ) (x : Committed)
    → seat_of p s ≡ Some l → refusal p s base c ≡ None → taken.Nop d ≡ taken_of (at_head p base c.edit) (head_doc (newest p)) → n ≡ head (newest p)
    → x ≡ commit p (at_head p base c.edit)
    → outcome p (Accept s base c now) ≡ Records (record_of.Nop s now) (CommitAnswer x) (with_nops p (record { session = s; time = now; rev = n } ∷ []))
accept-nop p s base c now l d n x f z t en ex =
    let e = at_head p base c.edit in
    let i = is-nop e (head_doc (newest p)) d t in
    accept-taken p s base c now l by (record_of.Nop s now) x (with_nops p (record { session = s; time = now; rev = n } ∷ [])) f z refl
    (sym (ap (λ b. if b then record_of.Nop s now else rev_record p by e) i)) ex
    (ap (λ m. with_nops p (record { session = s; time = now; rev = m } ∷ [])) en
    ∙ sym (ap (λ b. if b then with_nops p (nop_by by (head (newest p)) ∷ []) else with_revs p (step_revs by e (head_doc (newest p)))) i))
  where
    by : By
    by = record { author = l.author; session = s; time = now }

pub accept-step : (p : PadState) (s : Session) (base : ℕ) (c : Change) (now : ℕ) (l : Seat) (st : Step) (r : Record) (vs : List Rev) (x : Committed)
    → seat_of p s ≡ Some l → refusal p s base c ≡ None → taken.Step st ≡ taken_of (at_head p base c.edit) (head_doc (newest p))
    → r ≡ rev_record p (record { author = l.author; session = s; time = now }) (at_head p base c.edit)
    → vs ≡ step_revs (record { author = l.author; session = s; time = now }) (at_head p base c.edit) (head_doc (newest p))
    → x ≡ commit p (at_head p base c.edit)
    → outcome p (Accept s base c now) ≡ Records r (CommitAnswer x) (with_revs p vs)
accept-step p s base c now l st r vs x f z t er ev ex =
    let e = at_head p base c.edit in
    let i = not-nop e (head_doc (newest p)) st t in
    accept-taken p s base c now l by r x (with_revs p vs) f z refl
    (er ∙ sym (ap (λ b. if b then record_of.Nop s now else rev_record p by e) i)) ex
    (ap (with_revs p) ev
    ∙ sym (ap (λ b. if b then with_nops p (nop_by by (head (newest p)) ∷ []) else with_revs p (step_revs by e (head_doc (newest p)))) i))
  where
    by : By
    by = record { author = l.author; session = s; time = now }
