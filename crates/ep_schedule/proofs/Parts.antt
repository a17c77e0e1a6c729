-- The parts of the headline, from what every world that some events lead to keeps.
use Rattle.std.proofs.Common.{◌≡◌, ℕ, ◌≤◌, Bool, true, false, not, nat_lt, if◌then◌else◌, List, [], ◌∷◌, ◌⊎◌, inl, inr, length, Option, Some, None, refl, sym, ap, ◌∙◌, subst, T, arith}
use Rattle.std.specs.Prelude.{is_some}
use Rattle.ep_units.specs.Text.{Text}
use Rattle.ep_units.specs.declared.session.Session.{Session}
use Rattle.ep_outside.specs.declared.limits.Limits.{Limits}
use Rattle.ep_attr.proofs.SameMap.{both_true}
use Rattle.ep_cs.specs.Doc.{Doc}
use Rattle.ep_cs.specs.Edit.{apply, identity}
use Rattle.ep_cs.specs.EditFits.{is_edit}
use Rattle.ep_cs.specs.Fits.{is_identity}
use Rattle.ep_cs.specs.Fitting.{fit_bad}
use Rattle.ep_cs.specs.declared.bad.FitBad.{FitBad}
use Rattle.ep_cs.proofs.EditFits.{true_pieces}
use Rattle.ep_cs.proofs.Identity.{apply-identity, only_identity}
use Rattle.ep_cs.proofs.Refusals.{not_refused}
use Rattle.ep_history.specs.Accept.{author_fault, committed, first_other, fit_fault, live_fault, refusal, seat_fault}
use Rattle.ep_history.specs.Client.{ClientState, sent_now, submitted_doc, view}
use Rattle.ep_history.specs.History.{Birth, doc_at, head, head_doc}
use Rattle.ep_history.specs.Lists.{Among}
use Rattle.ep_history.specs.Pad.{PadState, birth_at, newest, seat_of}
use Rattle.ep_history.specs.Refusals.{fault_if, first_fault}
use Rattle.ep_history.specs.declared.pad_bad.PadBad.TheVariants.{Author, Dead, NoBase, ReadOnly, TooLong}
use Rattle.ep_history.specs.declared.seat.Seat.{Seat}
use Rattle.ep_history.specs.declared.seat.Why.{Why}
use Rattle.ep_history.specs.declared.submission.Submission.{Submission}
use Rattle.ep_history.proofs.Births.{IsTrueChange, true-fits}
use Rattle.ep_history.proofs.Client.{IsSound}
use Rattle.ep_history.proofs.Lists.{none_some, some_same}
use Rattle.ep_history.proofs.Refused.{less-not, taken}
use Rattle.ep_schedule.specs.Headline.{AreNeverFaulty, Headline, IsGoodReason, IsRebased, IsTaken, TakesAdmissible, after, first_sent, is_there, next_up}
use Rattle.ep_schedule.specs.World.{Actor, Conn, Event, Member, Message, Name, Reason, Taken, WorldState, happens, pad_reason, reason, start, take_by, take_first_guest, take_first_named, take_guest, take_named, with_conn, with_up}
use Rattle.ep_schedule.specs.World.Actor.{Guest, Named, Nobody}
use Rattle.ep_schedule.specs.World.Event.{Take}
use Rattle.ep_schedule.specs.World.Reason.{Refused, Unread}
use Rattle.ep_schedule.proofs.Good.{IsGood, IsGoodWorld, IsUntaken, as_message, at-name}
use Rattle.ep_schedule.proofs.Marks.{in-among, once-same}
use Rattle.ep_schedule.proofs.Runs.{run-good, start-good}

-- ---- what is admissible is taken

-- the parts of a pair in an option
pair-of : {A B : Type 0} {a c : A} {b d : B} → ◌≡◌ {A = Option (A × B)} (Some (a, b)) (Some (c, d)) → (a ≡ c) × (b ≡ d)
pair-of e = (ap (λ p. p.0) (some_same e), ap (λ p. p.1) (some_same e))

pub takes-admissible : (w : WorldState) → TakesAdmissible w
takes-admissible w now n s msg up edit normal a = by (w.actors n) refl up
  where
    accepted : (t : Session) (x : Message) → (t ≡ s) × (x ≡ msg) → reason w.pad t x ≡ None
    accepted t x p =
        (λ i. reason w.pad (p.0 i) (p.1 i))
        ∙ ap (λ t. if t then pad_reason (refusal w.pad s msg.base msg.change) else Some (Unread msg.unread)) edit
        ∙ ap pad_reason ((taken w.pad s msg.base msg.change normal).0 a)

    named : (m : Member) (us : List Message) → first_sent m.conn.session us ≡ Some (s, msg)
        → ((take_first_named w now n m us).pad ≡ committed w.pad s now msg.base msg.change) × ((take_first_named w now n m us).known ≡ msg.number ∷ w.known)
    named m [] e = none_some e
    named m (x ∷ us) e =
        let p = pair-of e in
        let q = accepted m.conn.session x p in (
          ap (λ r. (take_named w now n (with_conn m (with_up m.conn us)) x r).pad) q ∙ (λ i. committed w.pad (p.0 i) now (p.1 i).base (p.1 i).change),
          ap (λ r. (take_named w now n (with_conn m (with_up m.conn us)) x r).known) q ∙ ap (λ (y : Message). y.number ∷ w.known) p.1,
        )

    guest : (c : Conn) (us : List Message) → first_sent c.session us ≡ Some (s, msg)
        → ((take_first_guest w now n c us).pad ≡ committed w.pad s now msg.base msg.change) × ((take_first_guest w now n c us).known ≡ msg.number ∷ w.known)
    guest c [] e = none_some e
    guest c (x ∷ us) e =
        let p = pair-of e in
        let q = accepted c.session x p in (
          ap (λ r. (take_guest w now n (with_up c us) x r).pad) q ∙ (λ i. committed w.pad (p.0 i) now (p.1 i).base (p.1 i).change),
          ap (λ r. (take_guest w now n (with_up c us) x r).known) q ∙ ap (λ (y : Message). y.number ∷ w.known) p.1,
        )

    whole : (v : WorldState) → happens w (Take now n) ≡ v → (v.pad ≡ committed w.pad s now msg.base msg.change) × (v.known ≡ msg.number ∷ w.known) → IsTaken w now n s msg
    whole v e p = record { pad = ap (λ (v : WorldState). v.pad) e ∙ p.0; known = ap (λ (v : WorldState). v.known) e ∙ p.1 }

    by : (a : Actor) → w.actors n ≡ a → next_up a ≡ Some (s, msg) → IsTaken w now n s msg
    by Nobody i e = none_some e
    by (Guest c) i e = whole (take_by w now n (Guest c)) (ap (take_by w now n) i) (guest c c.up e)
    by (Named m) i e = whole (take_by w now n (Named m)) (ap (take_by w now n) i) (named m m.conn.up e)

-- ---- committed once

recorded : (pad : PadState) (t : Taken) → IsRebased pad t → is_there pad t t.nop ≡ true
recorded pad t r = go t.nop refl
  where
    go : (o : Option ℕ) → t.nop ≡ o → is_there pad t o ≡ true
    go None e = ap is_some (r.edit e)
    go (Some i) e = ap is_some (r.noted i e)

-- ---- the view

none-there : {A : Type 0} (o : Option A) → is_some o ≡ false → o ≡ None
none-there None e = refl
none-there (Some x) e = absurd (subst T e tt)

not-not : (b : Bool) → not b ≡ false → b ≡ true
not-not true e = refl
not-not false e = absurd (subst T e tt)

good-shows : (b : Birth) (c : ClientState) → IsSound b c → c.sent ≡ None → is_identity c.local ≡ true → c.rev ≡ head b → view b c ≡ head_doc b
good-shows b c g none id at_head =
    let x : submitted_doc b c ≡ doc_at b c.rev = ap (λ o. apply (sent_now b c.rev o) (doc_at b c.rev)) none ∙ apply-identity (doc_at b c.rev) in
    let l : c.local ≡ identity (length (doc_at b c.rev)) = only_identity c.local id ∙ ap identity (sym g.local.long ∙ ap (λ (d : Doc). length d) x) in
    (λ i. apply (l i) (x i)) ∙ apply-identity (doc_at b c.rev) ∙ ap (doc_at b) at_head

data Outcome : Option Reason → Type 0 where
  Good : Outcome None
  OfDead : {w : Why} → Outcome (Some (Refused (Dead w)))
  OfAuthor : {k : ℕ} → Outcome (Some (Refused (Author k)))
  OfLong : {k : ℕ} → Outcome (Some (Refused (TooLong k)))

outcome-good : {r : Option Reason} → Outcome r → IsGoodReason r
outcome-good Good = record { read = λ why e. absurd (cc e); writes = λ e. absurd (cc e); base = λ h e. absurd (cc e); fits = λ h e. absurd (cc e) }
outcome-good OfDead = record { read = λ why e. absurd (cc e); writes = λ e. absurd (cc e); base = λ h e. absurd (cc e); fits = λ h e. absurd (cc e) }
outcome-good OfAuthor = record { read = λ why e. absurd (cc e); writes = λ e. absurd (cc e); base = λ h e. absurd (cc e); fits = λ h e. absurd (cc e) }
outcome-good OfLong = record { read = λ why e. absurd (cc e); writes = λ e. absurd (cc e); base = λ h e. absurd (cc e); fits = λ h e. absurd (cc e) }

-- what a live, writing session is refused for, where the base is there and the edit fits
faults-outcome : (ro late long_ : Bool) (other : Option ℕ) (bad : Option FitBad) (h k : ℕ) → ro ≡ false → late ≡ false → bad ≡ None
    → Outcome (pad_reason (first_fault (fault_if ro ReadOnly ∷ fault_if late (NoBase h) ∷ author_fault other ∷ fit_fault bad ∷ fault_if long_ (TooLong k) ∷ [])))
faults-outcome true late long_ other bad h k p q r = absurd (subst T p tt)
faults-outcome false true long_ other bad h k p q r = absurd (subst T q tt)
faults-outcome false false long_ other (Some why) h k p q r = none_some (sym r)
faults-outcome false false long_ (Some i) None h k p q r = OfAuthor
faults-outcome false false true None None h k p q r = OfLong
faults-outcome false false false None None h k p q r = Good

module _ (w : WorldState) (n : Name) (m : Member) (g : IsGoodWorld w) (i : w.actors n ≡ Named m) where
  member : IsGood (birth_at w.pad m.birth) w.pad w.taken w.edits n m
  member = at-name w n (Named m) g i

  module _ (s : Submission) (is : m.client.sent ≡ Some s) where
    is-edit : is_edit s.change.edit ≡ true
    is-edit = let f = (member.sent_fits s is).fit in both_true _ _ f.settled (true_pieces s.change.edit.places s.change.edit.last f.pieces)

    fault : (l : Seat) → seat_of w.pad m.client.session ≡ Some l → (o : Option Why) → l.end ≡ o → Outcome (pad_reason (live_fault w.pad l o s.base s.change))
    fault l f (Some why) h = OfDead
    fault l f None h =
        let gm = member in
        let hb = gm.newest l f h in
        let p : s.base ≤ head (newest w.pad) = subst (λ k. s.base ≤ head (birth_at w.pad k)) hb (let b = gm.sound.base s is in let r = gm.sound.rev in omega (arith, b, r)) in
        let q : IsTrueChange s.change (doc_at (newest w.pad) s.base) = subst (λ k. IsTrueChange s.change (doc_at (birth_at w.pad k) s.base)) hb (gm.sent_fits s is) in
        faults-outcome l.read_only (nat_lt (head (newest w.pad)) s.base) _ (first_other l.author 0 s.change.runs) (fit_bad s.change (doc_at (newest w.pad) s.base)) (head (newest w.pad)) _
        (gm.writes l f) (less-not (head (newest w.pad)) s.base p) (not_refused s.change (doc_at (newest w.pad) s.base) (true-fits s.change (doc_at (newest w.pad) s.base) q))

    seat-outcome : (o : Option Seat) → seat_of w.pad m.client.session ≡ o → Outcome (pad_reason (seat_fault w.pad o s.base s.change))
    seat-outcome None f = OfDead
    seat-outcome (Some l) f = fault l f l.end refl

    good-reason : IsGoodReason (reason w.pad m.client.session (as_message m s))
    good-reason = subst IsGoodReason (ap (λ t. if t then pad_reason (refusal w.pad m.client.session s.base s.change) else Some (Unread None)) (sym is-edit)) (outcome-good (seat-outcome (seat_of w.pad m.client.session) refl))

  pub good-fitting : AreNeverFaulty w.pad m.conn
  good-fitting msg among = go member.up
    where
      go : (m.conn.up ≡ []) ⊎ ((s : Submission) × (m.client.sent ≡ Some s) × (s.session ≡ m.client.session) × (m.conn.up ≡ as_message m s ∷ []) × IsUntaken w.taken m.number) → IsGoodReason (reason w.pad m.conn.session msg)
      go (inl e) = absurd (subst (λ us. Among msg us) e among)
      go (inr u) = only (subst (λ us. Among msg us) u.3 among)
        where
          only : (msg ≡ as_message m u.0) ⊎ ⊥ → IsGoodReason (reason w.pad m.conn.session msg)
          only (inl e) = subst (λ (x : Message). IsGoodReason (reason w.pad m.conn.session x)) (sym e)
              (subst (λ s. IsGoodReason (reason w.pad s (as_message m u.0))) member.current (good-reason u.0 u.1))
          only (inr e) = absurd e

pub good-headline : (w : WorldState) → IsGoodWorld w → Headline w
good-headline w g = record {
  taken = takes-admissible w;
  once = record {
    once = once-same w.taken g.once;
    apart = g.apart;
    known = λ number h. let r = in-among w.taken number (g.known number h) in (r.0, r.1, r.2, recorded w.pad r.0 (g.rebased r.0 r.1));
    marked = g.marked;
  };
  rebased = record { edits = g.rebased; makers = g.numbers; newlines = g.pad.newlines };
  shows = λ n m i none id at_head. good-shows (birth_at w.pad m.birth) m.client (at-name w n (Named m) g i).sound (none-there m.client.sent none) (not-not (is_identity m.client.local) id) at_head;
  fitting = λ n m i. good-fitting w n m g i;
}

pub headline : (limits : Limits) (id : Text) (events : List Event) → Headline (after limits id events)
headline limits id events = good-headline (after limits id events) (run-good events (start limits id) (start-good limits id))
