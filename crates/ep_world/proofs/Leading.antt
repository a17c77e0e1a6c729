-- What events lead to is what some events of the rules lead to.
use Rattle.std.specs.Prelude.{IsSome, ◌&&◌}
use Rattle.std.proofs.Common.{◌≡◌, inl, inr, ℕ, Bool, true, false, List, [], ◌∷◌, ◌++◌, Option, Some, None, Ok, Err, refl, sym, ap, ◌∙◌, subst}
use Rattle.ep_units.specs.Text.{Text}
use Rattle.ep_outside.specs.Disk.{Contents}
use Rattle.ep_outside.specs.declared.limits.Limits.{Limits}
use Rattle.ep_schedule.specs.World.{WorldState, Event, happens, run, start}
use Rattle.ep_schedule.specs.Kepts.{AreKept, AreSubmittedAlike, Kepts as AreClients, kept_happens as client_happens, nobodies as no_clients, run_kept}
use Rattle.ep_world.specs.Kepts.{Kepts, clients_of, nobodies}
use Rattle.ep_schedule.specs.Headline.{Headline}
use Rattle.ep_schedule.specs.Hearing.{AreDue}
use Rattle.ep_schedule.proofs.Hearing.{due}
use Rattle.ep_schedule.proofs.Keep.{kept-law}
use Rattle.ep_schedule.proofs.Parts.{headline}
use Rattle.ep_event.specs.declared.event.Event.{Event as Told}
use Rattle.ep_event.specs.declared.shown.Shown.{Shown}
use Rattle.ep_world.specs.declared.bad.WorldBad.TheVariants as world_bad
use Rattle.ep_world.specs.declared.world.World.{World}
use Rattle.ep_world.specs.Events.{event_at, happened, has_text, is_known, kept_happened}
use Rattle.ep_world.specs.Journal.{begun, journal_after, journal_full}
use Rattle.ep_world.specs.Leading.{Becomes, BecomesIf, IsScheduled, Lead, Stays}
use Rattle.ep_world.specs.Standing.{IsPlayed, IsRun, Plays, StandsFor, overfull_at}
use Rattle.ep_world.specs.Standing.IsPlayed.{IsEvent, HasNoRoom}
use Rattle.ep_world.proofs.Stacked.{client_happened, event-of, overfull-of}
use Rattle.ep_history.specs.declared.record.Record.{Record}

-- ---- runs

run-more : (es : List Event) (e : Event) (w : WorldState) → run (es ++ e ∷ []) w ≡ happens (run es w) e
run-more [] e w = refl
run-more (x ∷ es) e w = run-more es e (happens w x)

kept-more : (es : List Event) (e : Event) (w : WorldState) (ks : AreClients) → run_kept (es ++ e ∷ []) w ks ≡ client_happens (run es w) (run_kept es w ks) e
kept-more [] e w ks = refl
kept-more (x ∷ es) e w ks = kept-more es e (happens w x) (client_happens w ks x)

-- one event more
more : (w : WorldState) (ks js : Kepts) (o : Option Event) → clients_of js ≡ client_happened w (clients_of ks) o → IsRun w ks → IsRun (happened w o) js
more w ks js None h r = record { limits = r.limits; id = r.id; events = r.events; world = r.world; kepts = h ∙ r.kepts }
more w ks js (Some e) h r = record {
  limits = r.limits;
  id = r.id;
  events = r.events ++ e ∷ [];
  world = ap (λ v. happens v e) r.world ∙ sym (run-more r.events e (start r.limits r.id));
  kepts = h ∙ ap (λ v. client_happens v (clients_of ks) e) r.world
      ∙ ap (λ cs. client_happens (run r.events (start r.limits r.id)) cs e) r.kepts
      ∙ sym (kept-more r.events e (start r.limits r.id) no_clients);
}

-- what was asked for, and what a journal without room made of it
pub more-event : (w : WorldState) (ks : Kepts) (now : ℕ) (b : Bool) (e : Told) → IsRun w ks → IsRun (happened w (event_at w ks now b e)) (kept_happened w ks e (event_at w ks now b e))
more-event w ks now b e r = more w ks (kept_happened w ks e (event_at w ks now b e)) (event_at w ks now b e) (event-of w ks now b e) r

pub more-full : (rs : List Record) (w : WorldState) (ks : Kepts) (now : ℕ) (b : Bool) (e : Told) → IsRun w ks → IsRun (happened w (overfull_at rs w now b e)) (kept_happened w ks e (overfull_at rs w now b e))
more-full rs w ks now b e r = more w ks (kept_happened w ks e (overfull_at rs w now b e)) (overfull_at rs w now b e) (overfull-of rs w ks now b e) r

pub begins : (limits : Limits) (id : Text) → IsRun (start limits id) nobodies
begins limits id = record { limits = limits; id = id; events = []; world = refl; kepts = refl }

-- ---- the laws of a run

pub kept : (w : WorldState) (ks : Kepts) → IsRun w ks → AreKept w (clients_of ks)
kept w ks r =
    subst (λ v. AreKept v (clients_of ks)) (sym r.world)
    (subst (AreKept (run r.events (start r.limits r.id))) (sym r.kepts) ((kept-law r.limits r.id r.events).0))

pub sent : (w : WorldState) (ks : Kepts) → IsRun w ks → AreSubmittedAlike w (clients_of ks)
sent w ks r =
    subst (λ v. AreSubmittedAlike v (clients_of ks)) (sym r.world)
    (subst (AreSubmittedAlike (run r.events (start r.limits r.id))) (sym r.kepts) ((kept-law r.limits r.id r.events).1))

pub scheduled : (w : WorldState) (ks : Kepts) → IsRun w ks → IsScheduled w ks
scheduled w ks r = record {
  headline = subst Headline (sym r.world) (headline r.limits r.id r.events);
  shown = kept w ks r;
  sent = sent w ks r;
  heard = subst AreDue (sym r.world) (due r.limits r.id r.events);
}

-- ---- lists of events

pub leads-more : (alone : Bool) (rs : List Record) (w : WorldState) (ks : Kepts) (es : List (ℕ × Told)) (qs : List Record) (v : WorldState) (js : Kepts) (e : ℕ × Told) (o : Option Event) (ps : List Record)
    → Lead alone rs w ks es qs v js → Becomes alone qs v js e o ps → Lead alone rs w ks (es ++ e ∷ []) ps (happened v o) (kept_happened v js e.1 o)
leads-more alone rs w ks [] qs v js e o ps l b = (
  o,
  ps,
  subst (λ q. Becomes alone q w ks e o ps) l.0 (subst (λ x. Becomes alone qs x ks e o ps) l.1 (subst (λ x. Becomes alone qs v x e o ps) l.2 b)),
  (refl, ap (λ x. happened x o) l.1, ap (λ x. kept_happened x js e.1 o) l.1 ∙ ap (λ x. kept_happened w x e.1 o) l.2),
)
leads-more alone rs w ks (x ∷ es) qs v js e o ps l b = (l.0, l.1, l.2, leads-more alone l.1 (happened w l.0) (kept_happened w ks x.1 l.0) es qs v js e o ps l.3 b)

-- an event is played where somebody of its kind has the name and it brings a text
is-played : (w : WorldState) (e : Told) → is_known w e ≡ true → has_text e ≡ true → is_known w e && has_text e ≡ true
is-played w e k t = ap (λ b. b && has_text e) k ∙ t

becomes-played : (alone : Bool) (rs : List Record) (w : WorldState) (ks : Kepts) (e : ℕ × Told) (o : Option Event) (qs : List Record) → is_known w e.1 && has_text e.1 ≡ true → BecomesIf true alone rs w ks e o qs
    → Becomes alone rs w ks e o qs
becomes-played alone rs w ks e o qs p b = subst (λ t. BecomesIf t alone rs w ks e o qs) (sym p) b

becomes-nothing : (alone : Bool) (rs : List Record) (w : WorldState) (ks : Kepts) (e : ℕ × Told) → is_known w e.1 && has_text e.1 ≡ false → Becomes alone rs w ks e None rs
becomes-nothing alone rs w ks e p = subst (λ t. BecomesIf t alone rs w ks e None rs) (sym p) (refl, refl)

textless : (b : Bool) (e : Told) → has_text e ≡ false → b && has_text e ≡ false
textless true e t = t
textless false e t = refl

module _ {D : Type 0} (told_by : D → Option Contents) (failures : D → ℕ) (stops_alone : D → Bool) (alone : Bool) where
  -- an event that is played, or isn't
  played : (new : World D) (first w : WorldState) (ks : Kepts) (rs : List Record) (es : List (ℕ × Told)) (e : ℕ × Told) (shown : Shown) → Lead alone begun first nobodies es rs w ks → IsRun w ks
      → is_known w e.1 && has_text e.1 ≡ true → IsPlayed told_by failures stops_alone alone rs w ks e.0 e.1 new shown → Stays told_by failures stops_alone alone new first (es ++ e ∷ [])
  played new first w ks rs es e shown l r p (IsEvent kept h room d s) =
      let o = event_at w ks e.0 kept e.1 in
      let qs = journal_after rs w e.0 kept e.1 in
      record {
        journal = qs;
        world = happened w o;
        kepts = kept_happened w ks e.1 o;
        leads = leads-more alone begun first nobodies es rs w ks e o qs l (becomes-played alone rs w ks e o qs p (inl (kept, refl, room, d, refl)));
        run = more-event w ks e.0 kept e.1 r;
        stands = s;
      }
  played new first w ks rs es e shown l r p (HasNoRoom kept h d s) =
      let o = overfull_at rs w e.0 kept e.1 in
      let qs = journal_full rs w e.0 kept e.1 in
      record {
        journal = qs;
        world = happened w o;
        kepts = kept_happened w ks e.1 o;
        leads = leads-more alone begun first nobodies es rs w ks e o qs l (becomes-played alone rs w ks e o qs p (inr (kept, refl, subst IsSome (sym h) refl, d, refl)));
        run = more-full rs w ks e.0 kept e.1 r;
        stands = s;
      }

  pub stays : (old new : World D) (first : WorldState) (es : List (ℕ × Told)) (e : ℕ × Told) (shown : Shown) → Stays told_by failures stops_alone alone old first es
      → Plays told_by failures stops_alone old e.0 e.1 (Ok shown) new → Stays told_by failures stops_alone alone new first (es ++ e ∷ [])
  stays old new first es e shown s p =
      let c = p alone s.journal s.world s.kepts s.run s.stands in
      played new first s.world s.kepts s.journal es e shown s.leads s.run (is-played s.world e.1 c.0 c.1) c.2

  -- one that isn't played, for which the world stands as before
  pub passes : (new : World D) (first w : WorldState) (ks : Kepts) (rs : List Record) (es : List (ℕ × Told)) (e : ℕ × Told) → Lead alone begun first nobodies es rs w ks → IsRun w ks
      → is_known w e.1 && has_text e.1 ≡ false → StandsFor told_by failures stops_alone alone rs new w ks → Stays told_by failures stops_alone alone new first (es ++ e ∷ [])
  passes new first w ks rs es e l r p s =
      record { journal = rs; world = w; kepts = ks; leads = leads-more alone begun first nobodies es rs w ks e None rs l (becomes-nothing alone rs w ks e p); run = r; stands = s }

  pub unknown : (old new : World D) (first : WorldState) (es : List (ℕ × Told)) (e : ℕ × Told) → Stays told_by failures stops_alone alone old first es
      → Plays told_by failures stops_alone old e.0 e.1 (Err world_bad.Unknown) new → Stays told_by failures stops_alone alone new first (es ++ e ∷ [])
  unknown old new first es e s p =
      let c = p alone s.journal s.world s.kepts s.run s.stands in
      passes new first s.world s.kepts s.journal es e s.leads s.run (ap (λ b. b && has_text e.1) c.0) c.1

  pub no-text : (old new : World D) (first : WorldState) (es : List (ℕ × Told)) (e : ℕ × Told) → Stays told_by failures stops_alone alone old first es
      → Plays told_by failures stops_alone old e.0 e.1 (Err world_bad.NoText) new → Stays told_by failures stops_alone alone new first (es ++ e ∷ [])
  no-text old new first es e s p =
      let c = p alone s.journal s.world s.kepts s.run s.stands in
      passes new first s.world s.kepts s.journal es e s.leads s.run (textless (is_known s.world e.1) e.1 c.0) c.1
