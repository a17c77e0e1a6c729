-- Events that were played.
use Rattle.std.proofs.Common.{◌≡◌, ℕ, Bool, true, false, not, List, Option, Some, None, refl, sym, ap, ◌∙◌, subst}
use Rattle.std.specs.Prelude.{Ok}
use Rattle.ep_outside.specs.Disk.{Contents}
use Rattle.ep_history.specs.declared.pad_bad.PadBad.{PadBad}
use Rattle.ep_history.specs.declared.pad_bad.PadBad.TheVariants.{JournalFull}
use Rattle.ep_history.specs.declared.record.Record.{Record}
use Rattle.ep_history.proofs.Lists.{none_some, some_same}
use Rattle.ep_schedule.specs.World.{WorldState, Event as AnEvent}
use Rattle.ep_world.specs.Kepts.{Kepts, nobodies}
use Rattle.ep_event.specs.declared.event.Event.{Event}
use Rattle.ep_event.specs.declared.event.Event.TheVariants.{Create, SetText, Delete, Login, Guest, Edit, Submit, Inject, Take, Late, Push, Hear, Lose, Resume, Stop, Undo, Redo}
use Rattle.ep_event.specs.declared.shown.Shown.{Shown}
use Rattle.ep_world.specs.Events.{event_at, happened, kept_happened}
use Rattle.ep_world.specs.Shows.{shows}
use Rattle.ep_world.specs.Journal.{full_at, full_for, journal_after, no_room, shows_full}
use Rattle.ep_world.specs.Standing.{Comes, IsPlayed, IsRun}
use Rattle.ep_world.specs.Standing.IsPlayed.{IsEvent, HasNoRoom}
use Rattle.ep_world.specs.declared.world.World.{World}
use Rattle.ep_world.proofs.Lengths.{full_bytes}
use Rattle.ep_world.proofs.Leading.{more-event}
use Rattle.ep_make.specs.Made.{IsOf, is_overfull, is_unscheduled}
use Rattle.ep_make.specs.Round.{after, does, is_nothing}

-- a journal without room is shown as one
overfull : (e : Event) (b : PadBad) (s : Shown) → (bytes : ℕ) × (b ≡ JournalFull bytes) → no_room e b ≡ Some s → is_overfull s ≡ true
overfull e b s f h = go e f.0 (sym (ap (no_room e) f.1) ∙ h)
  where
    go : (e : Event) (bytes : ℕ) → no_room e (JournalFull bytes) ≡ Some s → is_overfull s ≡ true
    go (Create text) bytes h = sym (ap is_overfull (some_same h))
    go (SetText text) bytes h = sym (ap is_overfull (some_same h))
    go Delete bytes h = sym (ap is_overfull (some_same h))
    go (Login n) bytes h = sym (ap is_overfull (some_same h))
    go (Guest n read_only) bytes h = sym (ap is_overfull (some_same h))
    go (Edit n e) bytes h = none_some h
    go (Undo n) bytes h = none_some h
    go (Redo n) bytes h = none_some h
    go (Submit n) bytes h = none_some h
    go (Inject n base change) bytes h = none_some h
    go (Take n) bytes h = sym (ap is_overfull (some_same h))
    go (Late n) bytes h = none_some h
    go (Push n) bytes h = none_some h
    go (Hear n) bytes h = none_some h
    go (Lose n) bytes h = none_some h
    go (Resume n) bytes h = sym (ap is_overfull (some_same h))
    go (Stop None) bytes h = sym (ap is_overfull (some_same h))
    go (Stop (Some at)) bytes h = sym (ap is_overfull (some_same h))

-- whatever has no room is shown so
overfull-at : (rs : List Record) (w : WorldState) (kept : Bool) (e : Event) (s : Shown) → full_at rs w 0 kept e ≡ Some s → is_overfull s ≡ true
overfull-at rs w kept e s h = go (full_for rs w 0 kept e) refl h
  where
    go : (f : Option PadBad) → full_for rs w 0 kept e ≡ f → shows_full e f ≡ Some s → is_overfull s ≡ true
    go None q h = none_some h
    go (Some b) q h = overfull e b s (full_bytes rs w 0 kept e b q) h

-- the choice is that of a stop alone, and a stack that of an undo and a redo
same_event : (w : WorldState) (ks : Kepts) (kept : Bool) (e : Event) → is_unscheduled e ≡ false → event_at w ks 0 kept e ≡ event_at w nobodies 0 false e
same_event w ks kept (Create text) h = refl
same_event w ks kept (SetText text) h = refl
same_event w ks kept Delete h = refl
same_event w ks kept (Login n) h = refl
same_event w ks kept (Guest n read_only) h = refl
same_event w ks kept (Edit n e) h = refl
same_event w ks kept (Submit n) h = refl
same_event w ks kept (Inject n base change) h = refl
same_event w ks kept (Take n) h = refl
same_event w ks kept (Late n) h = refl
same_event w ks kept (Push n) h = refl
same_event w ks kept (Hear n) h = refl
same_event w ks kept (Lose n) h = refl
same_event w ks kept (Resume n) h = refl
same_event w ks kept (Undo n) h = absurd (let e : true ≡ false = h in cc)
same_event w ks kept (Redo n) h = absurd (let e : true ≡ false = h in cc)
same_event w ks kept (Stop at) h = absurd (let e : true ≡ false = h in cc)

same_shown : (w : WorldState) (ks : Kepts) (kept : Bool) (e : Event) → is_unscheduled e ≡ false → shows w ks 0 kept e ≡ shows w nobodies 0 false e
same_shown w ks kept (Create text) h = refl
same_shown w ks kept (SetText text) h = refl
same_shown w ks kept Delete h = refl
same_shown w ks kept (Login n) h = refl
same_shown w ks kept (Guest n read_only) h = refl
same_shown w ks kept (Edit n e) h = refl
same_shown w ks kept (Submit n) h = refl
same_shown w ks kept (Inject n base change) h = refl
same_shown w ks kept (Take n) h = refl
same_shown w ks kept (Late n) h = refl
same_shown w ks kept (Push n) h = refl
same_shown w ks kept (Hear n) h = refl
same_shown w ks kept (Lose n) h = refl
same_shown w ks kept (Resume n) h = refl
same_shown w ks kept (Undo n) h = absurd (let e : true ≡ false = h in cc)
same_shown w ks kept (Redo n) h = absurd (let e : true ≡ false = h in cc)
same_shown w ks kept (Stop at) h = absurd (let e : true ≡ false = h in cc)

module _ {D : Type 0} (told : D → Option Contents) (failures : D → ℕ) (stops_alone : D → Bool) where
  played : (alone : Bool) (rs : List Record) (w : WorldState) (ks : Kepts) (e : Event) (new : World D) (s : Shown) (b : Bool) → b ≡ is_nothing s → IsRun w ks → is_unscheduled e ≡ false → is_overfull s ≡ false
      → IsPlayed told failures stops_alone alone rs w ks 0 e new s → (not b ≡ does w e) × IsOf told failures stops_alone new (after w e)
  unfolding after does
  played alone rs w ks e new s b is run plain f (IsEvent kept shown room d stands) = (
    ap not (is ∙ ap is_nothing (shown ∙ same_shown w ks kept e plain)),
    subst (λ (o : Option AnEvent). IsOf told failures stops_alone new (happened w o)) (same_event w ks kept e plain)
        (record { kepts = kept_happened w ks e (event_at w ks 0 kept e); alone = alone; journal = journal_after rs w 0 kept e; run = more-event w ks 0 kept e run; stands = stands }),
  )
  played alone rs w ks e new s b is run plain f (HasNoRoom kept full d stands) = absurd (let h : true ≡ false = sym (overfull-at rs w kept e s full) ∙ f in cc)

  -- what an event came to that is shown, and no stop
  pub plays : (w : WorldState) (old new : World D) (e : Event) (s : Shown) (b : Bool) → b ≡ is_nothing s → is_unscheduled e ≡ false → is_overfull s ≡ false → (at : IsOf told failures stops_alone old w)
      → Comes told failures stops_alone at.alone at.journal w at.kepts 0 e new (Ok s) → (not b ≡ does w e) × IsOf told failures stops_alone new (after w e)
  plays w old new e s b is plain f at h = played at.alone at.journal w at.kepts e new s b is at.run plain f h.2
