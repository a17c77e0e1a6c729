-- What is recorded of an event that was played.
use Rattle.std.proofs.Common.{◌≡◌, ℕ, Bool, true, List, Option, None, sym, ap, ◌∙◌, subst}
use Rattle.ep_outside.specs.Disk.{Contents}
use Rattle.ep_history.specs.declared.record.Record.{Record}
use Rattle.ep_world.specs.Kepts.{Kepts}
use Rattle.ep_schedule.specs.World.{WorldState}
use Rattle.ep_event.specs.declared.event.Event.{Event as Told}
use Rattle.ep_event.specs.declared.shown.Shown.{Shown}
use Rattle.ep_world.specs.declared.world.World.{World}
use Rattle.ep_world.specs.Events.{event_at, happened, kept_happened}
use Rattle.ep_world.specs.Journal.{Decides, behind, full_for, journal_after, record_at, shows_full}
use Rattle.ep_world.specs.Shows.{shows}
use Rattle.ep_world.specs.Standing.{IsPlayed, StandsFor}
use Rattle.ep_world.specs.Standing.IsPlayed.{IsEvent}

module _ {D : Type 0} (told_by : D → Option Contents) (failures : D → ℕ) (stops_alone : D → Bool) (alone : Bool) (rs : List Record) where
  -- no stop, which records this or nothing, for which there is room
  pub recorded : (w : WorldState) (ks : Kepts) (now : ℕ) (e : Told) (new : World D) (shown : Shown) (o : Option Record) → shown ≡ shows w ks now true e → record_at w now e ≡ o → full_for rs w now true e ≡ None
      → ((qs : List Record) → journal_after qs w now true e ≡ behind qs (record_at w now e)) → Decides rs w now e true
      → StandsFor told_by failures stops_alone alone (behind rs o) new (happened w (event_at w ks now true e)) (kept_happened w ks e (event_at w ks now true e))
      → IsPlayed told_by failures stops_alone alone rs w ks now e new shown
  recorded w ks now e new shown o is r f after d s =
      IsEvent true is (ap (shows_full e) f) (λ _. d)
      (subst (λ q. StandsFor told_by failures stops_alone alone q new (happened w (event_at w ks now true e)) (kept_happened w ks e (event_at w ks now true e)))
      (sym (after rs ∙ ap (behind rs) r)) s)
