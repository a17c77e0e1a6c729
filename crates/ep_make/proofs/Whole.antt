-- A schedule's beginning.
use Rattle.std.proofs.Common.{◌≡◌, ℕ, Bool, List, [], Option, Some, sym, ap, ◌∙◌, subst, refl}
use Rattle.ep_units.specs.Text.{Text}
use Rattle.ep_outside.specs.Disk.{Contents, settled}
use Rattle.ep_pad_file.specs.Standing.{Holds}
use Rattle.ep_world.specs.Kepts.{nobodies}
use Rattle.ep_schedule.specs.World.{start}
use Rattle.ep_event.specs.declared.event.Event.TheVariants.{Create}
use Rattle.ep_history.specs.declared.record.Record.{Record}
use Rattle.ep_world.specs.Standing.{StandsFor}
use Rattle.ep_world.specs.declared.world.World.{World}
use Rattle.ep_world.proofs.Leading.{begins}
use Rattle.ep_make.specs.Made.{IsOf}
use Rattle.ep_make.specs.Round.{after}
use Rattle.ep_make.specs.Schedule.{make_limits, new_world, pad_name}

-- an empty file stands for no records
pub holds_nothing : (o : Option Contents) (bytes : List ℕ) → o ≡ Some (settled bytes) → bytes ≡ [] → Holds o []
holds_nothing o bytes e n = subst (λ o. Holds o []) (sym (e ∙ ap (λ b. Some (settled b)) n)) (record { bytes = refl; records = tt })

module _ {D : Type 0} (told : D → Option Contents) (failures : D → ℕ) (stops_alone : D → Bool) (world : World D) (text : Text) where
  pub opened : (alone : Bool) (journal : List Record) → text ≡ pad_name → StandsFor told failures stops_alone alone journal world (start make_limits text) nobodies → IsOf told failures stops_alone world (start make_limits pad_name)
  opened alone journal is stands = record {
    kepts = nobodies;
    alone = alone;
    journal = journal;
    run = begins make_limits pad_name;
    stands = subst (λ i. StandsFor told failures stops_alone alone journal world (start make_limits i) nobodies) is stands;
  }

  pub created : text ≡ [] → IsOf told failures stops_alone world (after (start make_limits pad_name) (Create text)) → IsOf told failures stops_alone world new_world
  created is h = subst (λ t. IsOf told failures stops_alone world (after (start make_limits pad_name) (Create t))) is h
