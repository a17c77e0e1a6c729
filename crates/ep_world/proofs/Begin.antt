-- A world begins on an empty disk.
use Rattle.std.proofs.Common.{◌≡◌, ℕ, Bool, true, false, [], ◌∷◌, ◌++◌, Option, Some, inl, ap, ◌∙◌}
use Rattle.ep_units.specs.Text.{Text}
use Rattle.ep_outside.specs.Disk.{Contents}
use Rattle.ep_outside.specs.declared.limits.Limits.{Limits}
use Rattle.ep_history.specs.Machine.{MachineState, IsFirst, journal_fault, open_record, settled}
use Rattle.ep_history.specs.Records.{told}
use Rattle.ep_history.specs.declared.pad_bad.PadBad.{PadBad}
use Rattle.ep_history.specs.declared.pad_bad.PadBad.TheVariants as bad
use Rattle.ep_history.specs.declared.record.Record.TheVariants as record_of
use Rattle.ep_history.proofs.Steps.{first-kept}
use Rattle.ep_schedule.specs.World.{start}
use Rattle.ep_world.specs.Kepts.{nobodies}
use Rattle.ep_pad.specs.Opening.{IsRefused, found as left_on}
use Rattle.ep_pad.specs.Standing.{Stands, opening}
use Rattle.ep_pad_file.specs.Standing.{size}
use Rattle.ep_world.specs.declared.world.World.{World}
use Rattle.ep_members.specs.Actors.{found}
use Rattle.ep_world.specs.Failing.{failed_opening}
use Rattle.ep_world.specs.Journal.{begun, full_by}
use Rattle.ep_world.specs.Standing.{IsUnbegun, StandsFor}
use Rattle.ep_world.proofs.Counting.{sleeps-full}

module _ {D : Type 0} (told_by : D → Option Contents) (failures : D → ℕ) (stops_alone : D → Bool) (alone : Bool) where
  pub begins : (world : World D) (limits : Limits) (id : Text) (st : MachineState) → IsFirst st → st.records ≡ [] ++ opening (told limits []) ∷ []
      → Stands told_by failures world.machine st → world.machine.limits ≡ limits → world.id ≡ id → world.actors ≡ [] → stops_alone world.machine.disk ≡ alone → StandsFor told_by failures stops_alone alone begun world (start limits id) nobodies
  begins world limits id st first records stands held same nobody mark = record {
    machine = inl (record {
      state = st;
      stands = stands;
      kept = first-kept st first;
      is_open = first.is_open;
      records = records;
      pad = first.told ∙ ap (told st.pad.limits) records ∙ ap (λ l. told l ([] ++ opening (told limits []) ∷ [])) (stands.limits ∙ held);
      mark = mark;
    });
    id = same;
    actors = λ n. ap (λ s. found s n) nobody;
  }

-- why none begins
pub unbegun : {D : Type 0} (told_by : D → Option Contents) (failures : D → ℕ) (disk back : D) (limits : Limits) (id : Text) (why : PadBad) → IsRefused told_by failures limits disk back why
    → IsUnbegun told_by failures disk limits id (failed_opening why)
unbegun told_by failures disk back limits id (bad.Store n) r = (back, r.cause)
unbegun told_by failures disk back limits id (bad.JournalFull n) r = λ h.
    let x = r.keeps [] [] h tt in
    let f = sleeps-full (left_on limits [] [] x.0) x.1 n x.2 in
    first f.0 x.0 f.1
  where
    first : (k : Bool) (faults : ℕ) → journal_fault size (settled k (left_on limits [] [] faults)) (open_record (settled k (left_on limits [] [] faults))) ≡ Some (bad.JournalFull n)
        → full_by [] (start limits id).pad (Some (record_of.Open 1)) ≡ Some (bad.JournalFull n)
    first true faults e = e
    first false faults e = e
unbegun told_by failures disk back limits id why r = tt
