use Rattle.std.proofs.Common.{◌≡◌, refl, ◌∷◌, ◌++◌, subst, []}
use Rattle.std.specs.Prelude.{IfOk, MatchResult, IfErr}
use Rattle.ep_outside.specs.Disk.{KeepsMarks}
use Rattle.ep_history.specs.Machine.{MachineState, IsFirst}
use Rattle.ep_history.specs.Records.{told}
use Rattle.ep_pad.specs.Standing.{Stands, opening}
use Rattle.ep_world.specs.declared.world.World.{World}
use Rattle.ep_world.proofs.Begin.{begins, unbegun}
use Rattle.ep_pad.specs.Opening.{IsRefused}
use Rattle.ep_world.proofs.world.World.new.Goals as goal

pub returns-in-Ok-clause-begins : goal.returns-in-Ok-clause-begins
returns-in-Ok-clause-begins g c = λ h.
    let f = subst (λ r. IfOk r (λ m. (st : MachineState) × IsFirst st × (st.records ≡ [] ++ opening (told c.args.limits []) ∷ []) × Stands g.D.Disk.told g.D.Device.failures m st)) c.in-Ok.is (c.open.ensures.first [] h tt) in
    let held = subst (λ r. IfOk r (λ m. m.limits ≡ c.args.limits)) c.in-Ok.is c.open.ensures.limits in
    let mark = subst (λ r. MatchResult r (λ m. KeepsMarks g.D.Device.is_steady g.D.Disk.stops_alone g.D.Disk.left c.args.disk m.disk) (λ refused. KeepsMarks g.D.Device.is_steady g.D.Disk.stops_alone g.D.Disk.left c.args.disk refused.back)) c.in-Ok.is c.open.ensures.marks in
    let made : World g.row.D.Denot = record { alloc = c.args.alloc; id = c.args.id; machine = c.in-Ok.machine; actors = c.new.result } in
    begins g.D.Disk.told g.D.Device.failures g.D.Disk.stops_alone (g.D.Disk.stops_alone c.args.disk) made c.args.limits c.args.id f.0 f.1 f.2 f.3 held refl c.new.ensures mark.alone

pub returns-in-Err-clause-ends : goal.returns-in-Err-clause-ends
returns-in-Err-clause-ends g c =
    let back = c.in-Err.field-0.back in
    let why = c.in-Err.field-0.why in
    let r : IsRefused g.D.Disk.told g.D.Device.failures c.args.limits c.args.disk back why =
    subst (λ r. IfErr r (λ x. IsRefused g.D.Disk.told g.D.Device.failures c.args.limits c.args.disk x.back x.why)) c.in-Err.is c.open.ensures.refused in
    rw c.opening_failure.ensures (unbegun g.D.Disk.told g.D.Device.failures c.args.disk back c.args.limits c.args.id why r)
