use Rattle.std.proofs.Common.{◌≡◌, Some, Ok, Err, refl}
use Rattle.ep_history.specs.declared.pad_bad.PadBad.TheVariants as bad
use Rattle.ep_world.specs.declared.world.World.{World}
use Rattle.ep_world.proofs.Showing.{gone-text-shows, no-rev-shows, shut-text-shows, text-asked, text-shows}
use Rattle.ep_history.specs.Entries.Answer.{TextAnswer}
use Rattle.ep_history.specs.Entries.Entry.{ReadText}
use Rattle.ep_world.proofs.Counting.{reads-fails}
use Rattle.ep_world.proofs.Brought.{failed-fails}
use Rattle.ep_world.proofs.world.World.text.Goals as goal

pub returns-in-Ok : goal.returns-in-Ok
returns-in-Ok g c = λ alone rs w ks s.
    let old = c.args.self.now in
    let new : World g.row.D.Denot = record { alloc = old.alloc; id = old.id; machine = c.text.new.self; actors = old.actors } in
    text-shows g.D.Disk.told g.D.Device.failures g.D.Disk.stops_alone alone rs (g.D.Device.failures old.machine.disk) old new w ks c.args.rev c.in-Ok.doc s
    (text-asked g.D.Disk.told g.D.Device.failures g.D.Disk.stops_alone alone rs old.machine c.text.new.self w.pad (Some c.args.rev) c.text.result (Ok c.in-Ok.doc) s.machine (λ st k x. let y = c.text.ensures st k x in (y.0, y.1, y.2, y.4.alone)) c.in-Ok.is) refl refl

pub returns-in-Err-Gone : goal.returns-in-Err-Gone
returns-in-Err-Gone g c = λ alone rs w ks s.
    let old = c.args.self.now in
    let new : World g.row.D.Denot = record { alloc = old.alloc; id = old.id; machine = c.text.new.self; actors = old.actors } in
    let is : c.text.result ≡ Err bad.Gone = cc (c.in-Err-Gone.is, c.in-Err-Gone.field-0-is) in
    gone-text-shows g.D.Disk.told g.D.Device.failures g.D.Disk.stops_alone alone rs (g.D.Device.failures old.machine.disk) old new w ks c.args.rev s
    (text-asked g.D.Disk.told g.D.Device.failures g.D.Disk.stops_alone alone rs old.machine c.text.new.self w.pad (Some c.args.rev) c.text.result (Err bad.Gone) s.machine (λ st k x. let y = c.text.ensures st k x in (y.0, y.1, y.2, y.4.alone)) is) refl refl

pub returns-in-Err-NoRev : goal.returns-in-Err-NoRev
returns-in-Err-NoRev g c = λ alone rs w ks s.
    let old = c.args.self.now in
    let new : World g.row.D.Denot = record { alloc = old.alloc; id = old.id; machine = c.text.new.self; actors = old.actors } in
    let is : c.text.result ≡ Err (bad.NoRev c.in-Err-NoRev.head) = cc (c.in-Err-NoRev.is, c.in-Err-NoRev.field-0-is) in
    no-rev-shows g.D.Disk.told g.D.Device.failures g.D.Disk.stops_alone alone rs (g.D.Device.failures old.machine.disk) old new w ks c.args.rev c.in-Err-NoRev.head s
    (text-asked g.D.Disk.told g.D.Device.failures g.D.Disk.stops_alone alone rs old.machine c.text.new.self w.pad (Some c.args.rev) c.text.result (Err (bad.NoRev c.in-Err-NoRev.head)) s.machine (λ st k x. let y = c.text.ensures st k x in (y.0, y.1, y.2, y.4.alone)) is) refl refl

pub returns-in-Err-JournalFull : goal.returns-in-Err-JournalFull
returns-in-Err-JournalFull g c = λ alone rs w ks s.
    let old = c.args.self.now in
    let new : World g.row.D.Denot = record { alloc = old.alloc; id = old.id; machine = c.text.new.self; actors = old.actors } in
    let is : c.text.result ≡ Err (bad.JournalFull c.in-Err-JournalFull.bytes) = cc c.in-Err-JournalFull.is in
    rw c.full.ensures
    (shut-text-shows g.D.Disk.told g.D.Device.failures g.D.Disk.stops_alone alone rs (g.D.Device.failures old.machine.disk) old new w ks c.args.rev c.in-Err-JournalFull.bytes s
    (text-asked g.D.Disk.told g.D.Device.failures g.D.Disk.stops_alone alone rs old.machine c.text.new.self w.pad (Some c.args.rev) c.text.result (Err (bad.JournalFull c.in-Err-JournalFull.bytes)) s.machine (λ st k x. let y = c.text.ensures st k x in (y.0, y.1, y.2, y.4.alone)) is) refl refl)

pub returns-in-Err : goal.returns-in-Err
returns-in-Err g c = λ alone rs w ks s.
    rw c.failure.ensures (
      failed-fails c.in-Err.bad,
      reads-fails g.D.Disk.told g.D.Device.failures g.D.Disk.stops_alone alone rs c.args.self.now.machine c.text.new.self w.pad (ReadText (Some c.args.rev)) TextAnswer c.text.result c.in-Err.bad s.machine
          (λ st k x. let y = c.text.ensures st k x in (y.0, y.1, y.2, y.4.alone)) c.in-Err.is,
    )
