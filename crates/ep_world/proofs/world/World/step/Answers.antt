use Rattle.std.proofs.Common.{◌≡◌, sym, subst, None, Some}
use Rattle.ep_event.specs.declared.event.Event.TheVariants as event
use Rattle.ep_world.specs.Standing.{Plays, Ends}
use Rattle.ep_world.proofs.world.World.step.Goals as goal

pub returns-in-Edit-clause-plays : goal.returns-in-Edit-clause-plays
returns-in-Edit-clause-plays g c =
    let e : c.args.event ≡ event.Edit c.in-Edit.name c.in-Edit.edit = cc (c.in-Edit.is, c.in-Edit.name-is, c.in-Edit.edit-is) in
    subst (λ x. Plays g.D.Disk.told g.D.Device.failures g.D.Disk.stops_alone c.args.self.now c.args.now x c.edit.result c.edit.new.self) (sym e) (c.edit.ensures.plays c.args.now)

pub returns-in-Submit-clause-plays : goal.returns-in-Submit-clause-plays
returns-in-Submit-clause-plays g c =
    let e : c.args.event ≡ event.Submit c.in-Submit.name = cc (c.in-Submit.is, c.in-Submit.name-is) in
    subst (λ x. Plays g.D.Disk.told g.D.Device.failures g.D.Disk.stops_alone c.args.self.now c.args.now x c.submit.result c.submit.new.self) (sym e) (c.submit.ensures.plays c.args.now)

pub returns-in-Inject-clause-plays : goal.returns-in-Inject-clause-plays
returns-in-Inject-clause-plays g c =
    let e : c.args.event ≡ event.Inject c.in-Inject.name c.in-Inject.base c.in-Inject.change = cc (c.in-Inject.is, c.in-Inject.name-is, c.in-Inject.base-is, c.in-Inject.change-is) in
    subst (λ x. Plays g.D.Disk.told g.D.Device.failures g.D.Disk.stops_alone c.args.self.now c.args.now x c.inject.result c.inject.new.self) (sym e) (c.inject.ensures.plays c.args.now)

pub returns-in-Push-clause-plays : goal.returns-in-Push-clause-plays
returns-in-Push-clause-plays g c =
    let e : c.args.event ≡ event.Push c.in-Push.name = cc (c.in-Push.is, c.in-Push.name-is) in
    subst (λ x. Plays g.D.Disk.told g.D.Device.failures g.D.Disk.stops_alone c.args.self.now c.args.now x c.push.result c.push.new.self) (sym e) (c.push.ensures.plays c.args.now)

pub returns-in-Hear-clause-plays : goal.returns-in-Hear-clause-plays
returns-in-Hear-clause-plays g c =
    let e : c.args.event ≡ event.Hear c.in-Hear.name = cc (c.in-Hear.is, c.in-Hear.name-is) in
    subst (λ x. Plays g.D.Disk.told g.D.Device.failures g.D.Disk.stops_alone c.args.self.now c.args.now x c.hear.result c.hear.new.self) (sym e) (c.hear.ensures.plays c.args.now)

pub returns-in-Lose-clause-plays : goal.returns-in-Lose-clause-plays
returns-in-Lose-clause-plays g c =
    let e : c.args.event ≡ event.Lose c.in-Lose.name = cc (c.in-Lose.is, c.in-Lose.name-is) in
    subst (λ x. Plays g.D.Disk.told g.D.Device.failures g.D.Disk.stops_alone c.args.self.now c.args.now x c.lose.result c.lose.new.self) (sym e) (c.lose.ensures.plays c.args.now)

pub returns-in-Edit-clause-ends : goal.returns-in-Edit-clause-ends
returns-in-Edit-clause-ends g c =
    let e : c.args.event ≡ event.Edit c.in-Edit.name c.in-Edit.edit = cc (c.in-Edit.is, c.in-Edit.name-is, c.in-Edit.edit-is) in
    subst (λ x. Ends g.D.Disk.told g.D.Device.failures g.D.Disk.stops_alone c.args.self.now c.args.now x c.edit.result c.edit.new.self) (sym e) (c.edit.ensures.ends c.args.now)

pub returns-in-Submit-clause-ends : goal.returns-in-Submit-clause-ends
returns-in-Submit-clause-ends g c =
    let e : c.args.event ≡ event.Submit c.in-Submit.name = cc (c.in-Submit.is, c.in-Submit.name-is) in
    subst (λ x. Ends g.D.Disk.told g.D.Device.failures g.D.Disk.stops_alone c.args.self.now c.args.now x c.submit.result c.submit.new.self) (sym e) (c.submit.ensures.ends c.args.now)

pub returns-in-Inject-clause-ends : goal.returns-in-Inject-clause-ends
returns-in-Inject-clause-ends g c =
    let e : c.args.event ≡ event.Inject c.in-Inject.name c.in-Inject.base c.in-Inject.change = cc (c.in-Inject.is, c.in-Inject.name-is, c.in-Inject.base-is, c.in-Inject.change-is) in
    subst (λ x. Ends g.D.Disk.told g.D.Device.failures g.D.Disk.stops_alone c.args.self.now c.args.now x c.inject.result c.inject.new.self) (sym e) (c.inject.ensures.ends c.args.now)

pub returns-in-Push-clause-ends : goal.returns-in-Push-clause-ends
returns-in-Push-clause-ends g c =
    let e : c.args.event ≡ event.Push c.in-Push.name = cc (c.in-Push.is, c.in-Push.name-is) in
    subst (λ x. Ends g.D.Disk.told g.D.Device.failures g.D.Disk.stops_alone c.args.self.now c.args.now x c.push.result c.push.new.self) (sym e) (c.push.ensures.ends c.args.now)

pub returns-in-Hear-clause-ends : goal.returns-in-Hear-clause-ends
returns-in-Hear-clause-ends g c =
    let e : c.args.event ≡ event.Hear c.in-Hear.name = cc (c.in-Hear.is, c.in-Hear.name-is) in
    subst (λ x. Ends g.D.Disk.told g.D.Device.failures g.D.Disk.stops_alone c.args.self.now c.args.now x c.hear.result c.hear.new.self) (sym e) (c.hear.ensures.ends c.args.now)

pub returns-in-Lose-clause-ends : goal.returns-in-Lose-clause-ends
returns-in-Lose-clause-ends g c =
    let e : c.args.event ≡ event.Lose c.in-Lose.name = cc (c.in-Lose.is, c.in-Lose.name-is) in
    subst (λ x. Ends g.D.Disk.told g.D.Device.failures g.D.Disk.stops_alone c.args.self.now c.args.now x c.lose.result c.lose.new.self) (sym e) (c.lose.ensures.ends c.args.now)

pub returns-in-Create-clause-ends : goal.returns-in-Create-clause-ends
returns-in-Create-clause-ends g c =
    let e : c.args.event ≡ event.Create c.in-Create.text = cc (c.in-Create.is, c.in-Create.text-is) in
    subst (λ x. Ends g.D.Disk.told g.D.Device.failures g.D.Disk.stops_alone c.args.self.now c.args.now x c.create.result c.create.new.self) (sym e) c.create.ensures.ends

pub returns-in-SetText-clause-ends : goal.returns-in-SetText-clause-ends
returns-in-SetText-clause-ends g c =
    let e : c.args.event ≡ event.SetText c.in-SetText.text = cc (c.in-SetText.is, c.in-SetText.text-is) in
    subst (λ x. Ends g.D.Disk.told g.D.Device.failures g.D.Disk.stops_alone c.args.self.now c.args.now x c.set_text.result c.set_text.new.self) (sym e) c.set_text.ensures.ends

pub returns-in-Delete-clause-ends : goal.returns-in-Delete-clause-ends
returns-in-Delete-clause-ends g c =
    let e : c.args.event ≡ event.Delete = cc (c.in-Delete.is) in
    subst (λ x. Ends g.D.Disk.told g.D.Device.failures g.D.Disk.stops_alone c.args.self.now c.args.now x c.delete.result c.delete.new.self) (sym e) c.delete.ensures.ends

pub returns-in-Login-clause-ends : goal.returns-in-Login-clause-ends
returns-in-Login-clause-ends g c =
    let e : c.args.event ≡ event.Login c.in-Login.name = cc (c.in-Login.is, c.in-Login.name-is) in
    subst (λ x. Ends g.D.Disk.told g.D.Device.failures g.D.Disk.stops_alone c.args.self.now c.args.now x c.login.result c.login.new.self) (sym e) c.login.ensures.ends

pub returns-in-Guest-clause-ends : goal.returns-in-Guest-clause-ends
returns-in-Guest-clause-ends g c =
    let e : c.args.event ≡ event.Guest c.in-Guest.name c.in-Guest.read_only = cc (c.in-Guest.is, c.in-Guest.name-is, c.in-Guest.read_only-is) in
    subst (λ x. Ends g.D.Disk.told g.D.Device.failures g.D.Disk.stops_alone c.args.self.now c.args.now x c.visit.result c.visit.new.self) (sym e) c.visit.ensures.ends

pub returns-in-Take-clause-ends : goal.returns-in-Take-clause-ends
returns-in-Take-clause-ends g c =
    let e : c.args.event ≡ event.Take c.in-Take.name = cc (c.in-Take.is, c.in-Take.name-is) in
    subst (λ x. Ends g.D.Disk.told g.D.Device.failures g.D.Disk.stops_alone c.args.self.now c.args.now x c.take.result c.take.new.self) (sym e) c.take.ensures.ends

pub returns-in-Late-clause-ends : goal.returns-in-Late-clause-ends
returns-in-Late-clause-ends g c =
    let e : c.args.event ≡ event.Late c.in-Late.name = cc (c.in-Late.is, c.in-Late.name-is) in
    subst (λ x. Ends g.D.Disk.told g.D.Device.failures g.D.Disk.stops_alone c.args.self.now c.args.now x c.late.result c.late.new.self) (sym e) c.late.ensures.ends

pub returns-in-Resume-clause-ends : goal.returns-in-Resume-clause-ends
returns-in-Resume-clause-ends g c =
    let e : c.args.event ≡ event.Resume c.in-Resume.name = cc (c.in-Resume.is, c.in-Resume.name-is) in
    subst (λ x. Ends g.D.Disk.told g.D.Device.failures g.D.Disk.stops_alone c.args.self.now c.args.now x c.resume.result c.resume.new.self) (sym e) c.resume.ensures.ends

pub returns-in-Stop-None-clause-ends : goal.returns-in-Stop-None-clause-ends
returns-in-Stop-None-clause-ends g c =
    let e : c.args.event ≡ event.Stop None = cc (c.in-Stop-None.is, c.in-Stop-None.at-is) in
    subst (λ x. Ends g.D.Disk.told g.D.Device.failures g.D.Disk.stops_alone c.args.self.now c.args.now x c.crash.result c.crash.new.self) (sym e) c.crash.ensures.ends

pub returns-in-Stop-Some-clause-ends : goal.returns-in-Stop-Some-clause-ends
returns-in-Stop-Some-clause-ends g c =
    let e : c.args.event ≡ event.Stop (Some c.in-Stop-Some.at) = cc (c.in-Stop-Some.is, c.in-Stop-Some.at-is, c.in-Stop-Some.at-is') in
    subst (λ x. Ends g.D.Disk.told g.D.Device.failures g.D.Disk.stops_alone c.args.self.now c.args.now x c.stop.result c.stop.new.self) (sym e) c.stop.ensures.ends

pub returns-in-Undo-clause-plays : goal.returns-in-Undo-clause-plays
returns-in-Undo-clause-plays g c =
    let e : c.args.event ≡ event.Undo c.in-Undo.name = cc (c.in-Undo.is, c.in-Undo.name-is) in
    subst (λ x. Plays g.D.Disk.told g.D.Device.failures g.D.Disk.stops_alone c.args.self.now c.args.now x c.remake.result c.remake.new.self) (sym e) (c.remake.ensures.plays c.args.now)

pub returns-in-Undo-clause-ends : goal.returns-in-Undo-clause-ends
returns-in-Undo-clause-ends g c =
    let e : c.args.event ≡ event.Undo c.in-Undo.name = cc (c.in-Undo.is, c.in-Undo.name-is) in
    subst (λ x. Ends g.D.Disk.told g.D.Device.failures g.D.Disk.stops_alone c.args.self.now c.args.now x c.remake.result c.remake.new.self) (sym e) (c.remake.ensures.ends c.args.now)

pub returns-in-Redo-clause-plays : goal.returns-in-Redo-clause-plays
returns-in-Redo-clause-plays g c =
    let e : c.args.event ≡ event.Redo c.in-Redo.name = cc (c.in-Redo.is, c.in-Redo.name-is) in
    subst (λ x. Plays g.D.Disk.told g.D.Device.failures g.D.Disk.stops_alone c.args.self.now c.args.now x c.remake-in-Redo.result c.remake-in-Redo.new.self) (sym e) (c.remake-in-Redo.ensures.plays c.args.now)

pub returns-in-Redo-clause-ends : goal.returns-in-Redo-clause-ends
returns-in-Redo-clause-ends g c =
    let e : c.args.event ≡ event.Redo c.in-Redo.name = cc (c.in-Redo.is, c.in-Redo.name-is) in
    subst (λ x. Ends g.D.Disk.told g.D.Device.failures g.D.Disk.stops_alone c.args.self.now c.args.now x c.remake-in-Redo.result c.remake-in-Redo.new.self) (sym e) (c.remake-in-Redo.ensures.ends c.args.now)
