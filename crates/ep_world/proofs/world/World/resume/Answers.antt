use Rattle.std.proofs.Common.{Some, None, refl, ap, ◌∙◌, subst, rules}
use Rattle.ep_history.specs.Kept.{KeptClient}
use Rattle.ep_history.specs.Entries.Answer.{ResumeAnswer}
use Rattle.ep_history.specs.Entries.Entry.{Resume}
use Rattle.ep_pad.specs.Standing.{replied}
use Rattle.ep_pad_state.specs.Answering.{catch_up_of}
use Rattle.ep_world.specs.declared.world.World.{World}
use Rattle.ep_world.proofs.Calls.{MakesMarked}
use Rattle.ep_world.proofs.Resuming.{refused-turn, resumed-turn}
use Rattle.ep_event.specs.declared.event.Event.TheVariants as told
use Rattle.ep_event.specs.declared.shown.Verb.TheVariants as verb
use Rattle.ep_world.proofs.Counting.{as-err, caused-ends, err-counts, memory-caused, refused-ends}
use Rattle.ep_world.proofs.world.World.resume.Goals as goal

pub returns-in-Ok-clause-plays : goal.returns-in-Ok-clause-plays
returns-in-Ok-clause-plays g c = λ alone rs w ks r s.
    let old = c.args.self.now in
    let new : World g.row.D.Denot = record { alloc = old.alloc; id = old.id; machine = c.resume.new.self; actors = c.seat.new.self } in
    let m = c.in_ok-member in
    resumed-turn g.D.Disk.told g.D.Device.failures g.D.Disk.stops_alone alone rs old new w ks c.args.name c.args.now m.member c.lose.new.self c.resume-in-Ok.new.self c.in_ok-grant.grant c.rev.result c.in-Ok.told r s refl
    (record { between = c.member.new.actors; taken = m.ensures.taken.0; without = m.ensures.taken.1; seated = c.in_ok-seat-in-Ok.ensures })
    c.lose.ensures c.resume-in-Ok.ensures (c.in_ok-grant.ensures w s.id) (c.rev.ensures ∙ ap (λ (k : KeptClient). k.rev) c.client.ensures.shown)
    (subst (λ y. MakesMarked g.D.Disk.told g.D.Device.failures g.D.Disk.stops_alone alone old.machine (Resume c.in_ok-grant.grant c.rev.result (Some c.lose.new.self.birth) None c.args.now) (replied (λ x. ResumeAnswer (catch_up_of x)) y) c.resume.new.self)
    c.in-Ok.is (λ st k x. let y = c.resume.ensures st k x in (y.0, y.1, y.2, y.4.alone)))

pub returns-clause-plays : goal.returns-clause-plays
returns-clause-plays g c = λ alone rs w ks r s.
    let old = c.args.self.now in
    let new : World g.row.D.Denot = record { alloc = old.alloc; id = old.id; machine = c.resume.new.self; actors = c.seat-in-Err.new.self } in
    let m = c.in_ok-member in
    rw c.refused.ensures
    (refused-turn g.D.Disk.told g.D.Device.failures g.D.Disk.stops_alone alone rs old new w ks c.args.name c.args.now m.member c.lose.new.self c.in_ok-grant.grant c.rev.result c.in-Err.bad r s refl
    (record { between = c.member.new.actors; taken = m.ensures.taken.0; without = m.ensures.taken.1; seated = c.in_ok-seat-in-Err.ensures })
    c.lose.ensures (c.in_ok-grant.ensures w s.id) (c.rev.ensures ∙ ap (λ (k : KeptClient). k.rev) c.client.ensures.shown)
    (subst (λ y. MakesMarked g.D.Disk.told g.D.Device.failures g.D.Disk.stops_alone alone old.machine (Resume c.in_ok-grant.grant c.rev.result (Some c.lose.new.self.birth) None c.args.now) (replied (λ x. ResumeAnswer (catch_up_of x)) y) c.resume.new.self)
    c.in-Err.is (λ st k x. let y = c.resume.ensures st k x in (y.0, y.1, y.2, y.4.alone))))

pub returns-clause-ends : goal.returns-clause-ends
returns-clause-ends g c = λ alone rs w ks run s.
    rw c.refused.ensures
    (refused-ends alone (told.Resume c.args.name) _ _ verb.Resume (Some c.args.name) c.in-Err.bad
    (err-counts g.D.Disk.told g.D.Device.failures g.D.Disk.stops_alone alone rs c.args.self.now.machine c.resume.new.self w.pad (Resume c.in_ok-grant.grant c.rev.result (Some c.lose.new.self.birth) None c.args.now) (λ x. ResumeAnswer (catch_up_of x)) c.resume.result c.in-Err.bad s.machine
    (λ st k x. let y = c.resume.ensures st k x in (y.0, y.1, y.2, y.4.alone)) c.in-Err.is))

pub returns-in_err-member-clause-ends : goal.returns-in_err-member-clause-ends
returns-in_err-member-clause-ends g c = λ alone rs w ks run s.
    let b = c.in_err-member.field-0.0 in
    as-err _ _ c.from_residual.result b (search rules) (caused-ends alone (told.Resume c.args.name) _ _ b (memory-caused _ _ b c.in_err-member.ensures.failed))
