use Rattle.ep_make.specs.Schedule.{new_world}
use Rattle.ep_make.proofs.schedule.play_schedule.Goals as goal

pub returns : goal.returns
returns c =
    let l = c.in_ok-log_in.ensures new_world c.in_ok-world.ensures in
    let r = c.in_ok-play_rounds.ensures l.0 l.2 in
    let s = c.in_ok-settle_all.ensures r.0 r.2 in
    let d = c.in_ok-drain_all.ensures s.0 s.2 in (
      d.0,
      (
        record {
          begun = l.0;
          last = c.play_rounds.new.lots.number;
          played = r.0;
          settled = s.0;
          logins = l.1;
          rounds = r.1;
          settles = s.1;
          drains = d.1;
        },
        d.2,
      ),
    )
