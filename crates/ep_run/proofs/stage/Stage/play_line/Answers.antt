use Rattle.std.proofs.Common.{Err, Ok, Some, None, rules, subst}
use Rattle.ep_script.specs.Line.{line_of}
use Rattle.ep_run.specs.Played.{Plays}
use Rattle.ep_run.proofs.Lines.{line_plays, line_stops_so, reads-as}
use Rattle.ep_run.proofs.stage.Stage.play_line.Goals as goal

pub returns-in_err-play : goal.returns-in_err-play
returns-in_err-play g c = λ s is.
    let stop = c.in_err-play.field-0.0 in
    reads-as g.D.Disk.told g.D.Device.failures g.D.Disk.stops_alone c.args.k s _ (line_of c.args.bytes.now) c.from_residual-in_err-play.result (Err stop) (search rules)
    (line_stops_so g.D.Disk.told g.D.Device.failures g.D.Disk.stops_alone c.args.k s _ (line_of c.args.bytes.now) c.in_ok-line.line c.in_ok-line.ensures.line stop (c.in_err-play.ensures s is))

pub returns-in-None : goal.returns-in-None
returns-in-None g c = λ s is.
    line_plays g.D.Disk.told g.D.Device.failures g.D.Disk.stops_alone c.args.k s c.play.new.self (line_of c.args.bytes.now) c.in_ok-line.line c.in_ok-line.ensures.line None c.new.result
    (subst (λ o. Plays g.D.Disk.told g.D.Device.failures g.D.Disk.stops_alone c.args.k s c.in_ok-line.line (Ok o) c.play.new.self) c.in-None.is (c.in_ok-play.ensures s is)) c.new.ensures.bytes

pub returns-in_ok-print_shown-in-Some : goal.returns-in_ok-print_shown-in-Some
returns-in_ok-print_shown-in-Some g c = λ s is.
    line_plays g.D.Disk.told g.D.Device.failures g.D.Disk.stops_alone c.args.k s c.play.new.self (line_of c.args.bytes.now) c.in_ok-line.line c.in_ok-line.ensures.line (Some c.in-Some.shown) c.in_ok-print_shown-in-Some.field-0
    (subst (λ o. Plays g.D.Disk.told g.D.Device.failures g.D.Disk.stops_alone c.args.k s c.in_ok-line.line (Ok o) c.play.new.self) c.in-Some.is (c.in_ok-play.ensures s is)) c.in_ok-print_shown-in-Some.ensures
