use Rattle.std.proofs.Common.{rules, map}
use Rattle.std.specs.String.{string_bytes}
use Rattle.ep_outside.proofs.Pieces.{started, stopped}
use Rattle.ep_words.specs.Lines.{line_in}
use Rattle.ep_run.specs.Run.{usage}
use Rattle.ep_run.proofs.Running.{known_other, known_wanting, part_nothing}
use Rattle.ep_run.proofs.Serves.{unbegun}
use Rattle.ep_run.proofs.top.run.Goals as goal

pub returns-in-Err-Usage-clause-known : goal.returns-in-Err-Usage-clause-known
returns-in-Err-Usage-clause-known g c = search (rules, known_other)

pub returns-in-Err-NoMemory-clause-known : goal.returns-in-Err-NoMemory-clause-known
returns-in-Err-NoMemory-clause-known g c = known_wanting (line_in (map string_bytes c.args.words.now))

pub returns-in-Err-NoMemory-clause-serves : goal.returns-in-Err-NoMemory-clause-serves
returns-in-Err-NoMemory-clause-serves g c = λ s. unbegun (g.K.Sink.held c.args.sink.now) (g.N.Doors.count c.args.doors.now) (g.W.Spawner.count c.args.spawner.now) (g.N.Doors.is_over c.args.doors.now) (g.N.Device.failures c.args.doors.now) (g.W.Device.failures c.args.spawner.now)

pub returns-in-Err-NoMemory-clause-usage_part : goal.returns-in-Err-NoMemory-clause-usage_part
returns-in-Err-NoMemory-clause-usage_part g c = λ h. stopped (g.K.Sink.held c.args.sink.now) (g.K.Sink.held c.args.sink.now) usage usage (started (g.K.Sink.held c.args.sink.now) usage)

pub returns-in-Err-NoMemory-clause-part : goal.returns-in-Err-NoMemory-clause-part
returns-in-Err-NoMemory-clause-part g c = λ id h. part_nothing id (g.S.Source.left c.args.source.now) (g.K.Sink.held c.args.sink.now)
