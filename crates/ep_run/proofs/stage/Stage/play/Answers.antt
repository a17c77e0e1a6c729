use Rattle.std.proofs.Common.{Err, true, refl, rules, ap, Some}
use Rattle.ep_script.specs.declared.line.Line.TheVariants as line
use Rattle.ep_world.specs.Shows.{shows_head, shows_marks, shows_text}
use Rattle.ep_run.specs.Stops.{stop_of_world}
use Rattle.ep_run.proofs.Lines.{plays-as, event-fails, inject-fails, put-fails, view_told, view_untold, marks_told, marks_untold, reading_fails}
use Rattle.ep_event.specs.declared.shown.Verb.TheVariants as verb
use Rattle.ep_world.specs.Journal.{reads_as}
use Rattle.ep_run.proofs.stage.Stage.play.Goals as goal

pub returns-in_err-step-in-Event : goal.returns-in_err-step-in-Event
returns-in_err-step-in-Event g c = λ s is.
    let stop = c.in_err-step-in-Event.field-0.0 in
    rw c.in-Event.is (plays-as g.D.Disk.told g.D.Device.failures g.D.Disk.stops_alone c.args.k s (line.Event c.in-Event.event) _ c.from_residual.result (Err stop) (search rules)
    (event-fails g.D.Disk.told g.D.Device.failures g.D.Disk.stops_alone c.args.k s c.in-Event.event stop _ (c.in_err-step-in-Event.ensures s is)))

pub returns-in_err-inject-in-Inject : goal.returns-in_err-inject-in-Inject
returns-in_err-inject-in-Inject g c = λ s is.
    let stop = c.in_err-inject-in-Inject.field-0.0 in
    rw c.in-Inject.is (plays-as g.D.Disk.told g.D.Device.failures g.D.Disk.stops_alone c.args.k s (line.Inject c.in-Inject.name c.in-Inject.base c.in-Inject.text) _ c.from_residual-in_err-inject-in-Inject.result (Err stop) (search rules)
    (inject-fails g.D.Disk.told g.D.Device.failures g.D.Disk.stops_alone c.args.k s c.in-Inject.name c.in-Inject.base c.in-Inject.text stop _ (c.in_err-inject-in-Inject.ensures s is)))

pub returns-in_err-put-in-Attr : goal.returns-in_err-put-in-Attr
returns-in_err-put-in-Attr g c = λ s is.
    let stop = c.in_err-put-in-Attr.field-0.0 in
    rw c.in-Attr.is (plays-as g.D.Disk.told g.D.Device.failures g.D.Disk.stops_alone c.args.k s (line.Attr c.in-Attr.key c.in-Attr.value) _ c.from_residual-in_err-put-in-Attr.result (Err stop) (search rules)
    (put-fails g.D.Disk.told g.D.Device.failures g.D.Disk.stops_alone c.args.k s c.in-Attr.key c.in-Attr.value stop _ (c.in_err-put-in-Attr.ensures s is)))

pub returns-in_err-show-in-Show : goal.returns-in_err-show-in-Show
returns-in_err-show-in-Show g c = λ s is.
    let bad = c.in_err-show-in-Show.field-0.0 in
    rw c.in-Show.is (plays-as g.D.Disk.told g.D.Device.failures g.D.Disk.stops_alone c.args.k s (line.Show c.in-Show.name) _ c.from_residual-in_err-show-in-Show.result (Err (stop_of_world bad)) (search rules)
    (view_untold g.D.Disk.told g.D.Device.failures g.D.Disk.stops_alone s _ c.args.k c.in-Show.name bad (c.in_err-show-in-Show.ensures true s.journal s.world s.kepts is.run is.world)))

pub returns-in_err-view_marks-in-ViewMarks : goal.returns-in_err-view_marks-in-ViewMarks
returns-in_err-view_marks-in-ViewMarks g c = λ s is.
    let bad = c.in_err-view_marks-in-ViewMarks.field-0.0 in
    rw c.in-ViewMarks.is (plays-as g.D.Disk.told g.D.Device.failures g.D.Disk.stops_alone c.args.k s (line.ViewMarks c.in-ViewMarks.name) _ c.from_residual-in_err-view_marks-in-ViewMarks.result (Err (stop_of_world bad)) (search rules)
    (marks_untold g.D.Disk.told g.D.Device.failures g.D.Disk.stops_alone s _ c.args.k c.in-ViewMarks.name bad (c.in_err-view_marks-in-ViewMarks.ensures true s.journal s.world s.kepts is.run is.world)))

pub returns-in_err-head-in-Head : goal.returns-in_err-head-in-Head
returns-in_err-head-in-Head g c = λ s is.
    let bad = c.in_err-head-in-Head.field-0.0 in
    rw c.in-Head.is (plays-as g.D.Disk.told g.D.Device.failures g.D.Disk.stops_alone c.args.k s line.Head _ c.from_residual-in_err-head-in-Head.result (Err (stop_of_world bad)) (search rules)
    (reading_fails g.D.Disk.told g.D.Device.failures g.D.Disk.stops_alone c.args.k s s.journal (g.D.Device.failures c.args.self.now.world.machine.disk) s.world s.kepts (reads_as s.journal s.world.pad verb.Head (shows_head s.world.pad)) line.Head bad c.head.new.self _ (c.in_err-head-in-Head.ensures true s.journal s.world s.kepts is.world)))

pub returns-in_ok-head-in-Head : goal.returns-in_ok-head-in-Head
returns-in_ok-head-in-Head g c = λ s is.
    let h = c.in_ok-head-in-Head.ensures true s.journal s.world s.kepts is.world in
    rw c.in-Head.is (refl, (s, (ap Some h.0, refl), record { run = is.run; world = h.1; pool = is.pool }))

pub returns-in_err-text-in-Text : goal.returns-in_err-text-in-Text
returns-in_err-text-in-Text g c = λ s is.
    let bad = c.in_err-text-in-Text.field-0.0 in
    rw c.in-Text.is (plays-as g.D.Disk.told g.D.Device.failures g.D.Disk.stops_alone c.args.k s (line.Text c.in-Text.rev) _ c.from_residual-in_err-text-in-Text.result (Err (stop_of_world bad)) (search rules)
    (reading_fails g.D.Disk.told g.D.Device.failures g.D.Disk.stops_alone c.args.k s s.journal (g.D.Device.failures c.args.self.now.world.machine.disk) s.world s.kepts (reads_as s.journal s.world.pad verb.Text (shows_text s.world.pad c.in-Text.rev)) (line.Text c.in-Text.rev) bad c.text-in-Text.new.self _ (c.in_err-text-in-Text.ensures true s.journal s.world s.kepts is.world)))

pub returns-in_ok-text-in-Text : goal.returns-in_ok-text-in-Text
returns-in_ok-text-in-Text g c = λ s is.
    let h = c.in_ok-text-in-Text.ensures true s.journal s.world s.kepts is.world in
    rw c.in-Text.is (refl, (s, (ap Some h.0, refl), record { run = is.run; world = h.1; pool = is.pool }))

pub returns-in_err-marks-in-Marks : goal.returns-in_err-marks-in-Marks
returns-in_err-marks-in-Marks g c = λ s is.
    let bad = c.in_err-marks-in-Marks.field-0.0 in
    rw c.in-Marks.is (plays-as g.D.Disk.told g.D.Device.failures g.D.Disk.stops_alone c.args.k s line.Marks _ c.from_residual-in_err-marks-in-Marks.result (Err (stop_of_world bad)) (search rules)
    (reading_fails g.D.Disk.told g.D.Device.failures g.D.Disk.stops_alone c.args.k s s.journal (g.D.Device.failures c.args.self.now.world.machine.disk) s.world s.kepts (reads_as s.journal s.world.pad verb.Marks (shows_marks s.world.pad)) line.Marks bad c.marks.new.self _ (c.in_err-marks-in-Marks.ensures true s.journal s.world s.kepts is.world)))

pub returns-in_ok-marks-in-Marks : goal.returns-in_ok-marks-in-Marks
returns-in_ok-marks-in-Marks g c = λ s is.
    let h = c.in_ok-marks-in-Marks.ensures true s.journal s.world s.kepts is.world in
    rw c.in-Marks.is (refl, (s, (ap Some h.0, refl), record { run = is.run; world = h.1; pool = is.pool }))

pub returns-in_ok-step-in-Event : goal.returns-in_ok-step-in-Event
returns-in_ok-step-in-Event g c = λ s is. rw c.in-Event.is (c.in_ok-step-in-Event.ensures s is)

pub returns-in_ok-inject-in-Inject : goal.returns-in_ok-inject-in-Inject
returns-in_ok-inject-in-Inject g c = λ s is. rw c.in-Inject.is (c.in_ok-inject-in-Inject.ensures s is)

pub returns-in_ok-put-in-Attr : goal.returns-in_ok-put-in-Attr
returns-in_ok-put-in-Attr g c = λ s is.
    let h = c.in_ok-put-in-Attr.ensures s is in
    rw c.in-Attr.is (refl, (_, (ap Some h.0, refl), h.1))

pub returns-in_ok-show-in-Show : goal.returns-in_ok-show-in-Show
returns-in_ok-show-in-Show g c = λ s is.
    rw c.in-Show.is (view_told g.D.Disk.told g.D.Device.failures g.D.Disk.stops_alone s _ c.args.k c.in-Show.name c.in_ok-show-in-Show.field-0 (c.in_ok-show-in-Show.ensures true s.journal s.world s.kepts is.run is.world)
    (record { run = is.run; world = is.world; pool = is.pool }))

pub returns-in_ok-view_marks-in-ViewMarks : goal.returns-in_ok-view_marks-in-ViewMarks
returns-in_ok-view_marks-in-ViewMarks g c = λ s is.
    rw c.in-ViewMarks.is (marks_told g.D.Disk.told g.D.Device.failures g.D.Disk.stops_alone s _ c.args.k c.in-ViewMarks.name c.in_ok-view_marks-in-ViewMarks.field-0 (c.in_ok-view_marks-in-ViewMarks.ensures true s.journal s.world s.kepts is.run is.world)
    (record { run = is.run; world = is.world; pool = is.pool }))
