use Rattle.ep_journal.proofs.Syncing.{same_synced, on_err_of}
use Rattle.ep_journal.proofs.Sparing.{the_file}
use Rattle.std.proofs.Common.{◌∙◌, arith}
use Rattle.ep_outside.specs.Disk.{settled}
use Rattle.ep_outside.proofs.Moments.{weaker, joined}
use Rattle.ep_journal.specs.File.{IsMending}
use Rattle.ep_journal.proofs.Repairing.{image_near, closing}
use Rattle.ep_journal.proofs.opening.mend.Goals as goal

pub returns-in_err-found-clause-crash : goal.returns-in_err-found-clause-crash
returns-in_err-found-clause-crash g c file j told =
    weaker g.D.Disk.moment g.D.Disk.since _ _ _ (IsMending file) (image_near file _ told) c.find_gates.ensures.images

pub returns-in_err-close_gate-clause-crash : goal.returns-in_err-close_gate-clause-crash
returns-in_err-close_gate-clause-crash g c file j told =
    let cl = closing file c.args.total _ _ _ j told c.in_ok-found.ensures.found in
    let found = weaker g.D.Disk.moment g.D.Disk.since _ _ _ (IsMending file) (image_near file _ told) c.find_gates.ensures.images in
    let closed = joined g.D.Disk.moment g.D.Disk.since _ _ _ (IsMending file) found (c.close_gate.ensures.crash file cl (c.find_gates.ensures.same ∙ told)) in
    closed

pub returns-in_err-cut_rest-clause-crash : goal.returns-in_err-cut_rest-clause-crash
returns-in_err-cut_rest-clause-crash g c file j told =
    let cl = closing file c.args.total _ _ _ j told c.in_ok-found.ensures.found in
    let found = weaker g.D.Disk.moment g.D.Disk.since _ _ _ (IsMending file) (image_near file _ told) c.find_gates.ensures.images in
    let closed = joined g.D.Disk.moment g.D.Disk.since _ _ _ (IsMending file) found (c.close_gate.ensures.crash file cl (c.find_gates.ensures.same ∙ told)) in
    joined g.D.Disk.moment g.D.Disk.since _ _ _ (IsMending file) closed (c.cut_rest.ensures.crash file cl j.total_is (c.in_ok-close_gate.ensures.done file cl (c.find_gates.ensures.same ∙ told)))

pub returns-clause-crash : goal.returns-clause-crash
returns-clause-crash g c file j told =
    let cl = closing file c.args.total _ _ _ j told c.in_ok-found.ensures.found in
    let found = weaker g.D.Disk.moment g.D.Disk.since _ _ _ (IsMending file) (image_near file _ told) c.find_gates.ensures.images in
    let closed = joined g.D.Disk.moment g.D.Disk.since _ _ _ (IsMending file) found (c.close_gate.ensures.crash file cl (c.find_gates.ensures.same ∙ told)) in
    joined g.D.Disk.moment g.D.Disk.since _ _ _ (IsMending file) closed (c.cut_rest.ensures.crash file cl j.total_is (c.in_ok-close_gate.ensures.done file cl (c.find_gates.ensures.same ∙ told)))

pub returns-in_err-found-clause-reads_of_file : goal.returns-in_err-found-clause-reads_of_file
returns-in_err-found-clause-reads_of_file g c file j told = omega (arith, c.find_gates.ensures.reads_of_file (settled file) told j.total_is)

pub returns-in_err-close_gate-clause-reads_of_file : goal.returns-in_err-close_gate-clause-reads_of_file
returns-in_err-close_gate-clause-reads_of_file g c file j told = omega (arith, c.find_gates.ensures.reads_of_file (settled file) told j.total_is, c.close_gate.ensures.reads)

pub returns-in_err-cut_rest-clause-reads_of_file : goal.returns-in_err-cut_rest-clause-reads_of_file
returns-in_err-cut_rest-clause-reads_of_file g c file j told = omega (arith, c.find_gates.ensures.reads_of_file (settled file) told j.total_is, c.close_gate.ensures.reads, c.cut_rest.ensures.reads)

pub returns-clause-reads_of_file : goal.returns-clause-reads_of_file
returns-clause-reads_of_file g c file j told = omega (arith, c.find_gates.ensures.reads_of_file (settled file) told j.total_is, c.close_gate.ensures.reads, c.cut_rest.ensures.reads)

pub returns-in_err-found-clause-synced : goal.returns-in_err-found-clause-synced
returns-in_err-found-clause-synced g c file d j told now = on_err_of _ _ (the_file file d.synced (same_synced _ file d (c.find_gates.ensures.same ∙ told) now))

pub returns-in_err-close_gate-clause-synced : goal.returns-in_err-close_gate-clause-synced
returns-in_err-close_gate-clause-synced g c file d j told now =
    let cl = closing file c.args.total _ _ _ j told c.in_ok-found.ensures.found in
    on_err_of _ _ (c.in_err-close_gate.ensures.synced file d cl (c.find_gates.ensures.same ∙ told) now)

pub returns-in_err-cut_rest-clause-synced : goal.returns-in_err-cut_rest-clause-synced
returns-in_err-cut_rest-clause-synced g c file d j told now =
    let cl = closing file c.args.total _ _ _ j told c.in_ok-found.ensures.found in
    on_err_of _ _ (c.in_err-cut_rest.ensures.synced file d cl (c.in_ok-close_gate.ensures.done file cl (c.find_gates.ensures.same ∙ told)) now)
