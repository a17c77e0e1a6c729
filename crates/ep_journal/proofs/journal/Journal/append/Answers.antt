use Rattle.std.proofs.Common.{refl, arith, ◌-◌}
use Rattle.ep_outside.proofs.Moments.{started, weaker}
use Rattle.ep_journal.specs.File.{records_of, IsBeforeOrAfter}
use Rattle.ep_journal.proofs.Keeping.{old_image, old_unfinished, old_synced, gate_image, or_more, ready, adds, holds, spaced, acknowledged, gate_reached, IsFrameOf}
use Rattle.ep_journal.proofs.journal.Journal.append.Goals as goal

pub store-requires-clause-inside : goal.store-requires-clause-inside
store-requires-clause-inside g c = gate_reached _ _ _ c.requires.ready.held

pub returns-in-None-clause-any_moment : goal.returns-in-None-clause-any_moment
returns-in-None-clause-any_moment g c k told =
    started g.D.Disk.moment g.D.Disk.since _ _ (λ i left. or_more _ _ _ i (gate_image k _ _ _ _ i told c.requires.ready.held (g.met.D.Disk.only_now _ i left)))

pub returns-then-self-end-clause-any_moment : goal.returns-then-self-end-clause-any_moment
returns-then-self-end-clause-any_moment g c k told =
    started g.D.Disk.moment g.D.Disk.since _ _ (λ i left. or_more _ _ _ i (gate_image k _ _ _ _ i told c.requires.ready.held (g.met.D.Disk.only_now _ i left)))

pub returns-in-None-clause-by_gate : goal.returns-in-None-clause-by_gate
returns-in-None-clause-by_gate g c k told =
    started g.D.Disk.moment g.D.Disk.since _ _ (λ i left. gate_image k _ _ _ _ i told c.requires.ready.held (g.met.D.Disk.only_now _ i left))

pub returns-then-self-end-clause-by_gate : goal.returns-then-self-end-clause-by_gate
returns-then-self-end-clause-by_gate g c k told =
    started g.D.Disk.moment g.D.Disk.since _ _ (λ i left. gate_image k _ _ _ _ i told c.requires.ready.held (g.met.D.Disk.only_now _ i left))

pub returns-in-None-clause-stopped_early : goal.returns-in-None-clause-stopped_early
returns-in-None-clause-stopped_early g c k calls told few is i left = old_image k _ _ _ i told c.requires.ready.held left

pub returns-then-self-end-clause-stopped_early : goal.returns-then-self-end-clause-stopped_early
returns-then-self-end-clause-stopped_early g c k calls told few is i left = old_image k _ _ _ i told c.requires.ready.held left

pub returns-clause-adds : goal.returns-clause-adds
returns-clause-adds g c =
    adds _ _ c.args.self.now.gates.items c.args.self.now.gate c.args.framed.now c.as_slice-bytes.result.now c.requires.ready.held (record { is = c.as_slice-bytes.ensures.frame; small = c.as_slice-bytes.ensures.small }) c.store.ensures.tells c.in-Ok.ensures.done

pub returns-clause-ready : goal.returns-clause-ready
returns-clause-ready g c =
    let frame : IsFrameOf c.args.framed.now c.as_slice-bytes.result.now = record { is = c.as_slice-bytes.ensures.frame; small = c.as_slice-bytes.ensures.small } in
    record {
      is_open = refl;
      held = rw c.push_reserved.ensures.items (holds _ _ c.args.self.now.gates.items c.args.self.now.gate (c.in-Some.end - 1) c.args.framed.now c.as_slice-bytes.result.now c.requires.ready.held frame c.store.ensures.tells c.in-Ok.ensures.done (omega arith));
      spaced = rw c.push_reserved.ensures.items (spaced c.args.self.now.gates.items c.args.self.now.gate (c.in-Some.end - 1) c.requires.ready.spaced (omega arith));
    }

pub returns-clause-acknowledged : goal.returns-clause-acknowledged
returns-clause-acknowledged g c k told image left =
    acknowledged k _ _ c.args.self.now.gates.items c.args.self.now.gate c.args.framed.now c.as_slice-bytes.result.now image told c.requires.ready.held (record { is = c.as_slice-bytes.ensures.frame; small = c.as_slice-bytes.ensures.small }) c.in-Ok.ensures.done left

pub returns-in-Err-clause-any_moment : goal.returns-in-Err-clause-any_moment
returns-in-Err-clause-any_moment g c k told =
    let r = ready k _ _ _ c.args.framed.now c.as_slice-bytes.result.now told c.requires.ready.held (record { is = c.as_slice-bytes.ensures.frame; small = c.as_slice-bytes.ensures.small }) in
    weaker g.D.Disk.moment g.D.Disk.since _ _ _ (IsBeforeOrAfter (records_of k.seen) c.args.framed.now) (λ i by. or_more c.args.self.now.gate (records_of k.seen) c.args.framed.now i by) (c.store.ensures.crash k.seen c.args.framed.now r.0 r.1)

pub returns-clause-any_moment : goal.returns-clause-any_moment
returns-clause-any_moment g c k told =
    let r = ready k _ _ _ c.args.framed.now c.as_slice-bytes.result.now told c.requires.ready.held (record { is = c.as_slice-bytes.ensures.frame; small = c.as_slice-bytes.ensures.small }) in
    weaker g.D.Disk.moment g.D.Disk.since _ _ _ (IsBeforeOrAfter (records_of k.seen) c.args.framed.now) (λ i by. or_more c.args.self.now.gate (records_of k.seen) c.args.framed.now i by) (c.store.ensures.crash k.seen c.args.framed.now r.0 r.1)

pub returns-in-Err-clause-stopped_early : goal.returns-in-Err-clause-stopped_early
returns-in-Err-clause-stopped_early g c k calls told few is image left =
    let r = ready k _ _ _ c.args.framed.now c.as_slice-bytes.result.now told c.requires.ready.held (record { is = c.as_slice-bytes.ensures.frame; small = c.as_slice-bytes.ensures.small }) in
    c.store.ensures.stopped_early k.seen c.args.framed.now calls r.0 r.1 few is image left

pub returns-clause-stopped_early : goal.returns-clause-stopped_early
returns-clause-stopped_early g c k calls told few is image left =
    let r = ready k _ _ _ c.args.framed.now c.as_slice-bytes.result.now told c.requires.ready.held (record { is = c.as_slice-bytes.ensures.frame; small = c.as_slice-bytes.ensures.small }) in
    c.store.ensures.stopped_early k.seen c.args.framed.now calls r.0 r.1 few is image left

pub returns-in-None-clause-unfinished : goal.returns-in-None-clause-unfinished
returns-in-None-clause-unfinished g c k told =
    started g.D.Disk.moment g.D.Disk.since _ _ (λ i left. old_unfinished k _ _ _ _ i told c.requires.ready.held (g.met.D.Disk.only_now _ i left))

pub returns-then-self-end-clause-unfinished : goal.returns-then-self-end-clause-unfinished
returns-then-self-end-clause-unfinished g c k told =
    started g.D.Disk.moment g.D.Disk.since _ _ (λ i left. old_unfinished k _ _ _ _ i told c.requires.ready.held (g.met.D.Disk.only_now _ i left))

pub returns-in-Err-clause-unfinished : goal.returns-in-Err-clause-unfinished
returns-in-Err-clause-unfinished g c k told =
    let r = ready k _ _ _ c.args.framed.now c.as_slice-bytes.result.now told c.requires.ready.held (record { is = c.as_slice-bytes.ensures.frame; small = c.as_slice-bytes.ensures.small }) in
    c.store.ensures.unfinished k.seen c.args.framed.now r.0 r.1

pub returns-clause-unfinished : goal.returns-clause-unfinished
returns-clause-unfinished g c k told =
    let r = ready k _ _ _ c.args.framed.now c.as_slice-bytes.result.now told c.requires.ready.held (record { is = c.as_slice-bytes.ensures.frame; small = c.as_slice-bytes.ensures.small }) in
    c.store.ensures.unfinished k.seen c.args.framed.now r.0 r.1

pub returns-in-None-clause-synced : goal.returns-in-None-clause-synced
returns-in-None-clause-synced g c k d told now = old_synced k d _ _ _ _ told now c.requires.ready.held

pub returns-then-self-end-clause-synced : goal.returns-then-self-end-clause-synced
returns-then-self-end-clause-synced g c k d told now = old_synced k d _ _ _ _ told now c.requires.ready.held

pub returns-in-Err-clause-synced : goal.returns-in-Err-clause-synced
returns-in-Err-clause-synced g c k d told now =
    let r = ready k _ _ _ c.args.framed.now c.as_slice-bytes.result.now told c.requires.ready.held (record { is = c.as_slice-bytes.ensures.frame; small = c.as_slice-bytes.ensures.small }) in
    c.in-Err.ensures.synced k.seen c.args.framed.now d r.0 r.1 now
