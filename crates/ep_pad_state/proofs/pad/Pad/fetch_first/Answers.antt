use Rattle.std.proofs.Common.{◌≡◌, ◌≤◌, ◌+◌, drop, length, sym, ap, ◌∙◌, arith}
use Rattle.std.specs.Prelude.{nat_le}
use Rattle.std.specs.List.{take_while}
use Rattle.ep_history.specs.History.{head}
use Rattle.ep_history.specs.Pad.{newest}
use Rattle.ep_history.specs.Readings.{nop_heads}
use Rattle.ep_pad_state.proofs.Outcomes.{fetch-told}
use Rattle.ep_pad_state.proofs.Telling.{fetched-first}
use Rattle.ep_pad_state.proofs.pad.Pad.fetch_first.Goals as goal

pub overflow_add-from : goal.overflow_add-from
overflow_add-from c =
    let n = c.in_ok-revs.ensures.count in
    let m = c.last-head.ensures.count in
    let l = c.len.ensures in
    let s = c.last-head.type_inv in
    omega arith

pub returns : goal.returns
returns c = λ p h.
    let b = c.in_ok-birth.ensures p h in
    let n = c.last-head.ensures.number (newest p) b.1 in
    let known : c.args.from ≤ head (newest p) = omega (arith, n) in
    let l : c.len.result ≡ length c.in_ok-revs.revs.items = c.len.ensures ∙ c.in_ok-revs.revs.ok.0 in (
      fetch-told p c.args.session c.args.from c.args.told b.0 known,
      fetched-first p c.args.session c.args.from c.args.told c.args.most c.last-head.result c.in_ok-revs.revs.items c.in_ok-nops.nops.items c.requires n
          (c.in_ok-revs.ensures.revs (newest p) b.1)
          (c.in_ok-nops.ensures (newest p) b.1
          ∙ ap (λ k. take_while (λ q. nat_le q (c.args.from + k)) (drop c.args.told (nop_heads c.args.session (newest p)))) l),
    )
