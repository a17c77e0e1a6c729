use Rattle.std.proofs.Common.{ℕ, ◌+◌, ◌-◌, ◌++◌, length, sym, ap₂, subst, arith}
use Rattle.ep_block_parts.specs.Seen.{Sees}
use Rattle.ep_block_parts.specs.declared.seen.Seen.{Seen}
use Rattle.ep_block_parts.proofs.Spliced.{spliced_before, spliced_behind}
use Rattle.ep_block_parts.proofs.seen.Seen.spliced.Goals as goal

pub returns-then-self-behind : goal.returns-then-self-behind
returns-then-self-behind c front rest a e =
    let s = c.args.self in
    let new = c.args.new.now in
    let old = c.args.dropped.now in
    let seen : ℕ → ℕ → Seen = λ went came. record { units = s.units - length old + length new; lines = s.lines - went + came; tail = s.tail; high = s.high } in
    subst (λ (r : Seen). Sees r (front ++ (new ++ rest))) (ap₂ seen (sym c.lines_of.ensures) (sym c.lines_of-lines.ensures))
    (spliced_before s front old new rest a (omega (arith, e, c.if-self-behind.true)))

pub returns : goal.returns
returns c front rest a e =
    let s = c.args.self in
    let new = c.args.new.now in
    let old = c.args.dropped.now in
    let seen : ℕ → ℕ → Seen = λ went came. record { units = s.units - length old + length new; lines = s.lines - went + came; tail = s.tail - length old + length new; high = s.high } in
    subst (λ (r : Seen). Sees r (front ++ (new ++ rest))) (ap₂ seen (sym c.lines_of.ensures) (sym c.lines_of-lines.ensures))
    (spliced_behind s front old new rest a (omega (arith, e, c.if-behind-eq0.false)) (omega (arith, e, c.if-self-behind.false, c.if-self-behind-2.false)) (omega (arith, c.if-lines-gt0.false, c.lines_of-lines.ensures)))
