use Rattle.std.proofs.lemmas.List.Elements.{All-map}
use Rattle.ep_cell.specs.History.{StartsWith}
use Rattle.ep_cell.proofs.Histories.{starts_on}
use Rattle.ep_cell.proofs.Calling.{closes}
use Rattle.ep_cell.proofs.cell.Cell.close.Goals as goal

pub returns : goal.returns
returns g c =
    let l = closes g.M.Machine.stands g.M.Machine.legal c.gather-seat.result.me c.take.new.seat.me c.exchange-held.result c.in-Some.machine _ c.gather-seat.ensures.begun c.take.ensures.taken c.exchange-held.ensures.2 c.in-Some.is in
    record {
      stands = (
        c.take.new.seat.me.0.seen,
        l.0,
        All-map (StartsWith c.take.new.seat.me.0.seen) (λ p. p.seat.me.0.seen) c.args.passes.items (λ k d lt. starts_on _ _ _ l.1 (c.gather-seat.ensures.begins k d lt)),
      );
    }
