use Rattle.std.proofs.Common.{sym, subst}
use Rattle.ep_outside.specs.Outside.{IsWhole}
use Rattle.ep_move.specs.Moving.{IsNone}
use Rattle.ep_move.specs.Stopped.{StopsBy}
use Rattle.ep_move.specs.declared.stop.Stop.TheVariants as stop
use Rattle.ep_move.proofs.Causes.{err_of, err_then, ok_then}
use Rattle.ep_move.proofs.Coming.{long_none, short_none}
use Rattle.ep_move.proofs.importing.history_from.Goals as goal

pub returns-in-Ok-clause-says : goal.returns-in-Ok-clause-says
returns-in-Ok-clause-says g c =
    let old = g.S.Source.left c.args.source.now in
    let new = g.S.Source.left c.read_text.new.source in
    let bytes = c.deref.result.now in
    let whole = subst (λ l. IsWhole old new l) (sym c.deref.ensures.value) c.in-Ok.ensures.whole in
    ok_then c.history_in.result _ _ c.history_in.ensures.says (λ h i. record { text = bytes; whole = whole; imports = i })

pub returns-in-Ok-clause-stops : goal.returns-in-Ok-clause-stops
returns-in-Ok-clause-stops g c =
    let old = g.S.Source.left c.args.source.now in
    let new = g.S.Source.left c.read_text.new.source in
    let bytes = c.deref.result.now in
    let whole = subst (λ l. IsWhole old new l) (sym c.deref.ensures.value) c.in-Ok.ensures.whole in
    err_then c.history_in.result _ _ c.history_in.ensures.stops (λ s h. short_none c.args.pad.now old new bytes s whole h)

pub returns-in-Ok-clause-cause : goal.returns-in-Ok-clause-cause
returns-in-Ok-clause-cause g c = record {
  later = c.read_text.ensures.cause.later;
  failed = λ e. absurd (err_of c.history_in.result stop.SourceFault (StopsBy (IsNone c.args.pad.now c.deref.result.now) ⊥ ⊥) c.history_in.ensures.stops e);
  steady = c.read_text.ensures.cause.steady;
}

pub returns-in-Err-clause-stops : goal.returns-in-Err-clause-stops
returns-in-Err-clause-stops g c =
    long_none c.args.pad.now (g.S.Source.left c.args.source.now) (g.S.Source.left c.read_text.new.source) c.in-Err.stop c.in-Err.ensures.stops
