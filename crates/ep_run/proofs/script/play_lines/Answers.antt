use Rattle.std.proofs.Common.{◌≡◌, Err, Ok, sym, ap, ◌∙◌, subst, arith, rules, true≢false}
use Rattle.ep_outside.specs.Outside.{Takes, TakesPart}
use Rattle.ep_run.specs.Ending.{with_world}
use Rattle.ep_run.specs.Stops.{bad_of_script}
use Rattle.ep_run.specs.declared.script.PlayBad.TheVariants.{SinkFault, Failed}
use Rattle.ep_run.proofs.Scripts.{Nexts, at-end, fails, gives-up, goes-on, opens, over-all, script-as, stops-part, stops-whole, unwritten}
use Rattle.ep_run.proofs.script.play_lines.Goals as goal

pub loop-k-init : goal.loop-k-init
loop-k-init g c = record {
  read = λ s h. opens g.D.Disk.told g.D.Device.failures g.D.Disk.stops_alone c.args.stage.now c.new-script.result s (g.S.Source.left c.args.source.now) (g.K.Sink.held c.args.sink.now) c.new-script.ensures.held c.new-script.ensures.place h;
  over = λ o. absurd (true≢false (sym o ∙ c.new-script.ensures.over));
  source_later = omega arith;
  source_steady = search rules;
  later = omega arith;
  steady = search rules;
}

pub returns-in_err-line-clause-ends : goal.returns-in_err-line-clause-ends
returns-in_err-line-clause-ends g c = λ s h.
    let bad = bad_of_script c.in_err-line.field-0.0 in
    let is : c.from_residual.result ≡ Err bad = search rules in
    script-as g.D.Disk.told g.D.Device.failures g.D.Disk.stops_alone s (g.S.Source.left c.args.source.now) (g.K.Sink.held c.args.sink.now) (g.K.Sink.held c.loop-k.sink) _ _ (ap (with_world c.loop-k.stage.world) is)
    (fails g.D.Disk.told g.D.Device.failures g.D.Disk.stops_alone c.loop-k.stage c.loop-k.script s _ _ _ _ c.loop-k.k (c.loop-k.invariant.read s h) c.loop-k.invariant.over bad)

pub returns-in_default-clause-ends : goal.returns-in_default-clause-ends
returns-in_default-clause-ends g c = λ s h.
    let x = c.in_ok-line.ensures.next in
    over-all g.D.Disk.told g.D.Device.failures g.D.Disk.stops_alone c.loop-k.stage c.loop-k.script c.next_line.new.self s _ _ _ _ _ c.loop-k.k x.0 (c.loop-k.invariant.read s h) x.1 (c.in_ok-line.ensures.over c.loop-k.invariant.over)
    (subst (λ o. Nexts c.loop-k.script c.next_line.new.self (g.S.Source.left c.loop-k.source) (g.S.Source.left c.next_line.new.source) x.0 (Ok o)) c.in_default.is x.2)

pub returns-in_default-clause-read : goal.returns-in_default-clause-read
returns-in_default-clause-read g c = λ all.
    let x = c.in_ok-line.ensures.next in
    at-end c.loop-k.script c.next_line.new.self (g.S.Source.left c.loop-k.source) (g.S.Source.left c.next_line.new.source) x.0 (c.in_ok-line.ensures.over c.loop-k.invariant.over)
    (subst (λ o. Nexts c.loop-k.script c.next_line.new.self (g.S.Source.left c.loop-k.source) (g.S.Source.left c.next_line.new.source) x.0 (Ok o)) c.in_default.is x.2)

pub returns-in_err-write-in-Ok-clause-ends : goal.returns-in_err-write-in-Ok-clause-ends
returns-in_err-write-in-Ok-clause-ends g c = λ s h.
    let x = c.in_ok-line.ensures.next in
    let is : c.from_residual-in_err-write-in-Ok.result ≡ Err SinkFault = search rules in
    script-as g.D.Disk.told g.D.Device.failures g.D.Disk.stops_alone s (g.S.Source.left c.args.source.now) (g.K.Sink.held c.args.sink.now) (g.K.Sink.held c.write.new.self) _ _ (ap (with_world c.play_cut.new.self.world) is)
    (unwritten g.D.Disk.told g.D.Device.failures g.D.Disk.stops_alone c.loop-k.stage c.loop-k.script c.next_line.new.self s _ _ _ _ _ c.loop-k.k x.0 (c.loop-k.invariant.read s h) x.1 (c.in_ok-line.ensures.over c.loop-k.invariant.over) c.in-Some.line
    (subst (λ o. Nexts c.loop-k.script c.next_line.new.self (g.S.Source.left c.loop-k.source) (g.S.Source.left c.next_line.new.source) x.0 (Ok o)) c.in-Some.is x.2)
    c.play_cut.new.self c.in-Ok.text (g.K.Sink.held c.write.new.self) c.in-Ok.ensures (subst (λ t. TakesPart (g.K.Sink.held c.loop-k.sink) (g.K.Sink.held c.write.new.self) t) c.as_bytes.ensures.value c.in_err-write-in-Ok.ensures.err) SinkFault)

pub returns-in_err-end-in-Err-At-clause-ends : goal.returns-in_err-end-in-Err-At-clause-ends
returns-in_err-end-in-Err-At-clause-ends g c = λ s h.
    let x = c.in_ok-line.ensures.next in
    let bad = c.in_err-end-in-Err-At.field-0.0 in
    let is : c.from_residual-in_err-end-in-Err-At.result ≡ Err bad = search rules in
    script-as g.D.Disk.told g.D.Device.failures g.D.Disk.stops_alone s (g.S.Source.left c.args.source.now) (g.K.Sink.held c.args.sink.now) (g.K.Sink.held c.end.new.sink) _ _ (ap (with_world c.play_cut.new.self.world) is)
    (stops-part g.D.Disk.told g.D.Device.failures g.D.Disk.stops_alone c.loop-k.stage c.loop-k.script c.next_line.new.self s _ _ _ _ _ c.loop-k.k x.0 (c.loop-k.invariant.read s h) x.1 (c.in_ok-line.ensures.over c.loop-k.invariant.over) c.in-Some.line
    (subst (λ o. Nexts c.loop-k.script c.next_line.new.self (g.S.Source.left c.loop-k.source) (g.S.Source.left c.next_line.new.source) x.0 (Ok o)) c.in-Some.is x.2)
    c.play_cut.new.self c.in-Err-At.reason (g.K.Sink.held c.end.new.sink) (λ at k. rw c.in-Err-At.field-0-is at (c.in-Err-At.ensures at k)) c.in_err-end-in-Err-At.ensures.part bad)

pub returns-in-Err-At-clause-ends : goal.returns-in-Err-At-clause-ends
returns-in-Err-At-clause-ends g c = λ s h.
    let x = c.in_ok-line.ensures.next in
    stops-whole g.D.Disk.told g.D.Device.failures g.D.Disk.stops_alone c.loop-k.stage c.loop-k.script c.next_line.new.self s _ _ _ _ _ c.loop-k.k x.0 (c.loop-k.invariant.read s h) x.1 (c.in_ok-line.ensures.over c.loop-k.invariant.over) c.in-Some.line
    (subst (λ o. Nexts c.loop-k.script c.next_line.new.self (g.S.Source.left c.loop-k.source) (g.S.Source.left c.next_line.new.source) x.0 (Ok o)) c.in-Some.is x.2)
    c.play_cut.new.self c.in-Err-At.reason (g.K.Sink.held c.end.new.sink) (λ at k. rw c.in-Err-At.field-0-is at (c.in-Err-At.ensures at k)) c.in_ok-end-in-Err-At.ensures.whole

pub returns-in-Err-Failed-clause-ends : goal.returns-in-Err-Failed-clause-ends
returns-in-Err-Failed-clause-ends g c = λ s h.
    let x = c.in_ok-line.ensures.next in
    gives-up g.D.Disk.told g.D.Device.failures g.D.Disk.stops_alone c.loop-k.stage c.loop-k.script c.next_line.new.self s _ _ _ _ _ c.loop-k.k x.0 (c.loop-k.invariant.read s h) x.1 (c.in_ok-line.ensures.over c.loop-k.invariant.over) c.in-Some.line
    (subst (λ o. Nexts c.loop-k.script c.next_line.new.self (g.S.Source.left c.loop-k.source) (g.S.Source.left c.next_line.new.source) x.0 (Ok o)) c.in-Some.is x.2)
    c.play_cut.new.self Failed

pub loop-k-preserved : goal.loop-k-preserved
loop-k-preserved g c =
    let x = c.in_ok-line.ensures.next in record {
      read = λ s h.
          goes-on g.D.Disk.told g.D.Device.failures g.D.Disk.stops_alone c.loop-k.stage c.loop-k.script c.next_line.new.self s _ _ _ _ _ c.loop-k.k x.0 (c.loop-k.invariant.read s h) x.1 c.in-Some.line
          (subst (λ o. Nexts c.loop-k.script c.next_line.new.self (g.S.Source.left c.loop-k.source) (g.S.Source.left c.next_line.new.source) x.0 (Ok o)) c.in-Some.is x.2)
          c.play_cut.new.self c.in-Ok.text (g.K.Sink.held c.write.new.self) c.in-Ok.ensures (subst (λ t. Takes (g.K.Sink.held c.loop-k.sink) (g.K.Sink.held c.write.new.self) t) c.as_bytes.ensures.value c.in_ok-write-in-Ok.ensures.ok);
      over = c.in_ok-line.ensures.over c.loop-k.invariant.over;
      source_later = omega (arith, c.loop-k.invariant.source_later, c.next_line.ensures.cause.later);
      source_steady = c.next_line.ensures.cause.steady ∙ c.loop-k.invariant.source_steady;
      later = omega (arith, c.loop-k.invariant.later, c.write.ensures.cause.later);
      steady = c.write.ensures.cause.steady ∙ c.loop-k.invariant.steady;
    }

pub returns-clause-ends : goal.returns-clause-ends
returns-clause-ends g c = λ s h.
    fails g.D.Disk.told g.D.Device.failures g.D.Disk.stops_alone c.loop-k.stage c.loop-k.script s _ _ _ _ c.loop-k.k (c.loop-k.invariant.read s h) c.loop-k.invariant.over Failed
