use Rattle.std.proofs.Common.{◌≡◌, Ok, Err, true, false, length, sym, ap, ◌∙◌, rules}
use Rattle.std.specs.Prelude.{◌==◌}
use Rattle.ep_run.specs.Ending.{with_world}
use Rattle.ep_run.proofs.Scripts.{script-as}
use Rattle.ep_run.specs.Play.{opening}
use Rattle.ep_run.specs.declared.script.PlayBad.TheVariants.{Failed}
use Rattle.ep_run.proofs.Running.{holds_nothing, nothing_played}
use Rattle.ep_run.proofs.script.play_script.Goals as goal

pub returns-in_err-disk-clause-ends : goal.returns-in_err-disk-clause-ends
returns-in_err-disk-clause-ends g c = nothing_played _ _ _ c.args.id (g.S.Source.left c.args.source.now) (g.K.Sink.held c.args.sink.now) c.from_residual.result Failed (search rules)

pub returns-in_err-stage-clause-ends : goal.returns-in_err-stage-clause-ends
returns-in_err-stage-clause-ends g c = nothing_played _ _ _ c.args.id (g.S.Source.left c.args.source.now) (g.K.Sink.held c.args.sink.now) c.from_residual-in_err-stage.result Failed (search rules)

pub returns-in_err-all-clause-ends : goal.returns-in_err-all-clause-ends
returns-in_err-all-clause-ends g c =
    let bad = c.in_err-all.field-0.0 in
    let e : c.from_residual-in_err-all.result ≡ Err bad = search (rules, c.from_residual-in_err-all.ensures, c.in_err-all.is, c.in_err-all.was) in
    let f : c.play_lines.result ≡ Err bad = search (rules, c.in_err-all.is, c.in_err-all.was) in
    let w = c.play_lines.new.stage.world in
    script-as _ _ _ (opening c.args.id) (g.S.Source.left c.args.source.now) (g.K.Sink.held c.args.sink.now) (g.K.Sink.held c.play_lines.new.sink) _ _ (e ∙ sym (ap (with_world w) f))
    (c.play_lines.ensures.ends (opening c.args.id) (c.in_ok-stage.ensures (holds_nothing _ c.new.result.items c.in_ok-disk.ensures.told c.new.ensures.items) (c.in_ok-disk.ensures.alone ∙ ap (λ xs. length xs == 0) c.new-2.ensures.items)))

pub returns-then-not-all-clause-ends : goal.returns-then-not-all-clause-ends
returns-then-not-all-clause-ends g c =
    let f : c.play_lines.result ≡ Ok false = search rules in
    let w = c.play_lines.new.stage.world in
    script-as _ _ _ (opening c.args.id) (g.S.Source.left c.args.source.now) (g.K.Sink.held c.args.sink.now) (g.K.Sink.held c.play_lines.new.sink) _ _ (sym (ap (with_world w) f))
    (c.play_lines.ensures.ends (opening c.args.id) (c.in_ok-stage.ensures (holds_nothing _ c.new.result.items c.in_ok-disk.ensures.told c.new.ensures.items) (c.in_ok-disk.ensures.alone ∙ ap (λ xs. length xs == 0) c.new-2.ensures.items)))

pub returns-clause-ends : goal.returns-clause-ends
returns-clause-ends g c =
    let f : c.play_lines.result ≡ Ok true = search rules in
    let w = c.play_lines.new.stage.world in
    script-as _ _ _ (opening c.args.id) (g.S.Source.left c.args.source.now) (g.K.Sink.held c.args.sink.now) (g.K.Sink.held c.play_lines.new.sink) _ _ (sym (ap (with_world w) f))
    (c.play_lines.ensures.ends (opening c.args.id) (c.in_ok-stage.ensures (holds_nothing _ c.new.result.items c.in_ok-disk.ensures.told c.new.ensures.items) (c.in_ok-disk.ensures.alone ∙ ap (λ xs. length xs == 0) c.new-2.ensures.items)))
