use Rattle.std.proofs.Common.{arith, ap, ◌∙◌}
use Rattle.ep_units.specs.Text.{is_well_formed}
use Rattle.ep_units.specs.Clean.{clean}
use Rattle.ep_units.proofs.Cleaning.{clean_more, clean_all, is_well_formed-clean}
use Rattle.ep_units.proofs.units.Units.clean.Goals as goal

pub loop-at-preserved : goal.loop-at-preserved
loop-at-preserved c =
    clean_more c.as_slice-units.result.now c.loop-at.at c.loop-at.cleaned c.push_clean.new.cleaned (omega arith) c.loop-at.invariant c.in_ok-push_clean.ensures

pub returns-clause-well_formed : goal.returns-clause-well_formed
returns-clause-well_formed c =
    let cleaned = clean_all c.as_slice-units.result.now c.loop-at.at c.loop-at.cleaned c.loop-at-test.false c.loop-at.invariant ∙ ap clean c.as_slice-units.ensures in
    λ h. ap is_well_formed cleaned ∙ is_well_formed-clean c.args.self.now h
