use Rattle.std.proofs.Common.{◌∙◌, [], ◌∷◌, ◌++◌, ap, refl, subst, sym}
use Rattle.ep_pad.specs.Lazy.{HasCalledSince, Lazy}
use Rattle.ep_pad.proofs.LazyPads.{has_machine, makes, refuses}
use Rattle.ep_pad.proofs.lazy.LazyPadMachine.call.Goals as goal
use Rattle.ep_pad.proofs.lazy.LazyPadMachine.call.Goals.{in-Some, in-None}

pub returns-in-Err : goal.returns-in-Err
returns-in-Err g c = λ first h s.
    refuses g.D.Disk.told g.D.Device.failures first c.args.self.now c.open.new.self c.args.entry c.refused.result c.in-Err.why h s c.args.self.now.disk refl c.in-Err.ensures.refused c.refused.ensures.suits c.refused.ensures.reply

pub returns : goal.returns
returns g c = λ first h s.
    let seen = c.self.view_is in
    elim c.match-self.branch [
      | in-Some w ↦
          subst (λ r. HasCalledSince g.D.Disk.told g.D.Device.failures first (record { limits = c.match-self.self-inside.limits; disk = c.match-self.self-inside.disk; machine = c.match-self.self-inside.machine }) (h ++ (c.args.entry, r) ∷ [])) (sym w.result-is)
          (makes g.D.Disk.told g.D.Device.failures first c.args.self.now c.open.new.self _ c.args.entry w.call.result h w.in-Some.machine w.call.new.self s c.args.self.now.disk refl c.in_default.ensures.opens
          (sym (ap (λ (p : Lazy _). p.machine) seen) ∙ w.in-Some.is)
          ((λ j. (w.self-inside-is j).limits) ∙ ap (λ (p : Lazy _). p.limits) seen)
          ((λ j. (w.self-inside-is j).disk) ∙ ap (λ (p : Lazy _). p.disk) seen)
          (λ j. (w.self-inside-is j).machine)
          w.call.ensures)
      | in-None w ↦
          has_machine g.D.Disk.told g.D.Device.failures first c.args.self.now c.open.new.self h s c.args.self.now.disk refl c.in_default.ensures.opens (sym (ap (λ (p : Lazy _). p.machine) seen) ∙ w.in-None.is)
    ]
