use Rattle.std.proofs.Common.{◌≡◌, ◌∷◌, [], ℕ, List, length, refl, sym, subst, ◌∙◌, append_assoc, append-nil, arith}
use Rattle.std.specs.Vec.Iter.{into_iter_items}
use Rattle.ep_event.specs.declared.event.Event.{Event}
use Rattle.ep_schedule.specs.World.{start}
use Rattle.ep_world.specs.Kepts.{nobodies}
use Rattle.ep_world.specs.Journal.{begun}
use Rattle.ep_world.specs.Leading.{Lead}
use Rattle.ep_world.proofs.Leading.{begins, scheduled}
use Rattle.ep_world.proofs.schedule.schedule_law.Goals as goal

nothing-left : {X : Type 0} (l : List X) → length l ≡ 0 → l ≡ []
nothing-left [] h = refl
nothing-left (x ∷ xs) h = absurd (omega arith)

pub loop-now-init : goal.loop-now-init
loop-now-init g c = (
  refl,
  λ h. record { journal = begun; world = start c.args.limits c.args.id; kepts = nobodies; leads = (refl, refl, refl); run = begins c.args.limits c.args.id; stands = c.in_ok-world.ensures.begins h },
)

pub loop-now-preserved : goal.loop-now-preserved
loop-now-preserved g c =
    let at = c.loop-now in
    let x : ℕ × Event = (c.in-Some.now, c.in-Some.event) in
    let steps : into_iter_items at.now-iterator ≡ x ∷ into_iter_items c.next.new.self = c.in-Some.ensures.steps.0 in (
      append_assoc at.yielded (x ∷ []) _ ∙ rw (← steps) at.invariant.0,
      λ h. c.in_ok-play.ensures (g.D.Disk.stops_alone c.args.disk) (start c.args.limits c.args.id) at.yielded (at.invariant.1 h),
    )

pub returns : goal.returns
returns g c = λ h.
    let at = c.loop-now in
    let none = c.in-None.ensures.steps in
    let empty : into_iter_items at.now-iterator ≡ [] = nothing-left _ (sym at.now-iterator.rest.ok.0 ∙ none.0) in
    let all : at.yielded ≡ c.args.events.items = sym (append-nil at.yielded) ∙ rw empty at at.invariant.0 ∙ c.into_iter-now-iterator.ensures.into_iter_gives.0 in
    let s = at.invariant.1 h in (
      s.journal,
      (
        s.world,
        (
          s.kepts,
          (
            subst (λ es. Lead (g.D.Disk.stops_alone c.args.disk) begun (start c.args.limits c.args.id) nobodies es s.journal s.world s.kepts) all s.leads,
            s.stands,
            scheduled s.world s.kepts s.run,
          ),
        ),
      ),
    )
