use Rattle.std.proofs.Common.{◌≡◌, List, ◌++◌, ◌∷◌, [], Some, sym, ap, ◌∙◌}
use Rattle.ep_members.specs.declared.actors.Slot.{Slot}
use Rattle.ep_members.specs.Actors.{found}
use Rattle.ep_members.proofs.Places.{found-push, set-place}
use Rattle.ep_members.proofs.actors.Actors.put.Goals as goal

pub returns-in-Some : goal.returns-in-Some
returns-in-Some c = λ q.
    rw c.put.ensures
    (set-place c.args.self.now c.self.inside.slots.items c.args.name.now c.in-Some.place c.index_mut.result.now (Some c.args.actor) (sym c.in-Some.ensures) c.self.view_is c.index_mut.ensures.value q)

pub returns-in_ok-push-in-None : goal.returns-in_ok-push-in-None
returns-in_ok-push-in-None c = λ q.
    let s : Slot = record { name = c.in_ok-copy-in-None.field-0; actor = Some c.args.actor } in
    let e : c.push.new.self.items ≡ c.args.self.now ++ s ∷ [] = ◌∙◌ {A = List Slot} c.in_ok-push-in-None.ensures.items (ap (λ xs. xs ++ s ∷ []) c.self.view_is) in
    ap (λ xs. found xs q) e ∙ found-push c.args.self.now c.args.name.now s (sym c.in-None.ensures) c.in_ok-copy-in-None.ensures q
