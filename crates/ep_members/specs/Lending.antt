-- What comes of a client that is lent to be changed where it stands.
use Rattle.std.specs.Prelude.{◌≡◌, List, Option, Some}
use Rattle.std.specs.Option.{OnSome}
use Rattle.std.specs.Borrow.{Fml, MutBor, LendsIf, LendsSo}
use Rattle.ep_units.specs.Text.{Text}
use Rattle.ep_members.specs.declared.actors.Actor.{Actor}
use Rattle.ep_members.specs.declared.actors.Actor.TheVariants as actor
use Rattle.ep_members.specs.declared.actors.Slot.{Slot}
use Rattle.ep_members.specs.declared.member.Member.{Member}
use Rattle.ep_members.specs.contracts.actors.Actor as an_actor
use Rattle.ep_members.specs.contracts.actors.Actors as actors
use Rattle.ep_members.specs.contracts.actors.Slot as slot
use Rattle.ep_members.specs.contracts.member.Member as member
use Rattle.ep_members.specs.Actors.{PutsActor}

-- somebody is the client that is left
abbrev pub LendsNamed : MutBor Actor → Option (MutBor Member) → Fml
LendsNamed s r = LendsIf an_actor.the_row member.the_row s r actor.Named s.now

-- a place has it
abbrev pub LendsSlot : MutBor Slot → Option (MutBor Member) → Fml
LendsSlot s r = LendsIf slot.the_row member.the_row s r (λ w. record { name = s.now.name; actor = Some (actor.Named w) }) s.now

-- its name stands for it, and each other name as before; where there is none nothing is changed
abbrev pub LendsClient : MutBor (List Slot) → Text → Option (MutBor Member) → Fml
LendsClient s n r = LendsSo actors.the_row member.the_row s r (λ new w. OnSome r (PutsActor s.now n (actor.Named w) new)) (λ new. new ≡ s.now)
