-- Who takes part, and the actors of the rules for whom they stand.
use Rattle.std.specs.Prelude.{◌≡◌, List, Option, Some, None}
use Rattle.std.specs.Option.{option_map}
use Rattle.ep_schedule.specs.World.{Name, Member as AMember, Actor as AnActor, WorldState}
use Rattle.ep_schedule.specs.World.Actor.{Nobody, Guest, Named}
use Rattle.ep_undo.specs.Undo.{UndoState}
use Rattle.ep_members.specs.declared.actors.Actor.{Actor}
use Rattle.ep_members.specs.declared.actors.Actor.TheVariants as actor
use Rattle.ep_members.specs.declared.actors.Slot.{Slot}
use Rattle.ep_members.specs.declared.member.Member.{Member}
use Rattle.ep_members.specs.Actors.{PutsActor, found}
use Rattle.ep_world.specs.Conns.{conn_of}
use Rattle.ep_world.specs.Kepts.{Kepts}

-- the client of a name is another now, and everybody else is as before
abbrev pub Steps : List Slot → Name → Member → Member → List Slot → Type 0
Steps old n m m' new = (found old n ≡ Some (actor.Named m)) × PutsActor old n (actor.Named m') new

-- each name stands for whom it stood
abbrev pub IsSame : List Slot → List Slot → Type 0
IsSame old new = (q : Name) → found new q ≡ found old q

-- a guest, or nobody
abbrev pub IsNoClient : Option Actor → Type 0
IsNoClient None = Unit {0}
IsNoClient (Some (actor.Guest c)) = Unit {0}
IsNoClient (Some (actor.Named m)) = ⊥

-- ---- for whom they stand

-- a client that is kept like this, with its stacks
abbrev pub member_of : AMember → UndoState → Member
member_of m k = record { client = k; birth = m.birth; conn = conn_of m.conn; earlier = option_map conn_of m.earlier }

abbrev pub actor_of : AnActor → UndoState → Option Actor
actor_of Nobody k = None
actor_of (Guest c) k = Some (actor.Guest (conn_of c))
actor_of (Named m) k = Some (actor.Named (member_of m k))

-- each name stands for the actor of the world, whose client is kept like that
abbrev pub AreActors : List Slot → WorldState → Kepts → Type 0
AreActors slots w ks = (n : Name) → found slots n ≡ actor_of (w.actors n) (ks n)
