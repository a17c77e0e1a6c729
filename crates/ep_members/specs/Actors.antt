-- Who takes part, by name, in code, and what calls make of them.
use Rattle.std.specs.Prelude.{◌≡◌, Bool, true, false, if◌then◌else◌, List, [], ◌∷◌, Option, Some, None}
use Rattle.ep_units.specs.Text.{Text, text_eq}
use Rattle.ep_units.specs.declared.session.Session.{Session}
use Rattle.ep_undo.specs.Undo.{undo_lost}
use Rattle.ep_members.specs.declared.actors.Actor.{Actor}
use Rattle.ep_members.specs.declared.actors.Actor.TheVariants as actor
use Rattle.ep_members.specs.declared.actors.Slot.{Slot}
use Rattle.ep_members.specs.declared.actors.Actors.TheInside as actors
use Rattle.ep_members.specs.declared.member.Member.{Member}
use Rattle.ep_members.specs.declared.message.Sent.{Sent}
use Rattle.ep_members.specs.Conns.{KeptConn, TakesUp, kept_cut}

abbrev pub held_actors : actors.Inside → List Slot
held_actors a = a.slots.items

-- whom a name stands for: the first place with it tells
abbrev pub found : List Slot → Text → Option Actor
found [] n = None
found (s ∷ ss) n = if text_eq n s.name then s.actor else found ss n

-- all connections of somebody are gone
abbrev pub kept_cut_off : Actor → Actor
kept_cut_off (actor.Guest c) = actor.Guest (kept_cut c)
kept_cut_off (actor.Named m) = actor.Named (record { client = undo_lost m.client; birth = m.birth; conn = kept_cut m.conn; earlier = None })

-- the name stands for nobody, and every other as before
abbrev pub IsWithout : List Slot → Text → List Slot → Type 0
IsWithout old n new = (q : Text) → found new q ≡ (if text_eq q n then None else found old q)

-- the name stands for this one, and every other as before
abbrev pub PutsActor : List Slot → Text → Actor → List Slot → Type 0
PutsActor old n a new = (q : Text) → found new q ≡ (if text_eq q n then Some a else found old q)

abbrev pub is_a_guest : Option Actor → Bool
is_a_guest None = false
is_a_guest (Some (actor.Guest c)) = true
is_a_guest (Some (actor.Named m)) = false

abbrev pub is_a_client : Option Actor → Bool
is_a_client None = false
is_a_client (Some (actor.Guest c)) = false
is_a_client (Some (actor.Named m)) = true

-- the client of somebody, where that is one
abbrev pub client_in : Actor → Option Member
client_in (actor.Guest c) = None
client_in (actor.Named m) = Some m

abbrev pub client_of : Option Actor → Option Member
client_of None = None
client_of (Some a) = client_in a

-- ---- the first message

-- of a connection, with its session
abbrev pub TakesSent : KeptConn → Option (Session × Sent) → KeptConn → Type 0
TakesSent old None new = TakesUp old None new
TakesSent old (Some x) new = (x.0 ≡ old.session) × TakesUp old (Some x.1) new

-- of somebody
abbrev pub TakesFirst : Actor → Option (Session × Sent) → Actor → Type 0
TakesFirst (actor.Guest c) x (actor.Guest d) = TakesSent c x d
TakesFirst (actor.Named m) x (actor.Named n) = (d : KeptConn) × TakesSent m.conn x d × (n ≡ record m { conn = d })
TakesFirst (actor.Guest c) x (actor.Named n) = ⊥
TakesFirst (actor.Named m) x (actor.Guest d) = ⊥
