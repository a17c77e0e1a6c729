-- Who is known by a name, after somebody is taken out or put there.
use Rattle.std.proofs.Common.{◌≡◌, ℕ, Bool, true, false, List, Option, Some, None, ◌⊎◌, inl, inr, if◌then◌else◌, refl, sym, ap, ◌∙◌}
use Rattle.ep_units.specs.Text.{text_eq}
use Rattle.ep_outside.specs.Disk.{Contents}
use Rattle.ep_history.proofs.Births.{decide-name}
use Rattle.ep_schedule.specs.World.{Name, Conn, Member as AMember, Actor as AnActor, WorldState, put}
use Rattle.ep_schedule.specs.World.Actor.{Nobody, Guest, Named}
use Rattle.ep_undo.specs.Undo.{UndoState}
use Rattle.ep_world.specs.Kepts.{Kepts, kept_put}
use Rattle.ep_members.specs.declared.actors.Actor.{Actor}
use Rattle.ep_members.specs.declared.actors.Actor.TheVariants as actor
use Rattle.ep_members.specs.declared.actors.Slot.{Slot}
use Rattle.ep_members.specs.declared.member.Member.{Member}
use Rattle.ep_world.specs.declared.world.World.{World}
use Rattle.ep_world.specs.Actors.{IsNoClient, IsSame, actor_of, member_of}
use Rattle.ep_members.specs.Actors.{IsWithout, found}
use Rattle.ep_members.specs.Conns.{KeptConn}
use Rattle.ep_world.specs.Conns.{conn_of}
use Rattle.ep_world.specs.Events.{is_client}
use Rattle.ep_world.specs.Standing.{IsAt, StandsBut, StandsFor}
use Rattle.ep_history.specs.declared.record.Record.{Record}

-- ---- whom a place stands for

pub is-named : (a : AnActor) (k : UndoState) (m : Member) → actor_of a k ≡ Some (actor.Named m) → (x : AMember) × (a ≡ Named x) × (m ≡ member_of x k)
is-named Nobody k m e = absurd cc
is-named (Guest c) k m e = absurd cc
is-named (Named x) k m e = (x, refl, sym cc)

pub is-guest : (a : AnActor) (k : UndoState) (c : KeptConn) → actor_of a k ≡ Some (actor.Guest c) → (x : Conn) × (a ≡ Guest x) × (c ≡ conn_of x)
is-guest Nobody k c e = absurd cc
is-guest (Guest x) k c e = (x, refl, sym cc)
is-guest (Named x) k c e = absurd cc

pub is-nobody : (a : AnActor) (k : UndoState) → actor_of a k ≡ None → a ≡ Nobody
is-nobody Nobody k e = refl
is-nobody (Guest x) k e = absurd cc
is-nobody (Named x) k e = absurd cc

pub no-client : (a : AnActor) (k : UndoState) → IsNoClient (actor_of a k) → is_client a ≡ false
no-client Nobody k e = refl
no-client (Guest x) k e = refl
no-client (Named x) k e = absurd e

-- ---- others

-- a name that was put out leaves the others
pub without-others : (old new : List Slot) (n : Name) → IsWithout old n new → (q : Name) → text_eq q n ≡ false → found new q ≡ found old q
without-others old new n w q e = w q ∙ ap (λ t. if t then None else found old q) e

-- a name that stands for nobody may be put out
pub without-nobody : (old new : List Slot) (n : Name) → IsWithout old n new → found old n ≡ None → IsSame old new
without-nobody old new n w e q = go (decide-name q n)
  where
    go : ((text_eq q n ≡ true) × (q ≡ n)) ⊎ ((text_eq q n ≡ false) × (q ≡ n → ⊥)) → found new q ≡ found old q
    go (inl z) = w q ∙ ap (λ t. if t then None else found old q) z.0 ∙ sym (ap (found old) z.1 ∙ e)
    go (inr z) = without-others old new n w q z.0

-- who is put back
pub put-back : (old mid new : List Slot) (n : Name) (a : Actor) → IsWithout old n mid → found old n ≡ Some a
    → ((q : Name) → found new q ≡ (if text_eq q n then Some a else found mid q)) → IsSame old new
put-back old mid new n a w e p q = go (decide-name q n)
  where
    go : ((text_eq q n ≡ true) × (q ≡ n)) ⊎ ((text_eq q n ≡ false) × (q ≡ n → ⊥)) → found new q ≡ found old q
    go (inl z) = p q ∙ ap (λ t. if t then Some a else found mid q) z.0 ∙ sym (ap (found old) z.1 ∙ e)
    go (inr z) = p q ∙ ap (λ t. if t then Some a else found mid q) z.0 ∙ without-others old mid n w q z.0

-- ---- a name stands for another

-- the name stands for this one now, kept like this
pub put-actors : (mid new : List Slot) (w : WorldState) (ks : Kepts) (n : Name) (x : AnActor) (k : UndoState) (a : Actor)
    → ((q : Name) → text_eq q n ≡ false → found mid q ≡ actor_of (w.actors q) (ks q))
    → ((q : Name) → found new q ≡ (if text_eq q n then Some a else found mid q)) → actor_of x k ≡ Some a
    → (q : Name) → found new q ≡ actor_of (put w.actors n x q) (kept_put ks n k q)
put-actors mid new w ks n x k a others p e q = go (text_eq q n) refl
  where
    go : (t : Bool) → text_eq q n ≡ t → found new q ≡ actor_of (put w.actors n x q) (kept_put ks n k q)
    go true z =
        p q ∙ ap (λ t. if t then Some a else found mid q) z ∙ sym e
        ∙ sym (ap (λ t. actor_of (if t then x else w.actors q) (if t then k else ks q)) z)
    go false z =
        p q ∙ ap (λ t. if t then Some a else found mid q) z ∙ others q z
        ∙ sym (ap (λ t. actor_of (if t then x else w.actors q) (if t then k else ks q)) z)

-- the name stands for another, who is kept as before
pub put-actors-kept : (mid new : List Slot) (w : WorldState) (ks : Kepts) (n : Name) (x : AnActor) (a : Actor)
    → ((q : Name) → text_eq q n ≡ false → found mid q ≡ actor_of (w.actors q) (ks q))
    → ((q : Name) → found new q ≡ (if text_eq q n then Some a else found mid q)) → actor_of x (ks n) ≡ Some a
    → (q : Name) → found new q ≡ actor_of (put w.actors n x q) (ks q)
put-actors-kept mid new w ks n x a others p e q = put-actors mid new w ks n x (ks n) a others p e q ∙ ap (actor_of (put w.actors n x q)) (go (decide-name q n))
  where
    go : ((text_eq q n ≡ true) × (q ≡ n)) ⊎ ((text_eq q n ≡ false) × (q ≡ n → ⊥)) → kept_put ks n (ks n) q ≡ ks q
    go (inl z) = ap (λ t. if t then ks n else ks q) z.0 ∙ ap ks (sym z.1)
    go (inr z) = ap (λ t. if t then ks n else ks q) z.0

-- a name that is put where it stands already
pub put-same : (actors : Name → AnActor) (n : Name) (x : AnActor) → actors n ≡ x → (q : Name) → put actors n x q ≡ actors q
put-same actors n x e q = go (decide-name q n)
  where
    go : ((text_eq q n ≡ true) × (q ≡ n)) ⊎ ((text_eq q n ≡ false) × (q ≡ n → ⊥)) → put actors n x q ≡ actors q
    go (inl z) = ap (λ t. if t then x else actors q) z.0 ∙ sym (ap actors z.1 ∙ e)
    go (inr z) = ap (λ t. if t then x else actors q) z.0

-- ---- worlds in code

module _ {D : Type 0} (told_by : D → Option Contents) (failures : D → ℕ) (stops_alone : D → Bool) (alone : Bool) (rs : List Record) where
  -- only somebody else stands for a name
  pub same-stands : (old new : World D) (w : WorldState) (ks : Kepts) → StandsFor told_by failures stops_alone alone rs old w ks → IsAt told_by failures stops_alone alone rs new.machine w.pad
      → new.id ≡ old.id → IsSame old.actors new.actors → StandsFor told_by failures stops_alone alone rs new w ks
  same-stands old new w ks s m i a = record { machine = m; id = i ∙ s.id; actors = λ q. a q ∙ s.actors q }

  -- one name is put out
  pub lent : (old new : World D) (n : Name) (w : WorldState) (ks : Kepts) → StandsFor told_by failures stops_alone alone rs old w ks → IsAt told_by failures stops_alone alone rs new.machine w.pad
      → new.id ≡ old.id → IsWithout old.actors n new.actors → StandsBut told_by failures stops_alone alone rs new n w ks
  lent old new n w ks s m i a = record { machine = m; id = i ∙ s.id; actors = λ q e. without-others old.actors new.actors n a q e ∙ s.actors q }
