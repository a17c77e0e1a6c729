-- A client is taken out, makes its step, and is put back.
use Rattle.std.proofs.Common.{◌≡◌, ℕ, Bool, true, false, List, ◌∷◌, Option, Some, None, if◌then◌else◌, refl, sym, ap, ◌∙◌, subst}
use Rattle.std.specs.Borrow.{MutBor}
use Rattle.std.specs.Option.{OnSome, option_map}
use Rattle.ep_units.specs.Text.{text_eq}
use Rattle.ep_outside.specs.Disk.{Contents}
use Rattle.ep_history.specs.Kept.{Keeps}
use Rattle.ep_history.specs.Pad.{birth_at}
use Rattle.ep_history.proofs.Client.{IsSound}
use Rattle.ep_schedule.specs.World.{Name, Member as AMember, Actor as AnActor, WorldState, put, start}
use Rattle.ep_schedule.proofs.Good.{IsGoodWorld, at-name}
use Rattle.ep_schedule.proofs.Runs.{run-good, start-good}
use Rattle.ep_schedule.specs.World.Actor.{Nobody, Guest, Named}
use Rattle.ep_schedule.specs.Kepts.{KeepsActor}
use Rattle.ep_undo.specs.Undo.{UndoState}
use Rattle.ep_world.specs.Events.{is_client}
use Rattle.ep_world.specs.Kepts.{Kepts, kept_put}
use Rattle.ep_members.specs.declared.actors.Actor.{Actor}
use Rattle.ep_members.specs.declared.actors.Actor.TheVariants as actor
use Rattle.ep_members.specs.declared.actors.Slot.{Slot}
use Rattle.ep_members.specs.declared.member.Member.{Member}
use Rattle.ep_world.specs.declared.world.World.{World}
use Rattle.ep_members.specs.Actors.{IsWithout, PutsActor, client_of, found}
use Rattle.ep_world.specs.Actors.{Steps, actor_of, member_of}
use Rattle.ep_world.specs.Standing.{IsAt, IsRun, StandsFor}
use Rattle.ep_world.proofs.Leading.{kept}
use Rattle.ep_world.proofs.Seating.{is-named, put-actors, put-back, same-stands, without-others}
use Rattle.ep_history.specs.declared.record.Record.{Record}

-- ---- a client as it is kept

pub keeps : (w : WorldState) (ks : Kepts) (n : Name) (x : AMember) → IsRun w ks → w.actors n ≡ Named x → Keeps (birth_at w.pad x.birth) x.client (ks n).client
keeps w ks n x r e = subst (λ a. KeepsActor w.pad a (ks n).client) e (kept w ks r n)

pub sound : (w : WorldState) (ks : Kepts) (n : Name) (x : AMember) → IsRun w ks → w.actors n ≡ Named x → IsSound (birth_at w.pad x.birth) x.client
sound w ks n x r e =
    let g = subst IsGoodWorld (sym r.world) (run-good r.events (start r.limits r.id) (start-good r.limits r.id)) in
    (at-name w n (Named x) g e).sound

-- ---- a turn

-- a client that was known by a name is another now, and everybody else is as before
pub record IsTurn (old : List Slot) (n : Name) (m m' : Member) (new : List Slot) : Type 0 where
  pub between : List Slot
  pub taken : found old n ≡ Some (actor.Named m)
  pub without : IsWithout old n between
  pub seated : PutsActor between n (actor.Named m') new

-- where it took its step in place
pub in-place : (old : List Slot) (n : Name) (m m' : Member) (new : List Slot) → Steps old n m m' new → IsTurn old n m m' new
in-place old n m m' new s = record {
  between = record { name = n; actor = None } ∷ old;
  taken = s.0;
  without = λ q. refl;
  seated = λ q. s.1 q ∙ go q (text_eq q n);
}
  where
    go : (q : Name) (t : Bool) → (if t then Some (actor.Named m') else found old q) ≡ (if t then Some (actor.Named m') else (if t then None else found old q))
    go q true = refl
    go q false = refl

-- where it was lent to take its step
pub lent-turn : (old : List Slot) (n : Name) (m m' : Member) (new : List Slot) (r : Option (MutBor Member)) (x : MutBor Member) → r ≡ Some x → Some m ≡ client_of (found old n)
    → OnSome r (PutsActor old n (actor.Named m') new) → IsTurn old n m m' new
lent-turn old n m m' new r x is told puts = in-place old n m m' new (go (found old n) told, subst (λ o. OnSome o (PutsActor old n (actor.Named m') new)) is puts)
  where
    go : (o : Option Actor) → Some m ≡ client_of o → o ≡ Some (actor.Named m)
    go None e = absurd cc
    go (Some (actor.Guest c)) e = absurd cc
    go (Some (actor.Named y)) e = sym (ap (λ (z : Option Member). option_map actor.Named z) e)

-- nobody who is lent is no client
no-client-of : (a : AnActor) (k : UndoState) → None ≡ client_of (actor_of a k) → is_client a ≡ false
no-client-of Nobody k e = refl
no-client-of (Guest c) k e = refl
no-client-of (Named x) k e = absurd cc

module _ {D : Type 0} (told_by : D → Option Contents) (failures : D → ℕ) (stops_alone : D → Bool) (alone : Bool) (rs : List Record) where
  -- nobody is lent, and the world stands as before
  pub nobody-lent : (old new : World D) (w : WorldState) (ks : Kepts) (n : Name) → StandsFor told_by failures stops_alone alone rs old w ks → new.machine ≡ old.machine → new.id ≡ old.id
      → None ≡ client_of (found old.actors n) → new.actors ≡ old.actors → (is_client (w.actors n) ≡ false) × StandsFor told_by failures stops_alone alone rs new w ks
  nobody-lent old new w ks n s machine id told same = (
    no-client-of (w.actors n) (ks n) (told ∙ ap client_of (s.actors n)),
    same-stands told_by failures stops_alone alone rs old new w ks s (subst (λ h. IsAt told_by failures stops_alone alone rs h w.pad) (sym machine) s.machine) id (λ q. ap (λ ss. found ss q) same),
  )

  -- whose turn it is, and for what the world stands behind it
  pub record Turns (new : World D) (w : WorldState) (ks : Kepts) (n : Name) (m m' : Member) : Type 0 where
    pub member : AMember
    pub named : w.actors n ≡ Named member
    pub is : m ≡ member_of member (ks n)
    -- for a world in which the name stands for another member
    pub steps : (v : WorldState) (y : AMember) (k : UndoState) → v.pad ≡ w.pad → v.id ≡ w.id → v.actors ≡ put w.actors n (Named y) → m' ≡ member_of y k
        → StandsFor told_by failures stops_alone alone rs new v (kept_put ks n k)
    -- for the same
    pub stays : m' ≡ m → StandsFor told_by failures stops_alone alone rs new w ks

  pub turns : (old new : World D) (w : WorldState) (ks : Kepts) (n : Name) (m m' : Member) → StandsFor told_by failures stops_alone alone rs old w ks → new.machine ≡ old.machine → new.id ≡ old.id
      → IsTurn old.actors n m m' new.actors → Turns new w ks n m m'
  turns old new w ks n m m' s machine id t =
      let x = is-named (w.actors n) (ks n) m (sym (s.actors n) ∙ t.taken) in
      let others : (q : Name) → text_eq q n ≡ false → found t.between q ≡ actor_of (w.actors q) (ks q) =
      λ q e. without-others old.actors t.between n t.without q e ∙ s.actors q in
      let at : IsAt told_by failures stops_alone alone rs new.machine w.pad = subst (λ h. IsAt told_by failures stops_alone alone rs h w.pad) (sym machine) s.machine in
      record {
        member = x.0;
        named = x.1;
        is = x.2;
        steps = λ v y k pad i changed e. record {
          machine = subst (IsAt told_by failures stops_alone alone rs new.machine) (sym pad) at;
          id = id ∙ s.id ∙ sym i;
          actors = λ q. put-actors t.between new.actors w ks n (Named y) k (actor.Named m') others t.seated (ap (λ z. Some (actor.Named z)) (sym e)) q
              ∙ sym (ap (λ (f : Name → AnActor). actor_of (f q) (kept_put ks n k q)) changed);
        };
        stays = λ e. same-stands told_by failures stops_alone alone rs old new w ks s at id
            (put-back old.actors t.between new.actors n (actor.Named m) t.without t.taken (subst (λ z. PutsActor t.between n (actor.Named z) new.actors) e t.seated));
      }
