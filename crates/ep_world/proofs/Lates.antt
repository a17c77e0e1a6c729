-- The first message of the connection before the last resumption.
use Rattle.std.proofs.Common.{◌≡◌, Option, Some, None, refl, ap, ◌∙◌}
use Rattle.std.specs.Option.{option_map}
use Rattle.ep_units.specs.declared.session.Session.{Session}
use Rattle.ep_undo.specs.Undo.{UndoState}
use Rattle.ep_schedule.specs.World.{Conn, Member as AMember}
use Rattle.ep_schedule.specs.Headline.{first_sent}
use Rattle.ep_members.specs.declared.member.Member.{Member}
use Rattle.ep_members.specs.declared.message.Sent.{Sent}
use Rattle.ep_world.specs.Actors.{member_of}
use Rattle.ep_members.specs.Conns.{KeptConn}
use Rattle.ep_world.specs.Conns.{conn_of}
use Rattle.ep_members.specs.Members.{TakesLate, TakesLateOf}
use Rattle.ep_world.specs.Shows.{late_up}
use Rattle.ep_world.proofs.Conns.{TakesMessage, takes-message, takes-none}

pub late-none : (m : AMember) (k : UndoState) (new : Member) → TakesLate (member_of m k) None new → (late_up m.earlier ≡ None) × (new ≡ member_of m k)
late-none m k new t = go m.earlier refl t
  where
    go : (o : Option Conn) → m.earlier ≡ o → TakesLateOf (member_of m k) (option_map conn_of o) None new → (late_up m.earlier ≡ None) × (new ≡ member_of m k)
    go None e h = (ap late_up e, h)
    go (Some c) e h =
        let n = takes-none c (conn_of c) (h.0, refl) in
        (ap late_up e ∙ ap (first_sent c.session) n.0, h.1)

-- of which connection it is, and what is left
pub record IsLate (m : AMember) (k : UndoState) (x : Session × Sent) (new : Member) : Type 0 where
  pub conn : Conn
  pub left : KeptConn
  pub before : m.earlier ≡ Some conn
  pub session : x.0 ≡ conn.session
  pub message : TakesMessage conn x.1 left
  pub rest : new ≡ record (member_of m k) { earlier = Some left }

pub late-some : (m : AMember) (k : UndoState) (x : Session × Sent) (new : Member) → TakesLate (member_of m k) (Some x) new → IsLate m k x new
late-some m k x new t = go m.earlier refl t
  where
    go : (o : Option Conn) → m.earlier ≡ o → TakesLateOf (member_of m k) (option_map conn_of o) (Some x) new → IsLate m k x new
    go None e h = absurd h
    go (Some c) e h = record { conn = c; left = h.1.0; before = e; session = h.0; message = takes-message c x.1 h.1.0 h.1.1; rest = h.1.2 }
