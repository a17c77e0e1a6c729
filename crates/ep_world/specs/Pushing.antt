-- What a push comes to.
use Rattle.std.specs.Prelude.{◌≡◌, ℕ, Bool, List, true, false, not, ◌&&◌, Option}
use Rattle.ep_outside.specs.Disk.{Contents}
use Rattle.ep_history.specs.Entries.{outcome}
use Rattle.ep_history.specs.Entries.Entry.{Fetch}
use Rattle.ep_history.specs.Entries.Outcome.{Refuses, Answers}
use Rattle.ep_history.specs.Entries.Answer.{FetchAnswer}
use Rattle.ep_history.specs.Pad.{PadState}
use Rattle.ep_history.specs.Readings.{Fetched}
use Rattle.ep_history.specs.declared.pad_bad.PadBad.TheVariants as bad
use Rattle.ep_history.specs.declared.seat.Why.{Why}
use Rattle.ep_pad.specs.Held.{Held}
use Rattle.ep_members.specs.declared.member.Member.{Member}
use Rattle.ep_members.specs.declared.telling.Pushed.{Pushed}
use Rattle.ep_members.specs.declared.telling.Pushed.TheVariants as pushed
use Rattle.ep_members.specs.Conns.{KeptConn, kept_closing_if}
use Rattle.ep_world.specs.Standing.{IsAt}
use Rattle.ep_members.specs.Telling.{ended_by, pushed_by, pushed_next, told_next}
use Rattle.ep_history.specs.declared.record.Record.{Record}

-- what the pad answers to a fetch of a connection, and what the connection is told of it
pub data IsTold (pad : PadState) (old : KeptConn) (new : KeptConn) (p : Pushed) : Type 0 where
  IsFetched : (f : Fetched) → outcome pad (Fetch old.session old.sent old.nops) ≡ Answers (FetchAnswer f) pad
      → p ≡ pushed_next old.sent f.nops f.revs → new ≡ told_next f.nops f.revs old → IsTold pad old new p
  IsDead : (why : Why) → outcome pad (Fetch old.session old.sent old.nops) ≡ Refuses (bad.Dead why)
      → p ≡ pushed_by (ended_by why) → new ≡ kept_closing_if (ended_by why) old → IsTold pad old new p

-- a connection that may be told anything is told the next
abbrev pub TellsIf : Bool → PadState → KeptConn → KeptConn → Pushed → Type 0
TellsIf true pad old new p = IsTold pad old new p
TellsIf false pad old new p = (p ≡ pushed.Nothing) × (new ≡ old)

module _ {D : Type 0} (told_by : D → Option Contents) (failures : D → ℕ) (stops_alone : D → Bool) (alone : Bool) (rs : List Record) where
  abbrev pub TellsOf : PadState → KeptConn → Held D → KeptConn → Pushed → Type 0
  TellsOf pad old machine new p = IsTold pad old new p × IsAt told_by failures stops_alone alone rs machine pad

  -- a client is told the next, if it may be told anything
  abbrev pub TellsMember : PadState → Member → Held D → Member → Pushed → Type 0
  TellsMember pad old machine new p =
      TellsIf (old.client.client.connected && not old.conn.closed) pad old.conn new.conn p × (new ≡ record old { conn = new.conn }) × IsAt told_by failures stops_alone alone rs machine pad

module _ {D : Type 0} (told_by : D → Option Contents) (failures : D → ℕ) (stops_alone : D → Bool) where
  -- the same, whatever pad the machine is of
  abbrev pub Tells : Held D → Member → Held D → Member → Pushed → Type 0
  Tells before old machine new p =
      (alone : Bool) (rs : List Record) (pad : PadState) → IsAt told_by failures stops_alone alone rs before pad
      → TellsMember told_by failures stops_alone alone rs pad old machine new p
