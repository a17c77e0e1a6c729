-- A connection in code, and its steps.
use Rattle.std.specs.Prelude.{◌≡◌, ℕ, suc, Bool, true, false, if◌then◌else◌, List, [], ◌∷◌, ◌++◌, Option, Some, None}
use Rattle.ep_units.specs.declared.session.Session.{Session}
use Rattle.ep_history.specs.declared.rev.Rev.{Rev}
use Rattle.ep_event.specs.declared.shown.Ended.{Ended}
use Rattle.ep_members.specs.declared.message.Sent.{Sent}
use Rattle.ep_members.specs.declared.message.Down.{Down}
use Rattle.ep_members.specs.declared.message.Down.TheVariants as down
use Rattle.ep_members.specs.declared.conn.Conn.TheInside as conn

-- the session of a connection, its queues, the first to be taken or heard first, the last revision that entered the queue
-- down, how many of its session's edits that became nothing were told there, and whether a closing was
pub record KeptConn : Type 0 where
  pub session : Session
  pub up : List Sent
  pub down : List Down
  pub sent : ℕ
  pub nops : ℕ
  pub closed : Bool

abbrev pub held_conn : conn.Inside → KeptConn
held_conn c = record { session = c.session; up = c.up.items; down = c.down.items; sent = c.sent; nops = c.nops; closed = c.closed }

-- ---- its steps

-- a new connection, whose client has this revision
abbrev pub kept_new : Session → ℕ → KeptConn
kept_new s r = record { session = s; up = []; down = []; sent = r; nops = 0; closed = false }

-- a message enters the queue up
abbrev pub kept_sends : Sent → KeptConn → KeptConn
kept_sends x c = record c { up = c.up ++ x ∷ [] }

-- the next revision enters the queue down
abbrev pub kept_tells : Rev → KeptConn → KeptConn
kept_tells v c = record c { down = c.down ++ down.Revision v ∷ []; sent = suc c.sent }

-- that its submission became nothing does
abbrev pub kept_tells_spent : KeptConn → KeptConn
kept_tells_spent c = record c { down = c.down ++ down.Spent c.sent ∷ []; nops = suc c.nops }

-- the closing does, once
abbrev pub kept_closing : Ended → KeptConn → KeptConn
kept_closing word c = if c.closed then c else record c { down = c.down ++ down.Closing word ∷ []; closed = true }

abbrev pub kept_closing_if : Option Ended → KeptConn → KeptConn
kept_closing_if None c = c
kept_closing_if (Some word) c = kept_closing word c

-- another queue
abbrev pub kept_up : KeptConn → List Sent → KeptConn
kept_up c up = record c { up = up }

abbrev pub kept_down : KeptConn → List Down → KeptConn
kept_down c down = record c { down = down }

-- the first of the queue up is taken, where there is one
abbrev pub TakesUp : KeptConn → Option Sent → KeptConn → Type 0
TakesUp c None d = (c.up ≡ []) × (d ≡ c)
TakesUp c (Some x) d = (c.up ≡ x ∷ d.up) × (d ≡ kept_up c d.up)

-- so is that of the queue down
abbrev pub TakesDown : KeptConn → Option Down → KeptConn → Type 0
TakesDown c None d = (c.down ≡ []) × (d ≡ c)
TakesDown c (Some x) d = (c.down ≡ x ∷ d.down) × (d ≡ kept_down c d.down)

-- both queues are gone
abbrev pub kept_cut : KeptConn → KeptConn
kept_cut c = record c { up = []; down = [] }
