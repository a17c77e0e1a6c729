-- The steps of a connection, and of the connection for which it stands.
use Rattle.std.proofs.Common.{◌≡◌, suc, Bool, true, false, List, [], ◌∷◌, ◌++◌, Some, None, if◌then◌else◌, refl, sym, ap, ◌∙◌}
use Rattle.std.specs.Prelude.{map}
use Rattle.std.proofs.lemmas.List.{map-append}
use Rattle.ep_history.specs.declared.rev.Rev.{Rev}
use Rattle.ep_schedule.specs.World.{Conn, Down as ADown, Message, Word, closing, sending, spending, with_down, with_up}
use Rattle.ep_schedule.specs.World.Down.{Revision, Spent, Closing}
use Rattle.ep_members.specs.declared.message.Sent.{Sent}
use Rattle.ep_members.specs.declared.message.Down.{Down}
use Rattle.ep_members.specs.declared.message.Down.TheVariants as down
use Rattle.ep_members.specs.Conns.{KeptConn, TakesDown, TakesUp, kept_closing, kept_down, kept_sends, kept_tells, kept_tells_spent, kept_up}
use Rattle.ep_world.specs.Conns.{conn_of, down_of, sent_of, word_of}

pub conn-closing : (word : Word) (c : Conn) → conn_of (closing word c) ≡ kept_closing (word_of word) (conn_of c)
conn-closing word c = go c.closed refl
  where
    more : Conn
    more = record c { down = c.down ++ Closing word ∷ []; closed = true }

    kept : KeptConn
    kept = record (conn_of c) { down = map down_of c.down ++ down.Closing (word_of word) ∷ []; closed = true }

    go : (b : Bool) → c.closed ≡ b → conn_of (closing word c) ≡ kept_closing (word_of word) (conn_of c)
    go true e = ap (λ t. conn_of (if t then c else more)) e ∙ sym (ap (λ t. if t then conn_of c else kept) e)
    go false e =
        ap (λ t. conn_of (if t then c else more)) e
        ∙ ap (λ ds. record (conn_of c) { down = ds; closed = true }) (map-append down_of c.down (Closing word ∷ []))
        ∙ sym (ap (λ t. if t then conn_of c else kept) e)

pub conn-sends : (c : Conn) (msg : Message) → conn_of (with_up c (c.up ++ msg ∷ [])) ≡ kept_sends (sent_of msg) (conn_of c)
conn-sends c msg = ap (λ us. record (conn_of c) { up = us }) (map-append sent_of c.up (msg ∷ []))

pub conn-tells : (c : Conn) (v : Rev) → conn_of (sending c v) ≡ kept_tells v (conn_of c)
conn-tells c v = ap (λ ds. record (conn_of c) { down = ds; sent = suc c.sent }) (map-append down_of c.down (Revision v ∷ []))

pub conn-spends : (c : Conn) → conn_of (spending c) ≡ kept_tells_spent (conn_of c)
conn-spends c = ap (λ ds. record (conn_of c) { down = ds; nops = suc c.nops }) (map-append down_of c.down (Spent c.sent ∷ []))

-- the first message that is taken is the first of the connection for which it stands
pub record TakesMessage (c : Conn) (x : Sent) (new : KeptConn) : Type 0 where
  pub msg : Message
  pub rest : List Message
  pub up : c.up ≡ msg ∷ rest
  pub sent : x ≡ sent_of msg
  pub after : new ≡ conn_of (with_up c rest)

pub takes-message : (c : Conn) (x : Sent) (new : KeptConn) → TakesUp (conn_of c) (Some x) new → TakesMessage c x new
takes-message c x new t = go c.up refl
  where
    go : (us : List Message) → c.up ≡ us → TakesMessage c x new
    go [] e = absurd (nothing (sym (ap (map sent_of) e) ∙ t.0))
      where
        nothing : [] ≡ x ∷ new.up → ⊥
        nothing h = cc
    go (msg ∷ rest) e =
        let h = sym (ap (map sent_of) e) ∙ t.0 in
        record { msg = msg; rest = rest; up = e; sent = first h; after = t.1 ∙ ap (kept_up (conn_of c)) (sym (others h)) }
      where
        first : sent_of msg ∷ map sent_of rest ≡ x ∷ new.up → x ≡ sent_of msg
        first h = cc

        others : sent_of msg ∷ map sent_of rest ≡ x ∷ new.up → map sent_of rest ≡ new.up
        others h = cc

pub takes-none : (c : Conn) (new : KeptConn) → TakesUp (conn_of c) None new → (c.up ≡ []) × (new ≡ conn_of c)
takes-none c new t = (go c.up refl, t.1)
  where
    go : (us : List Message) → c.up ≡ us → c.up ≡ []
    go [] e = e
    go (msg ∷ rest) e = absurd (nothing (sym (ap (map sent_of) e) ∙ t.0))
      where
        nothing : sent_of msg ∷ map sent_of rest ≡ [] → ⊥
        nothing h = cc

-- so is the first that is heard
pub record TakesTelling (c : Conn) (x : Down) (new : KeptConn) : Type 0 where
  pub first : ADown
  pub rest : List ADown
  pub down : c.down ≡ first ∷ rest
  pub is : x ≡ down_of first
  pub after : new ≡ conn_of (with_down c rest)

pub takes-telling : (c : Conn) (x : Down) (new : KeptConn) → TakesDown (conn_of c) (Some x) new → TakesTelling c x new
takes-telling c x new t = go c.down refl
  where
    go : (ds : List ADown) → c.down ≡ ds → TakesTelling c x new
    go [] e = absurd (nothing (sym (ap (map down_of) e) ∙ t.0))
      where
        nothing : [] ≡ x ∷ new.down → ⊥
        nothing h = cc
    go (d ∷ rest) e =
        let h = sym (ap (map down_of) e) ∙ t.0 in
        record { first = d; rest = rest; down = e; is = heard h; after = t.1 ∙ ap (kept_down (conn_of c)) (sym (others h)) }
      where
        heard : down_of d ∷ map down_of rest ≡ x ∷ new.down → x ≡ down_of d
        heard h = cc

        others : down_of d ∷ map down_of rest ≡ x ∷ new.down → map down_of rest ≡ new.down
        others h = cc

pub hears-none : (c : Conn) (new : KeptConn) → TakesDown (conn_of c) None new → (c.down ≡ []) × (new ≡ conn_of c)
hears-none c new t = (go c.down refl, t.1)
  where
    go : (ds : List ADown) → c.down ≡ ds → c.down ≡ []
    go [] e = e
    go (d ∷ rest) e = absurd (nothing (sym (ap (map down_of) e) ∙ t.0))
      where
        nothing : down_of d ∷ map down_of rest ≡ [] → ⊥
        nothing h = cc
