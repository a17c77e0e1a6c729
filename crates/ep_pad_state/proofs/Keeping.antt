-- What a pad in memory keeps after each change.
use Rattle.std.proofs.Common.{◌≡◌, ℕ, ◌+◌, ◌≤◌, true, false, List, [], ◌∷◌, ◌++◌, length, refl, sym, ap, ◌∙◌, subst, arith}
use Rattle.ep_units.specs.declared.session.Session.{Session}
use Rattle.ep_history.specs.declared.rev.Rev.{Rev}
use Rattle.ep_history.specs.declared.nop.Nop.{Nop}
use Rattle.ep_history.specs.declared.seat.Seat.{Seat}
use Rattle.ep_history.specs.History.{Birth, head, head_doc}
use Rattle.ep_history.specs.Pad.{PadState, newest, with_revs, with_nops, delete, set_public, reopened}
use Rattle.ep_history.proofs.Births.{revs-count, nops-count}
use Rattle.ep_revs.specs.Revisions.{last_doc}
use Rattle.ep_seats.specs.Kept.{KeptSeats, StandsFor}
use Rattle.ep_pad_state.specs.declared.birth.Birth.{Birth as Kept}
use Rattle.ep_pad_state.specs.declared.pad.Last.{Last}
use Rattle.ep_pad_state.specs.declared.pad.Last.TheVariants.{There, Gone}
use Rattle.ep_pad_state.specs.declared.pad.Pad.{Pad}
use Rattle.ep_pad_state.specs.Nops.{heads_of, heads_in, SameHeads, StandFor}
use Rattle.ep_pad_state.specs.Held.{HasRevs, IsBirth, IsLast, IsPad, Keeps}
use Rattle.ep_pad_state.specs.Making.{birth_of, with_birth}
use Rattle.ep_pad_state.proofs.Noting.{heads_in-append, unchanged}
use Rattle.ep_pad_state.proofs.Pads.{newest-revs, newest-nops, newest-born, count-born, last-of}

-- ---- what is known of the last birth

pub present-of : (k : Pad) (b : Kept) (p : PadState) → Keeps k p → k.last ≡ There b → p.present ≡ true
present-of k b p h l = let t = subst (λ x. IsLast x p) l h.last in t.0

pub birth-of : (k : Pad) (b : Kept) (p : PadState) → Keeps k p → k.last ≡ There b → IsBirth b (newest p)
birth-of k b p h l = let t = subst (λ x. IsLast x p) l h.last in t.1

pub absent-of : (k : Pad) (n : ℕ) (p : PadState) → Keeps k p → k.last ≡ Gone n → p.present ≡ false
absent-of k n p h l = let t = subst (λ x. IsLast x p) l h.last in t.0

pub head-doc-of : (b : Kept) (c : Birth) → HasRevs b c → last_doc b.revs.revs ≡ head_doc c
head-doc-of b c h = ap last_doc h ∙ last-of c

pub head-of : (b : Kept) (c : Birth) (n : ℕ) → HasRevs b c → length b.revs.revs ≡ n + 1 → n ≡ head c
head-of b c n h e = let l = ap (λ (vs : List Rev). length vs) h in omega (arith, l, e)

-- ---- changes

pub keeps-revs : (k : Pad) (p : PadState) (b c : Kept) (vs : List Rev) → Keeps k p → 1 ≤ length p.births → k.last ≡ There b
    → c.revs.revs ≡ b.revs.revs ++ vs → c.nops ≡ b.nops → Keeps (record k { last = There c }) (with_revs p vs)
keeps-revs k p b c vs h n l er en =
    let old = birth-of k b p h l in
    let new : IsBirth c (record { first = (newest p).first; later = (newest p).later ++ vs; nops = (newest p).nops }) =
    record { revs = er ∙ ap (λ ws. ws ++ vs) old.revs; nops = λ s. unchanged b.nops c.nops en s ∙ old.nops s } in
    record {
      limits = h.limits;
      seats = record { epoch = h.seats.epoch; sessions = h.seats.sessions };
      births = revs-count p vs ∙ h.births;
      public = h.public;
      last = (present-of k b p h l, subst (λ x. IsBirth c x) (sym (newest-revs p vs n)) new);
    }

pub keeps-nops : (k : Pad) (p : PadState) (b c : Kept) (xs : List Nop) → Keeps k p → 1 ≤ length p.births → k.last ≡ There b
    → c.revs.revs ≡ b.revs.revs → ((s : Session) → heads_of s c.nops ≡ heads_of s b.nops ++ heads_in s xs) → Keeps (record k { last = There c }) (with_nops p xs)
keeps-nops k p b c xs h n l er en =
    let old = birth-of k b p h l in
    let new : IsBirth c (record { first = (newest p).first; later = (newest p).later; nops = (newest p).nops ++ xs }) =
    record { revs = er ∙ old.revs; nops = λ s. en s ∙ ap (λ hs. hs ++ heads_in s xs) (old.nops s) ∙ sym (heads_in-append s (newest p).nops xs) } in
    record {
      limits = h.limits;
      seats = record { epoch = h.seats.epoch; sessions = h.seats.sessions };
      births = nops-count p xs ∙ h.births;
      public = h.public;
      last = (present-of k b p h l, subst (λ x. IsBirth c x) (sym (newest-nops p xs n)) new);
    }

first-later : (vs : List Rev) → 1 ≤ length vs → vs ≡ (birth_of vs).first ∷ (birth_of vs).later
first-later [] h = absurd (omega (arith, h))
first-later (v ∷ vs) h = refl

no-nops : (vs : List Rev) → 1 ≤ length vs → (birth_of vs).nops ≡ []
no-nops [] h = absurd (omega (arith, h))
no-nops (v ∷ vs) h = refl

pub keeps-born : (k : Pad) (p : PadState) (c : Kept) → Keeps k p → 1 ≤ length c.revs.revs → StandFor c.nops []
    → Keeps (record k { births = k.births + 1; last = There c; public = false }) (with_birth p c.revs.revs)
keeps-born k p c h s e =
    let vs = c.revs.revs in
    let n = count-born p.births (birth_of vs) in
    let m = h.births in
    let new : IsBirth c (birth_of vs) = record { revs = first-later vs s; nops = λ t. e t ∙ ap (heads_in t) (sym (no-nops vs s)) } in
    record {
      limits = h.limits;
      seats = record { epoch = h.seats.epoch; sessions = h.seats.sessions };
      births = omega (arith, n, m);
      public = refl;
      last = (refl, subst (λ x. IsBirth c x) (sym (newest-born p.births (birth_of vs))) new);
    }

pub keeps-gone : (k : Pad) (p : PadState) (n : ℕ) (s : KeptSeats) → Keeps k p → n ≡ head (newest p) → StandsFor s (delete p)
    → Keeps (record k { last = Gone n; seats = s }) (delete p)
keeps-gone k p n s h e st = record { limits = h.limits; seats = st; births = h.births; public = h.public; last = (refl, sym e) }

pub keeps-public : (k : Pad) (p : PadState) (on : _) → Keeps k p → Keeps (record k { public = on }) (set_public p on)
keeps-public k p on h = record {
  limits = h.limits;
  seats = record { epoch = h.seats.epoch; sessions = h.seats.sessions };
  births = h.births;
  public = refl;
  last = go k.last h.last;
}
  where
    go : (l : Last) → IsLast l p → IsLast l (set_public p on)
    go (There b) t = t
    go (Gone n) t = t

pub keeps-opened : (k : Pad) (p : PadState) (s : KeptSeats) → Keeps k p → StandsFor s (reopened p) → Keeps (record k { seats = s }) (reopened p)
keeps-opened k p s h st = record { limits = h.limits; seats = st; births = h.births; public = h.public; last = go k.last h.last }
  where
    go : (l : Last) → IsLast l p → IsLast l (reopened p)
    go (There b) t = t
    go (Gone n) t = t

-- only the sessions change
pub keeps-seats : (k : Pad) (p : PadState) (s : KeptSeats) (ls : List Seat) → Keeps k p → StandsFor s (record p { sessions = ls })
    → Keeps (record k { seats = s }) (record p { sessions = ls })
keeps-seats k p s ls h st = record { limits = h.limits; seats = st; births = h.births; public = h.public; last = go k.last h.last }
  where
    go : (l : Last) → IsLast l p → IsLast l (record p { sessions = ls })
    go (There b) t = t
    go (Gone n) t = t

-- ---- room

pub same-birth : (k : Pad) (p : PadState) (b c : Kept) → Keeps k p → k.last ≡ There b → c.revs.revs ≡ b.revs.revs → SameHeads b.nops c.nops
    → Keeps (record k { last = There c }) p
same-birth k p b c h l er en =
    let old = birth-of k b p h l in
    record {
      limits = h.limits;
      seats = h.seats;
      births = h.births;
      public = h.public;
      last = (present-of k b p h l, record { revs = er ∙ old.revs; nops = λ s. en s ∙ old.nops s });
    }

-- room was made for a step's revisions
pub same-pad : (k : Pad) (p : PadState) (b c : Kept) → IsPad k p → k.last ≡ There b → c.revs.revs ≡ b.revs.revs → c.nops ≡ b.nops → IsPad (record k { last = There c }) p
same-pad k p b c h l er en = record { keeps = same-birth k p b c h.keeps l er (unchanged b.nops c.nops en); sound = h.sound }

pub roomier : (s t : KeptSeats) (p : PadState) → t ≡ record s { room = t.room } → StandsFor s p → StandsFor t p
roomier s t p e h = subst (λ u. StandsFor u p) (sym e) (record { epoch = h.epoch; sessions = h.sessions })

pub same-seats : (k : Pad) (p : PadState) (t : KeptSeats) → Keeps k p → t ≡ record k.seats { room = t.room } → Keeps (record k { seats = t }) p
same-seats k p t h e = record { limits = h.limits; seats = roomier k.seats t p e h.seats; births = h.births; public = h.public; last = h.last }
