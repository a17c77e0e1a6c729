-- What holds of every world: the record of invariants, and what another's step leaves of it.
use Rattle.std.proofs.Common.{◌≡◌, ℕ, suc, ◌<◌, ◌≤◌, Bool, true, false, if◌then◌else◌, List, [], ◌∷◌, ◌⊎◌, inl, inr, length, take, drop, Option, Some, None, refl, sym, ap, ◌∙◌, subst, arith, zero, ◌+◌, ◌&&◌, ◌==◌, ◌++◌, T}
use Rattle.std.proofs.lemmas.List.{append-nil, length-append, take-append-le}
use Rattle.ep_history.specs.Client.{submission}
use Rattle.ep_history.specs.History.{Birth, doc_at, head, head_doc, is_session, lacks_newline, newline_rev, nobody, nops_of, rebase, rev_by}
use Rattle.ep_history.specs.Lists.{Among, at, numbered}
use Rattle.ep_history.specs.Pad.{PadState, birth_at, seat_of}
use Rattle.ep_schedule.specs.Headline.{AreMarked, AreApart, AreNewlines, IsByMaker, IsRebased, brought}
use Rattle.ep_schedule.proofs.Marks.{AreKnown, AreDistinct}
use Rattle.ep_schedule.specs.World.{Actor, Conn, Down, Member, Message, Name, Taken, WorldState, author_of, put, with_actor}
use Rattle.ep_schedule.specs.World.Actor.{Guest, Named, Nobody}
use Rattle.ep_schedule.specs.World.Down.{Closing, Revision, Spent}
use Rattle.ep_history.proofs.Lists.{some_same, at-below, at-left, at-grown}
use Rattle.ep_history.proofs.Client.{IsSound}
use Rattle.ep_history.proofs.Births.{decide-name, IsTrueChange, IsGoodBirth, longer, longer-doc, longer-rebase, longer-sound, longer-submission, noting, sound-noting}
use Rattle.ep_units.specs.declared.session.Session.{Session}
use Rattle.ep_units.specs.Text.{Text}
use Rattle.ep_units.specs.Text.{text_eq}
use Rattle.ep_history.specs.declared.rev.Rev.{Rev}
use Rattle.ep_history.specs.declared.seat.Seat.{Seat}
use Rattle.ep_history.specs.declared.submission.Submission.{Submission}
use Rattle.ep_history.specs.declared.nop.Nop.{Nop}
use Rattle.ep_cs.specs.Doc.{Doc}
use Rattle.ep_cs.specs.Edit.{identity}
use Rattle.ep_cs.specs.Fits.{is_identity}
use Rattle.std.proofs.lemmas.Bool.Decides.{nat_tests}
use Rattle.ep_history.specs.declared.nop.Nop.{Nop}
use Rattle.ep_cs.specs.Doc.{Doc}
use Rattle.ep_cs.specs.Edit.{identity}
use Rattle.ep_cs.specs.Fits.{is_identity}
use Rattle.std.proofs.lemmas.Bool.Decides.{nat_tests}

-- ---- the invariants

-- a session that was once made
pub record IsKnown (pad : PadState) (s : Session) : Type 0 where
  pub made : 1 ≤ s.epoch
  pub past : s.epoch ≤ pad.epoch
  pub count : s.epoch ≡ pad.epoch → s.count ≤ length pad.sessions

-- where it is of this opening, it is this name's
abbrev pub Mine : PadState → Name → Session → Type 0
Mine pad k s = (l : Seat) → seat_of pad s ≡ Some l → l.author ≡ author_of k

-- what stands in the queue down of a connected client: these revisions, and then a closing if it had one
abbrev pub Goes : Bool → List Rev → List Down → Type 0
Goes closed [] (Spent r ∷ ds) = ⊥
Goes closed (v ∷ vs) (Spent r ∷ ds) = ⊥
Goes closed [] [] = Unit {0}
Goes closed [] (Closing word ∷ []) = closed ≡ true
Goes closed [] (Closing word ∷ (d ∷ ds)) = ⊥
Goes closed [] (Revision v ∷ ds) = ⊥
Goes closed (v ∷ vs) [] = ⊥
Goes closed (v ∷ vs) (Closing word ∷ ds) = ⊥
Goes closed (v ∷ vs) (Revision u ∷ ds) = (v ≡ u) × Goes closed vs ds

-- behind so many of these revisions it is told that its edit became nothing at revision h
abbrev pub GoesSpent : Bool → ℕ → ℕ → List Rev → List Down → Type 0
GoesSpent closed h d vs [] = ⊥
GoesSpent closed h d vs (Closing word ∷ ds) = ⊥
GoesSpent closed h zero vs (Spent r ∷ ds) = (r ≡ h) × Goes closed vs ds
GoesSpent closed h (suc d) vs (Spent r ∷ ds) = ⊥
GoesSpent closed h zero vs (Revision u ∷ ds) = ⊥
GoesSpent closed h (suc d) [] (Revision u ∷ ds) = ⊥
GoesSpent closed h (suc d) (v ∷ vs) (Revision u ∷ ds) = (v ≡ u) × GoesSpent closed h d vs ds

-- no revision stands in the queue
abbrev pub AreClosings : List Down → Type 0
AreClosings [] = Unit {0}
AreClosings (Revision v ∷ ds) = ⊥
AreClosings (Spent r ∷ ds) = ⊥
AreClosings (Closing word ∷ ds) = AreClosings ds

-- the mark of a take of its submission on this head
abbrev pub as_taken : Name → Member → ℕ → Submission → ℕ → Taken
as_taken k m i s now = record {
  number = m.number;
  birth = m.birth;
  head = i;
  base = s.base;
  change = s.change;
  by = record { author = author_of k; session = s.session; time = now };
  nop = None;
}

-- its submission was taken on this head
abbrev pub IsCarried : List Taken → Name → Member → ℕ → Submission → Type 0
IsCarried taken k m i s = (now : ℕ) × Among (as_taken k m i s now) taken

abbrev pub as_message : Member → Submission → Message
as_message m s = record { number = m.number; base = s.base; change = s.change; unread = None }

-- no take of this number is known
abbrev pub IsUntaken : List Taken → ℕ → Type 0
IsUntaken taken number = (t : Taken) → Among t taken → t.number ≡ number → ⊥

-- what was taken became nothing
abbrev pub IsNop : Taken → Type 0
IsNop t = (i : ℕ) × (t.nop ≡ Some i)

-- its submission, sent in this session, became nothing, and it was not told
abbrev pub IsPending : List Taken → Member → Type 0
IsPending taken m = (s : Submission) × (m.client.sent ≡ Some s) × (s.session ≡ m.client.session) × (m.conn.up ≡ []) × ((t : Taken) × Among t taken × (t.number ≡ m.number) × IsNop t)

abbrev pub Ahead : Birth → Member → List Rev
Ahead b m = drop m.client.rev (take m.conn.sent b.later)

abbrev pub own_nops : Birth → Member → List Nop
own_nops b m = nops_of m.client.session b.nops

-- the queue down: nothing that became nothing is to be told, or one that is not in the queue yet, or one that is
abbrev pub Turn : Birth → List Taken → Member → Type 0
Turn b taken m =
    ((m.conn.nops ≡ length (own_nops b m)) × Goes m.conn.closed (Ahead b m) m.conn.down)
    ⊎ (((suc m.conn.nops ≡ length (own_nops b m)) × Goes m.conn.closed (Ahead b m) m.conn.down × ((p : IsPending taken m) × (x : Nop) × (at (own_nops b m) m.conn.nops ≡ Some x) × (m.conn.sent ≤ x.rev) × (p.4.0.head ≡ x.rev)))
    ⊎ ((m.conn.nops ≡ length (own_nops b m)) × ((p : IsPending taken m) × (d : ℕ) × GoesSpent m.conn.closed p.4.0.head d (Ahead b m) m.conn.down × (m.client.rev + d ≡ p.4.0.head))))

-- the take of a submission: in the session in which it was sent, as it was sent, and before it was heard
abbrev pub IsOf : Member → Submission → Taken → Type 0
IsOf m s t =
    (t.birth ≡ m.birth) × (t.by.session ≡ s.session) × (t.change ≡ s.change) × (t.base ≡ s.base)
    × (t.nop ≡ None → m.client.rev ≤ t.head) × ((s.session ≡ m.client.session → ⊥) → t.head ≤ m.client.told)

-- a client of this name, whose birth is b
pub record IsGood (b : Birth) (pad : PadState) (taken : List Taken) (edits : List Name) (k : Name) (m : Member) : Type 0 where
  pub birth : m.birth ≤ length pad.births
  pub sound : IsSound b m.client
  pub told : m.client.told ≤ head b
  -- its session
  pub current : m.client.session ≡ m.conn.session
  pub known : IsKnown pad m.client.session
  pub mine : Mine pad k m.client.session
  pub writes : (l : Seat) → seat_of pad m.client.session ≡ Some l → l.read_only ≡ false
  pub newest : (l : Seat) → seat_of pad m.client.session ≡ Some l → l.end ≡ None → m.birth ≡ length pad.births
  -- its submission
  pub sent_known : (s : Submission) → m.client.sent ≡ Some s → IsKnown pad s.session
  pub sent_mine : (s : Submission) → m.client.sent ≡ Some s → Mine pad k s.session
  pub sent_fits : (s : Submission) → m.client.sent ≡ Some s → IsTrueChange s.change (doc_at b s.base)
  pub number : (s : Submission) → m.client.sent ≡ Some s → numbered edits m.number ≡ Some k
  -- a revision of its session that it has not heard is its submission's, sent in this session
  pub unheard : (i : ℕ) (v : Rev) → m.client.rev ≤ i → at b.later i ≡ Some v → v.session ≡ m.client.session → (s : Submission) × (m.client.sent ≡ Some s) × (s.session ≡ m.client.session)
  -- a revision of its submission's session that it has not heard carries its submission; was it sent in an older session, the told head is past it
  pub carried : (s : Submission) → m.client.sent ≡ Some s → (i : ℕ) (v : Rev) → m.client.rev ≤ i → at b.later i ≡ Some v → v.session ≡ s.session
      → (m.conn.up ≡ []) × IsCarried taken k m i s × ((s.session ≡ m.client.session → ⊥) → i < m.client.told)
  -- was its submission taken, then in the session in which it was sent, and it has not heard it
  pub taken_unheard : (s : Submission) → m.client.sent ≡ Some s → (t : Taken) → Among t taken → t.number ≡ m.number → IsOf m s t
  -- a submission of an older session that is still there once the told head was reached has not become nothing
  pub dropped : m.client.connected ≡ true → m.client.told ≤ m.client.rev → (s : Submission) → m.client.sent ≡ Some s → (s.session ≡ m.client.session → ⊥) → is_identity (submission b m.client) ≡ false
  -- its queue up has its submission, not taken yet, or nothing
  pub up : (m.conn.up ≡ []) ⊎ ((s : Submission) × (m.client.sent ≡ Some s) × (s.session ≡ m.client.session) × (m.conn.up ≡ as_message m s ∷ []) × IsUntaken taken m.number)
  -- its queue down has the revisions past its own up to the last one sent
  pub sent_rev : m.client.connected ≡ true → (m.client.rev ≤ m.conn.sent) × (m.conn.sent ≤ head b)
  pub down : m.client.connected ≡ true → Turn b taken m
  pub lost : m.client.connected ≡ false → AreClosings m.conn.down
  -- the earlier connection's session is another, of its own
  pub earlier_known : (e : Conn) → m.earlier ≡ Some e → IsKnown pad e.session
  pub earlier_mine : (e : Conn) → m.earlier ≡ Some e → Mine pad k e.session
  pub earlier_other : (e : Conn) → m.earlier ≡ Some e → e.session ≡ m.client.session → ⊥

-- the messages of a guest: their numbers are its own, differ, and were not taken
abbrev pub AreFresh : List Taken → List Name → Name → List Message → Type 0
AreFresh taken edits k [] = Unit {0}
AreFresh taken edits k (msg ∷ up) = (numbered edits msg.number ≡ Some k) × IsUntaken taken msg.number × ((other : Message) → Among other up → other.number ≡ msg.number → ⊥) × AreFresh taken edits k up

pub record IsGoodGuest (pad : PadState) (taken : List Taken) (edits : List Name) (k : Name) (c : Conn) : Type 0 where
  pub known : IsKnown pad c.session
  pub mine : Mine pad k c.session
  pub up : AreFresh taken edits k c.up

abbrev pub IsGoodActor : PadState → List Taken → List Name → Name → Actor → Type 0
IsGoodActor pad taken edits k Nobody = Unit {0}
IsGoodActor pad taken edits k (Guest c) = IsGoodGuest pad taken edits k c
IsGoodActor pad taken edits k (Named m) = IsGood (birth_at pad m.birth) pad taken edits k m

abbrev pub session_of : Actor → Option Session
session_of Nobody = None
session_of (Guest c) = Some c.session
session_of (Named m) = Some m.conn.session

pub record IsGoodPad (pad : PadState) : Type 0 where
  pub epoch : 1 ≤ pad.epoch
  pub births : (k : ℕ) → IsGoodBirth (birth_at pad k)
  pub present : pad.present ≡ true → 1 ≤ length pad.births
  pub live : (s : Session) (l : Seat) → seat_of pad s ≡ Some l → l.end ≡ None → pad.present ≡ true
  -- each revision is of a session that was made, or by nobody
  pub made : (k i : ℕ) (v : Rev) → at (birth_at pad k).later i ≡ Some v → (v.session ≡ nobody) ⊎ IsKnown pad v.session
  -- each edit that became nothing is of a session that was made
  pub noted : (k : ℕ) (x : Nop) → Among x (birth_at pad k).nops → IsKnown pad x.session
  -- each head ends in a newline, and no other revision is like the newline's
  pub line : (k : ℕ) → lacks_newline (head_doc (birth_at pad k)) ≡ false
  pub newlines : AreNewlines pad

-- a session of a name's author, which is the session of its connection
abbrev pub IsHeld : (Name → Actor) → Session → Seat → Type 0
IsHeld actors s l = (k : Name) × (l.author ≡ author_of k) × (session_of (actors k) ≡ Some s)

pub record IsGoodWorld (w : WorldState) : Type 0 where
  pub pad : IsGoodPad w.pad
  pub actors : (k : Name) → IsGoodActor w.pad w.taken w.edits k (w.actors k)
  -- a live session is of a name's connection
  pub live : (s : Session) (l : Seat) → seat_of w.pad s ≡ Some l → l.end ≡ None → IsHeld w.actors s l
  pub once : AreDistinct w.taken
  pub apart : AreApart w.taken
  pub marked : AreMarked w.pad w.taken
  pub rebased : (t : Taken) → Among t w.taken → IsRebased w.pad t
  pub births : (t : Taken) → Among t w.taken → t.birth ≤ length w.pad.births
  pub numbers : (t : Taken) → Among t w.taken → IsByMaker w.edits t
  pub known : AreKnown w.known w.taken

-- ---- what a step of one name leaves of another's

-- a session that makes a revision in a step of n
abbrev pub IsActing : PadState → Name → Session → Type 0
IsActing pad n s = (s ≡ nobody) ⊎ ((l : Seat) × (seat_of pad s ≡ Some l) × (l.end ≡ None) × (l.author ≡ author_of n))

pub record Grew (pad pad' : PadState) (n : Name) (k : ℕ) : Type 0 where
  pub more : List Rev
  pub notes : List Nop
  pub is : birth_at pad' k ≡ noting (longer (birth_at pad k) more) notes
  pub by : (v : Rev) → Among v more → IsActing pad n v.session
  pub noted_by : (x : Nop) → Among x notes → IsActing pad n x.session

-- the seat that an old session now has is the one that it had, ended or not
pub record WasSeat (pad : PadState) (s : Session) (new : Seat) : Type 0 where
  pub old : Seat
  pub found : seat_of pad s ≡ Some old
  pub author : old.author ≡ new.author
  pub read_only : old.read_only ≡ new.read_only
  pub end : new.end ≡ None → old.end ≡ None

pub record Leaves (pad : PadState) (taken : List Taken) (edits : List Name) (pad' : PadState) (taken' : List Taken) (edits' : List Name) (n : Name) : Type 0 where
  pub grew : (k : ℕ) → k ≤ length pad.births → Grew pad pad' n k
  pub count : length pad.births ≤ length pad'.births
  pub newest : (s : Session) (l : Seat) → seat_of pad' s ≡ Some l → l.end ≡ None → IsKnown pad s → length pad'.births ≡ length pad.births
  pub seats : (s : Session) (l : Seat) → IsKnown pad s → seat_of pad' s ≡ Some l → WasSeat pad s l
  pub known : (s : Session) → IsKnown pad s → IsKnown pad' s
  pub owned : (i : ℕ) (k : Name) → numbered edits i ≡ Some k → numbered edits' i ≡ Some k
  pub new_taken : (t : Taken) → Among t taken' → Among t taken ⊎ (numbered edits' t.number ≡ Some n)
  pub old_taken : (t : Taken) → Among t taken → Among t taken'

-- names with one author are one
pub same-author : {k n : Name} → author_of k ≡ author_of n → k ≡ n
same-author e = ap (λ (t : Text). drop 2 t) e

-- a turn stays where the revisions ahead and the nops of the session do
pub turn-still : (b b' : Birth) (taken taken' : List Taken) (m : Member) → ((t : Taken) → Among t taken → Among t taken') → own_nops b' m ≡ own_nops b m → Ahead b' m ≡ Ahead b m → Turn b taken m → Turn b' taken' m
turn-still b b' taken taken' m old ns vs (inl q) = inl (q.0 ∙ ap (λ (l : List Nop). length l) (sym ns), subst (λ us. Goes m.conn.closed us m.conn.down) (sym vs) q.1)
turn-still b b' taken taken' m old ns vs (inr (inl q)) =
    let p = q.2.0 in
    inr (inl (
      q.0 ∙ ap (λ (l : List Nop). length l) (sym ns),
      subst (λ us. Goes m.conn.closed us m.conn.down) (sym vs) q.1,
      ((p.0, p.1, p.2, p.3, (p.4.0, old p.4.0 p.4.1, p.4.2, p.4.3)), q.2.1, ap (λ l. at l m.conn.nops) ns ∙ q.2.2, q.2.3, q.2.4),
    ))
turn-still b b' taken taken' m old ns vs (inr (inr q)) =
    let p = q.1.0 in
    inr (inr (
      q.0 ∙ ap (λ (l : List Nop). length l) (sym ns),
      ((p.0, p.1, p.2, p.3, (p.4.0, old p.4.0 p.4.1, p.4.2, p.4.3)), q.1.1, subst (λ us. GoesSpent m.conn.closed q.1.0.4.0.head q.1.1 us m.conn.down) (sym vs) q.1.2, q.1.3),
    ))

equal_number : (a b : ℕ) → (a == b) ≡ true → a ≡ b
equal_number a b e = grind (arith, nat_tests)

pub same_session : (s t : Session) → is_session s t ≡ true → s ≡ t
same_session s t e = go (equal_number s.epoch t.epoch (first _ _ e)) (equal_number s.count t.count (second (s.epoch == t.epoch) _ e))
  where
    first : (a b : Bool) → (a && b) ≡ true → a ≡ true
    first true b e = refl
    first false b e = e

    second : (a b : Bool) → (a && b) ≡ true → b ≡ true
    second true b e = e
    second false b e = absurd (subst T (sym e) tt)

    go : s.epoch ≡ t.epoch → s.count ≡ t.count → s ≡ t
    go p q = λ i. record { epoch = p i; count = q i }

-- an acting session is no other's
pub not_acting : (pad : PadState) (n k : Name) (s t : Session) → (k ≡ n → ⊥) → IsKnown pad t → Mine pad k t → IsActing pad n s → s ≡ t → ⊥
not_acting pad n k s t ne g mine (inl z) e =
    let h : t.epoch ≡ 0 = ap (λ (u : Session). u.epoch) (sym e ∙ z) in
    let l = g.made in
    omega (arith, h, l)
not_acting pad n k s t ne g mine (inr z) e = ne (same-author (sym (mine z.0 (subst (λ u. seat_of pad u ≡ Some z.0) e z.1)) ∙ z.3))

still-mine : (pad pad' : PadState) (k : Name) (s : Session) → ((l : Seat) → seat_of pad' s ≡ Some l → WasSeat pad s l) → Mine pad k s → Mine pad' k s
still-mine pad pad' k s back mine l e = let o = back l e in sym o.author ∙ mine o.old o.found

module _ (pad : PadState) (taken : List Taken) (edits : List Name) (pad' : PadState) (taken' : List Taken) (edits' : List Name) (n k : Name)
    (f : Leaves pad taken edits pad' taken' edits' n) (ne : k ≡ n → ⊥) where
  untaken_still : (number : ℕ) → numbered edits number ≡ Some k → IsUntaken taken number → IsUntaken taken' number
  untaken_still number own u t among e = go (f.new_taken t among)
    where
      go : Among t taken ⊎ (numbered edits' t.number ≡ Some n) → ⊥
      go (inl old) = u t old e
      go (inr new) = ne (some_same (sym (f.owned number k own) ∙ ap (numbered edits') (sym e) ∙ new))

  nops-same : (b : Birth) (xs : List Nop) (s : Session) → IsKnown pad s → Mine pad k s → ((x : Nop) → Among x xs → IsActing pad n x.session) → nops_of s (b.nops ++ xs) ≡ nops_of s b.nops
  nops-same b xs s known mine by = go b.nops
    where
      none : (xs : List Nop) → ((x : Nop) → Among x xs → IsActing pad n x.session) → nops_of s xs ≡ []
      none [] by = refl
      none (x ∷ xs) by = ap (λ t. if t then x ∷ nops_of s xs else nops_of s xs) (other x (by x (inl refl))) ∙ none xs (λ y h. by y (inr h))
        where
          other : (x : Nop) → IsActing pad n x.session → is_session x.session s ≡ false
          other x act = case (is_session x.session s) refl
            where
              case : (t : Bool) → is_session x.session s ≡ t → is_session x.session s ≡ false
              case true e = absurd (not_acting pad n k x.session s ne known mine act (same_session x.session s e))
              case false e = e

      go : (ys : List Nop) → nops_of s (ys ++ xs) ≡ nops_of s ys
      go [] = none xs by
      go (y ∷ ys) = λ i. if is_session y.session s then y ∷ go ys i else go ys i

  pub keep-member : (b : Birth) (vs : List Rev) (xs : List Nop) (m : Member) → ((v : Rev) → Among v vs → IsActing pad n v.session) → ((x : Nop) → Among x xs → IsActing pad n x.session)
      → IsGood b pad taken edits k m → IsGood (noting (longer b vs) xs) pad' taken' edits' k m
  keep-member b vs xs m by noted_by g = record {
    birth = let l = g.birth in let h = f.count in omega (arith, l, h);
    sound = sound-noting (longer b vs) xs m.client (longer-sound b vs m.client g.sound);
    told = let l = g.told in let h = length-append b.later vs in omega (arith, l, h);
    current = g.current;
    known = f.known m.client.session g.known;
    mine = still-mine pad pad' k m.client.session (λ l e. f.seats m.client.session l g.known e) g.mine;
    writes = λ l e. let o = f.seats m.client.session l g.known e in sym o.read_only ∙ g.writes o.old o.found;
    newest = λ l e h. let o = f.seats m.client.session l g.known e in g.newest o.old o.found (o.end h) ∙ sym (f.newest m.client.session l e h g.known);
    sent_known = λ s e. f.known s.session (g.sent_known s e);
    sent_mine = λ s e. still-mine pad pad' k s.session (λ l h. f.seats s.session l (g.sent_known s e) h) (g.sent_mine s e);
    sent_fits = λ s e. subst (λ doc. IsTrueChange s.change doc) (sym (longer-doc b vs s.base (let l = g.sound.base s e in let h = g.sound.rev in omega (arith, l, h)))) (g.sent_fits s e);
    number = λ s e. f.owned m.number k (g.number s e);
    unheard = λ i v l e h. unheard i v l h (at-grown b.later vs i v e);
    carried = λ s e i v l a h. carried s e i v l h (at-grown b.later vs i v a);
    taken_unheard = λ s e t among h. taken_unheard s e t h (f.new_taken t among);
    up = up g.up;
    sent_rev = λ c. let h = length-append b.later vs in let p = g.sent_rev c in let l = p.1 in (p.0, omega (arith, l, h));
    dropped = λ c t s e o. ap is_identity (longer-submission b vs m.client g.sound.rev) ∙ g.dropped c t s e o;
    down = λ c. turn-still b (noting (longer b vs) xs) taken taken' m f.old_taken (nops-same b xs m.client.session g.known g.mine noted_by) (ap (drop m.client.rev) (take-append-le m.conn.sent b.later vs (g.sent_rev c).1)) (g.down c);
    lost = g.lost;
    earlier_known = λ e h. f.known e.session (g.earlier_known e h);
    earlier_mine = λ e h. still-mine pad pad' k e.session (λ l i. f.seats e.session l (g.earlier_known e h) i) (g.earlier_mine e h);
    earlier_other = g.earlier_other;
  }
    where
      unheard : (i : ℕ) (v : Rev) → m.client.rev ≤ i → v.session ≡ m.client.session → (at b.later i ≡ Some v) ⊎ ((length b.later ≤ i) × Among v vs) → (s : Submission) × (m.client.sent ≡ Some s) × (s.session ≡ m.client.session)
      unheard i v l h (inl old) = g.unheard i v l old h
      unheard i v l h (inr new) = absurd (not_acting pad n k v.session m.client.session ne g.known g.mine (by v new.1) h)

      carried : (s : Submission) → m.client.sent ≡ Some s → (i : ℕ) (v : Rev) → m.client.rev ≤ i → v.session ≡ s.session → (at b.later i ≡ Some v) ⊎ ((length b.later ≤ i) × Among v vs)
          → (m.conn.up ≡ []) × IsCarried taken' k m i s × ((s.session ≡ m.client.session → ⊥) → i < m.client.told)
      carried s e i v l h (inl old) = let r = g.carried s e i v l old h in (r.0, (r.1.0, f.old_taken (as_taken k m i s r.1.0) r.1.1), r.2)
      carried s e i v l h (inr new) = absurd (not_acting pad n k v.session s.session ne (g.sent_known s e) (g.sent_mine s e) (by v new.1) h)

      taken_unheard : (s : Submission) → m.client.sent ≡ Some s → (t : Taken) → t.number ≡ m.number → Among t taken ⊎ (numbered edits' t.number ≡ Some n) → IsOf m s t
      taken_unheard s e t h (inl old) = g.taken_unheard s e t old h
      taken_unheard s e t h (inr new) = absurd (ne (some_same (sym (f.owned m.number k (g.number s e)) ∙ ap (numbered edits') (sym h) ∙ new)))

      up : (m.conn.up ≡ []) ⊎ ((s : Submission) × (m.client.sent ≡ Some s) × (s.session ≡ m.client.session) × (m.conn.up ≡ as_message m s ∷ []) × IsUntaken taken m.number)
          → (m.conn.up ≡ []) ⊎ ((s : Submission) × (m.client.sent ≡ Some s) × (s.session ≡ m.client.session) × (m.conn.up ≡ as_message m s ∷ []) × IsUntaken taken' m.number)
      up (inl e) = inl e
      up (inr u) = inr (u.0, u.1, u.2, u.3, untaken_still m.number (g.number u.0 u.1) u.4)

  keep-fresh : (up : List Message) → AreFresh taken edits k up → AreFresh taken' edits' k up
  keep-fresh [] g = tt
  keep-fresh (msg ∷ up) g = (f.owned msg.number k g.0, untaken_still msg.number g.0 g.1, g.2, keep-fresh up g.3)

  pub keep-guest : (c : Conn) → IsGoodGuest pad taken edits k c → IsGoodGuest pad' taken' edits' k c
  keep-guest c g = record {
    known = f.known c.session g.known;
    mine = still-mine pad pad' k c.session (λ l e. f.seats c.session l g.known e) g.mine;
    up = keep-fresh c.up g.up;
  }

  pub keep-actor : (a : Actor) → IsGoodActor pad taken edits k a → IsGoodActor pad' taken' edits' k a
  keep-actor Nobody g = tt
  keep-actor (Guest c) g = keep-guest c g
  keep-actor (Named m) g =
      let r = f.grew m.birth g.birth in
      subst (λ b. IsGood b pad' taken' edits' k m) (sym r.is) (keep-member (birth_at pad m.birth) r.more r.notes m r.by r.noted_by g)

-- ---- a world put together

still-rebased : (pad pad' : PadState) (n : Name) (t : Taken) → Grew pad pad' n t.birth → IsRebased pad t → IsRebased pad' t
still-rebased pad pad' n t gr r =
    let b = birth_at pad t.birth in
    let l = r.there in
    let p : brought pad t ≡ brought pad' t = sym (ap (λ c. rebase c t.change.edit t.base t.head) gr.is ∙ longer-rebase b gr.more t.change.edit t.base t.head l) in
    let q : doc_at b t.head ≡ doc_at (birth_at pad' t.birth) t.head = sym (ap (λ c. doc_at c t.head) gr.is ∙ longer-doc b gr.more t.head l) in
    record {
      there = let n = length-append b.later gr.more in let m = ap (λ (c : Birth). length c.later) gr.is in omega (arith, l, n, m);
      nopped = r.nopped ∙ ap is_identity p;
      nothing = λ i o. sym p ∙ r.nothing i o ∙ ap (λ (x : Doc). identity (length x)) q;
      noted = λ i o. ap (λ (c : Birth). at c.nops i) gr.is ∙ at-left b.nops gr.notes i _ (r.noted i o);
      edit = λ o.
          ap (λ (c : Birth). at c.later t.head) gr.is
          ∙ at-left b.later gr.more t.head _ (r.edit o)
          ∙ (λ i. Some (rev_by t.by (p i) (q i)));
      base = r.base;
      newline = λ o n.
          let h = at-below b.later t.head _ (r.edit o) in
          let d = ap (λ c. doc_at c (suc t.head)) gr.is ∙ longer-doc b gr.more (suc t.head) h in
          ap (λ (c : Birth). at c.later (suc t.head)) gr.is
          ∙ at-left b.later gr.more (suc t.head) _ (r.newline o (ap lacks_newline (sym d) ∙ n))
          ∙ ap (λ x. Some (newline_rev t.by.time x)) (sym d);
    }

pub longer-nil : (b : Birth) → b ≡ noting (longer b []) []
longer-nil b = λ i. record { first = b.first; later = sym (append-nil b.later) i; nops = sym (append-nil b.nops) i }

pub leaves-same : (pad : PadState) (taken : List Taken) (edits : List Name) (n : Name) → Leaves pad taken edits pad taken edits n
leaves-same pad taken edits n = record {
  grew = λ k h. record { more = []; notes = []; is = longer-nil (birth_at pad k); by = λ v h. absurd h; noted_by = λ x h. absurd h };
  count = omega arith;
  newest = λ s l e h k. refl;
  seats = λ s l k e. record { old = l; found = e; author = refl; read_only = refl; end = λ h. h };
  known = λ s k. k;
  owned = λ i k e. e;
  new_taken = λ t h. inl h;
  old_taken = λ t h. h;
}

put-same : (actors : Name → Actor) (n : Name) (a : Actor) (k : Name) → text_eq k n ≡ true → put actors n a k ≡ a
put-same actors n a k e = ap (λ t. if t then a else actors k) e

put-other : (actors : Name → Actor) (n : Name) (a : Actor) (k : Name) → text_eq k n ≡ false → put actors n a k ≡ actors k
put-other actors n a k e = ap (λ t. if t then a else actors k) e

pub record NewParts (w : WorldState) (n : Name) (a : Actor) (pad : PadState) (taken : List Taken) (edits : List Name) (known : List ℕ) : Type 0 where
  pub leaves : Leaves w.pad w.taken w.edits pad taken edits n
  pub good_pad : IsGoodPad pad
  pub actor : IsGoodActor pad taken edits n a
  pub live : (s : Session) (l : Seat) → seat_of pad s ≡ Some l → l.end ≡ None → IsHeld (put w.actors n a) s l
  pub once : AreDistinct taken
  pub apart : AreApart taken
  pub marked : AreMarked pad taken
  pub new_rebased : (t : Taken) → Among t taken → Among t w.taken ⊎ (IsRebased pad t × (t.birth ≤ length pad.births) × IsByMaker edits t)
  pub all_known : AreKnown known taken

pub assembled : (w : WorldState) (n : Name) (a : Actor) (pad : PadState) (taken : List Taken) (edits : List Name) (known : List ℕ)
    → IsGoodWorld w → NewParts w n a pad taken edits known
    → IsGoodWorld (record { id = w.id; pad = pad; actors = put w.actors n a; edits = edits; taken = taken; known = known })
assembled w n a pad taken edits known g p = record {
  pad = p.good_pad;
  actors = λ k. actor k (decide-name k n);
  live = p.live;
  once = p.once;
  apart = p.apart;
  marked = p.marked;
  rebased = λ t h. rebased t (p.new_rebased t h);
  births = λ t h. births t (p.new_rebased t h);
  numbers = λ t h. numbers t (p.new_rebased t h);
  known = p.all_known;
}
  where
    actor : (k : Name) → ((text_eq k n ≡ true) × (k ≡ n)) ⊎ ((text_eq k n ≡ false) × (k ≡ n → ⊥)) → IsGoodActor pad taken edits k (put w.actors n a k)
    actor k (inl z) = subst (λ x. IsGoodActor pad taken edits k x) (sym (put-same w.actors n a k z.0)) (subst (λ j. IsGoodActor pad taken edits j a) (sym z.1) p.actor)
    actor k (inr z) = subst (λ x. IsGoodActor pad taken edits k x) (sym (put-other w.actors n a k z.0)) (keep-actor w.pad w.taken w.edits pad taken edits n k p.leaves z.1 (w.actors k) (g.actors k))

    rebased : (t : Taken) → Among t w.taken ⊎ (IsRebased pad t × (t.birth ≤ length pad.births) × IsByMaker edits t) → IsRebased pad t
    rebased t (inl h) = still-rebased w.pad pad n t (p.leaves.grew t.birth (g.births t h)) (g.rebased t h)
    rebased t (inr h) = h.0

    births : (t : Taken) → Among t w.taken ⊎ (IsRebased pad t × (t.birth ≤ length pad.births) × IsByMaker edits t) → t.birth ≤ length pad.births
    births t (inl h) = let l = g.births t h in let c = p.leaves.count in omega (arith, l, c)
    births t (inr h) = h.1

    numbers : (t : Taken) → Among t w.taken ⊎ (IsRebased pad t × (t.birth ≤ length pad.births) × IsByMaker edits t) → IsByMaker edits t
    numbers t (inl h) = let o = g.numbers t h in (o.0, p.leaves.owned t.number o.0 o.1, o.2)
    numbers t (inr h) = h.2

-- the live sessions, where the one who acts keeps its own
pub live-put : (w : WorldState) (n : Name) (a : Actor) → IsGoodWorld w → session_of a ≡ session_of (w.actors n)
    → (s : Session) (l : Seat) → seat_of w.pad s ≡ Some l → l.end ≡ None → IsHeld (put w.actors n a) s l
live-put w n a g same s l e h = (o.0, o.1, go (decide-name o.0 n))
  where
    o : IsHeld w.actors s l
    o = g.live s l e h

    go : ((text_eq o.0 n ≡ true) × (o.0 ≡ n)) ⊎ ((text_eq o.0 n ≡ false) × (o.0 ≡ n → ⊥)) → session_of (put w.actors n a o.0) ≡ Some s
    go (inl z) = ap session_of (put-same w.actors n a o.0 z.0) ∙ same ∙ ap (λ k. session_of (w.actors k)) (sym z.1) ∙ o.2
    go (inr z) = ap session_of (put-other w.actors n a o.0 z.0) ∙ o.2

-- a step of one client alone
pub client-step : (w : WorldState) (n : Name) (a : Actor) → IsGoodWorld w → IsGoodActor w.pad w.taken w.edits n a → session_of a ≡ session_of (w.actors n) → IsGoodWorld (with_actor w n a)
client-step w n a g ga same = assembled w n a w.pad w.taken w.edits w.known g (record {
  leaves = leaves-same w.pad w.taken w.edits n;
  good_pad = g.pad;
  actor = ga;
  live = live-put w n a g same;
  once = g.once;
  apart = g.apart;
  marked = g.marked;
  new_rebased = λ t h. inl h;
  all_known = g.known;
})

pub at-name : (w : WorldState) (n : Name) (a : Actor) → IsGoodWorld w → w.actors n ≡ a → IsGoodActor w.pad w.taken w.edits n a
at-name w n a g e = subst (λ x. IsGoodActor w.pad w.taken w.edits n x) e (g.actors n)
