-- Seats by place, and that no author has two live ones.
use Rattle.std.proofs.Common.{◌≡◌, ℕ, zero, suc, Bool, true, false, ◌==◌, if◌then◌else◌, List, [], ◌∷◌, ◌++◌, ◌⊎◌, inl, inr, map, length, Option, Some, None, refl, sym, ap, ◌∙◌}
use Rattle.ep_units.specs.Text.{Text, text_eq}
use Rattle.ep_units.specs.declared.session.Session.{Session}
use Rattle.ep_history.specs.Lists.{at, numbered}
use Rattle.ep_history.specs.Pad.{AreSingle, EndsOlder, PadState, delete, end_at, end_numbered, ended, first_end, leave, next_session, replaced, with_session}
use Rattle.ep_history.specs.declared.seat.Seat.{Seat}
use Rattle.ep_history.specs.declared.seat.Why.{Why}
use Rattle.ep_history.specs.declared.seat.Why.TheVariants.{Deleted, Left, Replaced}
use Rattle.ep_history.proofs.Births.{decide-name}
use Rattle.ep_history.proofs.Lists.{none_some, some_same, at-past}

-- ---- seats by number

pub at-map : (f : Seat → Seat) (ls : List Seat) (i : ℕ) (l : Seat) → at (map f ls) i ≡ Some l → (o : Seat) × (at ls i ≡ Some o) × (f o ≡ l)
at-map f [] i l e = none_some e
at-map f (x ∷ xs) zero l e = (x, refl, some_same e)
at-map f (x ∷ xs) (suc i) l e = at-map f xs i l e

pub numbered-map : (f : Seat → Seat) (ls : List Seat) (k : ℕ) (l : Seat) → numbered (map f ls) k ≡ Some l → (o : Seat) × (numbered ls k ≡ Some o) × (f o ≡ l)
numbered-map f ls zero l e = none_some e
numbered-map f ls (suc i) l e = at-map f ls i l e

pub length-end_at : (i : ℕ) (ls : List Seat) → length (end_at i ls) ≡ length ls
length-end_at i [] = refl
length-end_at zero (l ∷ ls) = refl
length-end_at (suc i) (l ∷ ls) = ap suc (length-end_at i ls)

pub length-end_numbered : (k : ℕ) (ls : List Seat) → length (end_numbered k ls) ≡ length ls
length-end_numbered zero ls = refl
length-end_numbered (suc i) ls = length-end_at i ls

-- a seat that may have ended
abbrev pub IsThen : Seat → Seat → Type 0
IsThen old new = (new ≡ old) ⊎ ((why : Why) × (new ≡ ended why old))

pub at-end_at : (j : ℕ) (ls : List Seat) (i : ℕ) (l : Seat) → at (end_at j ls) i ≡ Some l → (o : Seat) × (at ls i ≡ Some o) × IsThen o l
at-end_at j [] i l e = none_some e
at-end_at zero (x ∷ xs) zero l e = (x, refl, inr (Left, sym (some_same e)))
at-end_at zero (x ∷ xs) (suc i) l e = (l, e, inl refl)
at-end_at (suc j) (x ∷ xs) zero l e = (x, refl, inl (sym (some_same e)))
at-end_at (suc j) (x ∷ xs) (suc i) l e = at-end_at j xs i l e

pub numbered-end_numbered : (j : ℕ) (ls : List Seat) (k : ℕ) (l : Seat) → numbered (end_numbered j ls) k ≡ Some l → (o : Seat) × (numbered ls k ≡ Some o) × IsThen o l
numbered-end_numbered j ls zero l e = none_some e
numbered-end_numbered zero ls (suc i) l e = (l, e, inl refl)
numbered-end_numbered (suc j) ls (suc i) l e = at-end_at j ls i l e

pub ended-end : (why : Why) (l : Seat) → (ended why l).end ≡ None → l.end ≡ None
ended-end why l e = go l.end e
  where
    go : (o : Option Why) → first_end o why ≡ None → o ≡ None
    go None e = refl
    go (Some x) e = e

pub never-ended : (why : Why) (o : Option Why) → first_end o why ≡ None → ⊥
never-ended why None e = none_some (sym e)
never-ended why (Some x) e = none_some (sym e)

pub was-new : (author : Text) (why : Why) (o l : Seat) → (if text_eq o.author author then ended why o else o) ≡ l → IsThen o l × (l.author ≡ author → l.end ≡ None → ⊥)
was-new author why o l e = go (decide-name o.author author)
  where
    go : ((text_eq o.author author ≡ true) × (o.author ≡ author)) ⊎ ((text_eq o.author author ≡ false) × (o.author ≡ author → ⊥)) → IsThen o l × (l.author ≡ author → l.end ≡ None → ⊥)
    go (inl z) =
        let p : l ≡ ended why o = sym e ∙ ap (λ t. if t then ended why o else o) z.0 in
        (inr (why, p), λ h f. never-ended why o.end (ap (λ (x : Seat). x.end) (sym p) ∙ f))
    go (inr z) =
        let p : l ≡ o = sym e ∙ ap (λ t. if t then ended why o else o) z.0 in
        (inl p, λ h f. z.1 (ap (λ (x : Seat). x.author) (sym p) ∙ h))

-- ---- no author has two live seats

-- seats of which each is an older one, or one that has ended
single-then : (olds news : List Seat) → ((i : ℕ) (l : Seat) → at news i ≡ Some l → (o : Seat) × (at olds i ≡ Some o) × IsThen o l) → AreSingle olds → AreSingle news
single-then olds news back g i j l m p q live live' same =
    let x = back i l p in
    let y = back j m q in
    g i j x.0 y.0 x.1 y.1 (was-live x.0 l x.2 live) (was-live y.0 m y.2 live') (was-by x.0 l x.2 ∙ same ∙ sym (was-by y.0 m y.2))
  where
    was-live : (o l : Seat) → IsThen o l → l.end ≡ None → o.end ≡ None
    was-live o l (inl e) h = ap (λ (x : Seat). x.end) (sym e) ∙ h
    was-live o l (inr w) h = ended-end w.0 o (ap (λ (x : Seat). x.end) (sym w.1) ∙ h)

    was-by : (o l : Seat) → IsThen o l → o.author ≡ l.author
    was-by o l (inl e) = ap (λ (x : Seat). x.author) (sym e)
    was-by o l (inr w) = ap (λ (x : Seat). x.author) (sym w.1)

single-left : (pad : PadState) (s : Session) → AreSingle pad.sessions → AreSingle (leave pad s).sessions
single-left pad s g = go (s.epoch == pad.epoch) s.count
  where
    go : (b : Bool) (k : ℕ) → AreSingle (if b then end_numbered k pad.sessions else pad.sessions)
    go false k = g
    go true zero = g
    go true (suc i) = single-then pad.sessions (end_at i pad.sessions) (λ j l e. at-end_at i pad.sessions j l e) g

single-deleted : (pad : PadState) → AreSingle pad.sessions → AreSingle (delete pad).sessions
single-deleted pad g = single-then pad.sessions _ (λ i l e. let r = at-map (ended (Deleted (length pad.births))) pad.sessions i l e in (r.0, r.1, inr (Deleted (length pad.births), sym r.2))) g

single-entered : (pad : PadState) (author : Text) (read_only : Bool) → AreSingle pad.sessions → AreSingle (with_session pad author read_only).sessions
single-entered pad author read_only g i j l m p q live live' same = go (place i l p) (place j m q)
  where
    new : Seat
    new = record { author = author; read_only = read_only; end = None }

    olds : List Seat
    olds = map (replaced pad author) pad.sessions

    place : (i : ℕ) (l : Seat) → at (olds ++ new ∷ []) i ≡ Some l → (at olds i ≡ Some l) ⊎ (((i ≡ length olds) × (l ≡ new)) ⊎ ⊥)
    place i l e = at-past olds new [] i l e

    old : (i : ℕ) (l : Seat) → at olds i ≡ Some l → (o : Seat) × (at pad.sessions i ≡ Some o) × IsThen o l × (l.author ≡ author → l.end ≡ None → ⊥)
    old i l e =
        let r = at-map (replaced pad author) pad.sessions i l e in
        let w = was-new author (Replaced (next_session pad)) r.0 l r.2 in
        (r.0, r.1, w.0, w.1)

    go : (at olds i ≡ Some l) ⊎ (((i ≡ length olds) × (l ≡ new)) ⊎ ⊥) → (at olds j ≡ Some m) ⊎ (((j ≡ length olds) × (m ≡ new)) ⊎ ⊥) → i ≡ j
    go (inl a) (inl b) = single-then pad.sessions olds (λ k x e. let o = old k x e in (o.0, o.1, o.2)) g i j l m a b live live' same
    go (inl a) (inr (inl b)) = absurd ((old i l a).3 (same ∙ ap (λ (x : Seat). x.author) b.1) live)
    go (inr (inl a)) (inl b) = absurd ((old j m b).3 (sym same ∙ ap (λ (x : Seat). x.author) a.1) live')
    go (inr (inl a)) (inr (inl b)) = a.0 ∙ sym b.0
    go (inr (inr a)) b = absurd a
    go (inl a) (inr (inr b)) = absurd b
    go (inr (inl a)) (inr (inr b)) = absurd b

pub ends-older : EndsOlder
ends-older pad g = record { entered = λ author read_only. single-entered pad author read_only g; left = λ s. single-left pad s g; deleted = single-deleted pad g }
