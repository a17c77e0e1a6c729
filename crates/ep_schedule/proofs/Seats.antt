-- Sessions: the seat that an old session has after each change of the pad.
use Rattle.std.proofs.Common.{◌≡◌, ℕ, zero, suc, ◌≤◌, Bool, true, false, ◌==◌, if◌then◌else◌, List, [], ◌∷◌, ◌++◌, ◌⊎◌, inl, inr, map, length, Option, Some, None, refl, sym, ap, ◌∙◌, subst, arith}
use Rattle.std.proofs.lemmas.List.{append-nil, length-map}
use Rattle.ep_cs.specs.Doc.{Doc}
use Rattle.ep_cs.specs.Edit.{Edit, apply}
use Rattle.ep_history.specs.History.{Birth, By, doc_at, head, head_doc, lacks_newline, newline_edit, newline_rev, nobody, rev_by, step_revs}
use Rattle.ep_history.specs.Lists.{Among, at, numbered}
use Rattle.ep_history.specs.Pad.{PadState, birth_at, delete, end_numbered, ended, leave, newest, next_session, reopened, replaced, seat_of, with_nops, with_revs, with_session}
use Rattle.ep_schedule.specs.World.{Name, Taken}
use Rattle.ep_history.specs.declared.seat.Why.TheVariants.{Deleted, Replaced}
use Rattle.ep_history.proofs.Lists.{none_some, some_same, at-below, at-grown, at-new}
use Rattle.ep_cs.proofs.EditFits.{IsFit}
use Rattle.ep_history.proofs.Births.{decide, IsGoodBirth, longer, longer-doc, good-step, line-step, revs-count, revs-at, length-more, numbered-newest, numbered-older, numbered-below}
use Rattle.ep_history.proofs.Client.{next-doc}
use Rattle.ep_history.proofs.Seats.{numbered-map, length-end_numbered, numbered-end_numbered, ended-end, never-ended, was-new, IsThen}
use Rattle.ep_schedule.proofs.Good.{IsKnown, IsGoodPad, IsActing, Grew, WasSeat, Leaves, longer-nil}
use Rattle.ep_units.specs.declared.session.Session.{Session}
use Rattle.ep_units.specs.Text.{Text}
use Rattle.ep_history.specs.declared.rev.Rev.{Rev}
use Rattle.ep_history.specs.declared.seat.Seat.{Seat}
use Rattle.ep_history.specs.declared.nop.Nop.{Nop}
use Rattle.ep_history.proofs.Births.{noting, nops-at, nops-count, good-noting}

-- ---- seats by number

then-was : (pad : PadState) (s : Session) (o l : Seat) → seat_of pad s ≡ Some o → IsThen o l → WasSeat pad s l
then-was pad s o l f (inl e) = record { old = o; found = f; author = ap (λ (x : Seat). x.author) (sym e); read_only = ap (λ (x : Seat). x.read_only) (sym e); end = λ h. ap (λ (x : Seat). x.end) (sym e) ∙ h }
then-was pad s o l f (inr w) = record {
  old = o;
  found = f;
  author = ap (λ (x : Seat). x.author) (sym w.1);
  read_only = ap (λ (x : Seat). x.read_only) (sym w.1);
  end = λ h. ended-end w.0 o (ap (λ (x : Seat). x.end) (sym w.1) ∙ h);
}

-- a session that has a seat is of this epoch, and its seat is there by number
seat-here : (pad : PadState) (ls : List Seat) (s : Session) (l : Seat) → (if s.epoch == pad.epoch then numbered ls s.count else None) ≡ Some l → ((s.epoch == pad.epoch) ≡ true) × (s.epoch ≡ pad.epoch) × (numbered ls s.count ≡ Some l)
seat-here pad ls s l e = go (decide s.epoch pad.epoch)
  where
    go : (((s.epoch == pad.epoch) ≡ true) × (s.epoch ≡ pad.epoch)) ⊎ (((s.epoch == pad.epoch) ≡ false) × (s.epoch ≡ pad.epoch → ⊥)) → ((s.epoch == pad.epoch) ≡ true) × (s.epoch ≡ pad.epoch) × (numbered ls s.count ≡ Some l)
    go (inl z) = (z.0, z.1, sym (ap (λ t. if t then numbered ls s.count else None) z.0) ∙ e)
    go (inr z) = none_some (sym (ap (λ t. if t then numbered ls s.count else None) z.0) ∙ e)

here-seat : (pad : PadState) (s : Session) (o : Option Seat) → (s.epoch == pad.epoch) ≡ true → numbered pad.sessions s.count ≡ o → seat_of pad s ≡ o
here-seat pad s o t e = ap (λ t. if t then numbered pad.sessions s.count else None) t ∙ e

pub login-known : (pad : PadState) (s : Session) (l : Seat) → 1 ≤ pad.epoch → seat_of pad s ≡ Some l → IsKnown pad s
login-known pad s l g e =
    let h = seat-here pad pad.sessions s l e in
    let p = h.1 in
    let c = (numbered-below pad.sessions s.count l h.2).1 in
    record { made = omega (arith, p, g); past = omega (arith, p); count = λ q. c }

-- ---- leaving

pub was-left : (pad : PadState) (s t : Session) (l : Seat) → seat_of (leave pad s) t ≡ Some l → WasSeat pad t l
was-left pad s t l e = go (s.epoch == pad.epoch) e
  where
    go : (b : Bool) → (if t.epoch == pad.epoch then numbered (if b then end_numbered s.count pad.sessions else pad.sessions) t.count else None) ≡ Some l → WasSeat pad t l
    go true e =
        let h = seat-here pad (end_numbered s.count pad.sessions) t l e in
        let r = numbered-end_numbered s.count pad.sessions t.count l h.2 in
        then-was pad t r.0 l (here-seat pad t (Some r.0) h.0 r.1) r.2
    go false e =
        let h = seat-here pad pad.sessions t l e in
        then-was pad t l l (here-seat pad t (Some l) h.0 h.2) (inl refl)

pub known-left : (pad : PadState) (s t : Session) → IsKnown pad t → IsKnown (leave pad s) t
known-left pad s t k = record { made = k.made; past = k.past; count = λ e. go (s.epoch == pad.epoch) (k.count e) }
  where
    go : (b : Bool) → t.count ≤ length pad.sessions → t.count ≤ length (if b then end_numbered s.count pad.sessions else pad.sessions)
    go true h = let n = length-end_numbered s.count pad.sessions in omega (arith, h, n)
    go false h = h

-- ---- a new session

-- the seat of a new session
abbrev pub seated : Text → Bool → Seat
seated author read_only = record { author = author; read_only = read_only; end = None }

length-seated : (pad : PadState) (author : Text) (read_only : Bool) → length (with_session pad author read_only).sessions ≡ suc (length pad.sessions)
length-seated pad author read_only = length-more (map (replaced pad author) pad.sessions) (seated author read_only) ∙ ap suc (length-map pad.sessions (replaced pad author))

pub was-seated : (pad : PadState) (author : Text) (read_only : Bool) (s : Session) (l : Seat) → IsKnown pad s → seat_of (with_session pad author read_only) s ≡ Some l
    → WasSeat pad s l × (l.author ≡ author → l.end ≡ None → ⊥)
was-seated pad author read_only s l k e =
    let f = replaced pad author in
    let h = seat-here pad (map f pad.sessions ++ seated author read_only ∷ []) s l e in
    let c = k.count h.1 in
    let m = length-map pad.sessions f in
    let r = numbered-map f pad.sessions s.count l (sym (numbered-older (map f pad.sessions) (seated author read_only) s.count (omega (arith, c, m))) ∙ h.2) in
    let w = was-new author (Replaced (next_session pad)) r.0 l r.2 in
    (then-was pad s r.0 l (here-seat pad s (Some r.0) h.0 r.1) w.0, w.1)

pub known-seated : (pad : PadState) (author : Text) (read_only : Bool) (s : Session) → IsKnown pad s → IsKnown (with_session pad author read_only) s
known-seated pad author read_only s k = record {
  made = k.made;
  past = k.past;
  count = λ e. let h = k.count e in let m = length-seated pad author read_only in omega (arith, h, m);
}

pub new-known : (pad : PadState) (author : Text) (read_only : Bool) → 1 ≤ pad.epoch → IsKnown (with_session pad author read_only) (next_session pad)
new-known pad author read_only g = record {
  made = g;
  past = omega arith;
  count = λ e. let m = length-seated pad author read_only in omega (arith, m);
}

pub new-seat : (pad : PadState) (author : Text) (read_only : Bool) → seat_of (with_session pad author read_only) (next_session pad) ≡ Some (record { author = author; read_only = read_only; end = None })
new-seat pad author read_only = go (decide pad.epoch pad.epoch)
  where
    go : (((pad.epoch == pad.epoch) ≡ true) × (pad.epoch ≡ pad.epoch)) ⊎ (((pad.epoch == pad.epoch) ≡ false) × (pad.epoch ≡ pad.epoch → ⊥))
        → seat_of (with_session pad author read_only) (next_session pad) ≡ Some (seated author read_only)
    go (inl z) =
        ap (λ t. if t then numbered (map (replaced pad author) pad.sessions ++ seated author read_only ∷ []) (suc (length pad.sessions)) else None) z.0
        ∙ ap (λ k. numbered (map (replaced pad author) pad.sessions ++ seated author read_only ∷ []) (suc k)) (sym (length-map pad.sessions (replaced pad author)))
        ∙ numbered-newest (map (replaced pad author) pad.sessions) (seated author read_only)
    go (inr z) = absurd (z.1 refl)

-- a seat is the new session's or an old one's
pub new-or-old : (pad : PadState) (author : Text) (read_only : Bool) (s : Session) (l : Seat) → 1 ≤ pad.epoch → seat_of (with_session pad author read_only) s ≡ Some l → (s ≡ next_session pad) ⊎ IsKnown pad s
new-or-old pad author read_only s l g e =
    let h = seat-here pad (map (replaced pad author) pad.sessions ++ seated author read_only ∷ []) s l e in
    let m = length-seated pad author read_only in
    let c = (numbered-below (map (replaced pad author) pad.sessions ++ seated author read_only ∷ []) s.count l h.2).1 in
    go h.1 (decide s.count (suc (length pad.sessions))) (omega (arith, c, m))
  where
    go : s.epoch ≡ pad.epoch → (((s.count == suc (length pad.sessions)) ≡ true) × (s.count ≡ suc (length pad.sessions))) ⊎ (((s.count == suc (length pad.sessions)) ≡ false) × (s.count ≡ suc (length pad.sessions) → ⊥))
        → s.count ≤ suc (length pad.sessions) → (s ≡ next_session pad) ⊎ IsKnown pad s
    go p (inl z) c = inl (λ i. record { epoch = p i; count = z.1 i })
    go p (inr z) c = inr (record { made = omega (arith, p, g); past = omega (arith, p); count = λ e. let k = z.1 in omega (arith, k, c) })

-- the new session was not known
pub new-unknown : (pad : PadState) → IsKnown pad (next_session pad) → ⊥
new-unknown pad k = let h = k.count refl in omega (arith, h)

-- ---- a deletion and a crash

pub was-deleted : (pad : PadState) (s : Session) (l : Seat) → seat_of (delete pad) s ≡ Some l → WasSeat pad s l × (l.end ≡ None → ⊥)
was-deleted pad s l e =
    let why = Deleted (length pad.births) in
    let h = seat-here pad (map (ended why) pad.sessions) s l e in
    let r = numbered-map (ended why) pad.sessions s.count l h.2 in
    (then-was pad s r.0 l (here-seat pad s (Some r.0) h.0 r.1) (inr (why, sym r.2)), λ f. never-ended why r.0.end (ap (λ (x : Seat). x.end) r.2 ∙ f))

pub known-deleted : (pad : PadState) (s : Session) → IsKnown pad s → IsKnown (delete pad) s
known-deleted pad s k = record { made = k.made; past = k.past; count = λ e. let h = k.count e in let m = length-map pad.sessions (ended (Deleted (length pad.births))) in omega (arith, h, m) }

pub none-reopened : (pad : PadState) (s : Session) (l : Seat) → seat_of (reopened pad) s ≡ Some l → ⊥
none-reopened pad s l e = go (s.epoch == suc pad.epoch) s.count e
  where
    go : (t : Bool) (k : ℕ) → (if t then numbered {A = Seat} [] k else None) ≡ Some l → ⊥
    go true zero e = none_some e
    go true (suc k) e = none_some e
    go false k e = none_some e

pub known-reopened : (pad : PadState) (s : Session) → IsKnown pad s → IsKnown (reopened pad) s
known-reopened pad s k = let p = k.past in record { made = k.made; past = omega (arith, p); count = λ e. absurd (omega (arith, e, p)) }

-- ---- revisions

pub known-revs : (pad : PadState) (vs : List Rev) (s : Session) → IsKnown pad s → IsKnown (with_revs pad vs) s
known-revs pad vs s k = record { made = k.made; past = k.past; count = k.count }

pub among-step : (by : By) (e : Edit) (doc : Doc) (v : Rev) → Among v (step_revs by e doc) → (v.session ≡ by.session) ⊎ (v.session ≡ nobody)
among-step by e doc v (inl h) = inl (ap (λ (x : Rev). x.session) h)
among-step by e doc v (inr h) = go (lacks_newline (apply e doc)) h
  where
    go : (t : Bool) → Among v (if t then newline_rev by.time (apply e doc) ∷ [] else []) → (v.session ≡ by.session) ⊎ (v.session ≡ nobody)
    go true (inl h) = inr (ap (λ (x : Rev). x.session) h)
    go true (inr h) = absurd h
    go false h = absurd h

-- a new revision is the first, at the old head, or the newline's behind it
pub at-step : (xs : List Rev) (by : By) (e : Edit) (doc : Doc) (i : ℕ) (v : Rev) → length xs ≤ i → at (xs ++ step_revs by e doc) i ≡ Some v
    → ((i ≡ length xs) × (v ≡ rev_by by e doc)) ⊎ ((v.session ≡ nobody) × (i ≡ suc (length xs)) × (lacks_newline (apply e doc) ≡ true))
at-step [] by e doc zero v l h = inl (refl, sym (some_same h))
at-step [] by e doc (suc i) v l h = inr (go (lacks_newline (apply e doc)) refl i h)
  where
    go : (t : Bool) → lacks_newline (apply e doc) ≡ t → (i : ℕ) → at (if t then newline_rev by.time (apply e doc) ∷ [] else []) i ≡ Some v → (v.session ≡ nobody) × (suc i ≡ 1) × (lacks_newline (apply e doc) ≡ true)
    go true n zero h = (ap (λ (x : Rev). x.session) (sym (some_same h)), refl, n)
    go true n (suc i) h = none_some h
    go false n i h = none_some h
at-step (x ∷ xs) by e doc zero v l h = absurd (omega (arith, l))
at-step (x ∷ xs) by e doc (suc i) v l h = go (at-step xs by e doc i v (omega (arith, l)) h)
  where
    go : ((i ≡ length xs) × (v ≡ rev_by by e doc)) ⊎ ((v.session ≡ nobody) × (i ≡ suc (length xs)) × (lacks_newline (apply e doc) ≡ true))
        → ((suc i ≡ suc (length xs)) × (v ≡ rev_by by e doc)) ⊎ ((v.session ≡ nobody) × (suc i ≡ suc (suc (length xs))) × (lacks_newline (apply e doc) ≡ true))
    go (inl e) = inl (ap suc e.0, e.1)
    go (inr e) = inr (e.0, ap suc e.1, e.2)

-- an edit that is no newline's where the document has one
abbrev pub IsNoNewline : By → Edit → Doc → Type 0
IsNoNewline by e doc = by.session ≡ nobody → e ≡ newline_edit (length doc) → ⊥

-- a pad with one more step is good
pub grown-pad : (pad : PadState) (by : By) (e : Edit) → IsGoodPad pad → 1 ≤ length pad.births → IsFit e (head_doc (newest pad)) → (by.session ≡ nobody) ⊎ IsKnown pad by.session
    → IsNoNewline by e (head_doc (newest pad))
    → IsGoodPad (with_revs pad (step_revs by e (head_doc (newest pad))))
grown-pad pad by e g there f who other = record {
  epoch = g.epoch;
  births = λ k. births k (revs-at pad vs k);
  present = λ h. let n = revs-count pad vs in omega (arith, n, there);
  live = g.live;
  made = λ k i v h. made k i v h (revs-at pad vs k);
  noted = λ k x h. known-revs pad vs x.session (g.noted k x (noted k x h (revs-at pad vs k)));
  line = λ k. line k (revs-at pad vs k);
  newlines = λ k i v h. newlines k i v h (revs-at pad vs k);
}
  where
    vs : List Rev
    vs = step_revs by e (head_doc (newest pad))

    births : (k : ℕ) → ((1 ≤ length pad.births) × (k ≡ length pad.births) × (birth_at (with_revs pad vs) k ≡ longer (birth_at pad k) vs)) ⊎ (birth_at (with_revs pad vs) k ≡ birth_at pad k) → IsGoodBirth (birth_at (with_revs pad vs) k)
    births k (inl z) = subst IsGoodBirth (sym (z.2 ∙ ap (λ j. longer (birth_at pad j) vs) z.1)) (good-step (newest pad) by e (g.births (length pad.births)) f)
    births k (inr z) = subst IsGoodBirth (sym z) (g.births k)

    noted : (k : ℕ) (x : Nop) → Among x (birth_at (with_revs pad vs) k).nops
        → ((1 ≤ length pad.births) × (k ≡ length pad.births) × (birth_at (with_revs pad vs) k ≡ longer (birth_at pad k) vs)) ⊎ (birth_at (with_revs pad vs) k ≡ birth_at pad k) → Among x (birth_at pad k).nops
    noted k x h (inl z) = subst (λ (b : Birth). Among x b.nops) z.2 h
    noted k x h (inr z) = subst (λ (b : Birth). Among x b.nops) z h

    line : (k : ℕ) → ((1 ≤ length pad.births) × (k ≡ length pad.births) × (birth_at (with_revs pad vs) k ≡ longer (birth_at pad k) vs)) ⊎ (birth_at (with_revs pad vs) k ≡ birth_at pad k) → lacks_newline (head_doc (birth_at (with_revs pad vs) k)) ≡ false
    line k (inl z) = ap (λ b. lacks_newline (head_doc b)) (z.2 ∙ ap (λ j. longer (birth_at pad j) vs) z.1) ∙ line-step (newest pad) by e
    line k (inr z) = ap (λ b. lacks_newline (head_doc b)) z ∙ g.line k

    old : (v : Rev) → (v.session ≡ nobody) ⊎ IsKnown pad v.session → (v.session ≡ nobody) ⊎ IsKnown (with_revs pad vs) v.session
    old v (inl h) = inl h
    old v (inr h) = inr (known-revs pad vs v.session h)

    new : (v : Rev) → (v.session ≡ by.session) ⊎ (v.session ≡ nobody) → (by.session ≡ nobody) ⊎ IsKnown pad by.session → (v.session ≡ nobody) ⊎ IsKnown (with_revs pad vs) v.session
    new v (inr h) w = inl h
    new v (inl h) (inl w) = inl (h ∙ w)
    new v (inl h) (inr w) = inr (subst (λ t. IsKnown (with_revs pad vs) t) (sym h) (known-revs pad vs by.session w))

    made : (k i : ℕ) (v : Rev) → at (birth_at (with_revs pad vs) k).later i ≡ Some v
        → ((1 ≤ length pad.births) × (k ≡ length pad.births) × (birth_at (with_revs pad vs) k ≡ longer (birth_at pad k) vs)) ⊎ (birth_at (with_revs pad vs) k ≡ birth_at pad k) → (v.session ≡ nobody) ⊎ IsKnown (with_revs pad vs) v.session
    made k i v h (inr z) = old v (g.made k i v (ap (λ (b : Birth). at b.later i) (sym z) ∙ h))
    made k i v h (inl z) = grown (at-grown (birth_at pad k).later vs i v (ap (λ (b : Birth). at b.later i) (sym z.2) ∙ h))
      where
        grown : (at (birth_at pad k).later i ≡ Some v) ⊎ ((length (birth_at pad k).later ≤ i) × Among v vs) → (v.session ≡ nobody) ⊎ IsKnown (with_revs pad vs) v.session
        grown (inl o) = old v (g.made k i v o)
        grown (inr o) = new v (among-step by e (head_doc (newest pad)) v o.1) who

    -- in the birth that grew
    grown-newlines : (i : ℕ) (v : Rev) → at ((newest pad).later ++ vs) i ≡ Some v → v.session ≡ nobody
        → v.change.edit ≡ newline_edit (length (doc_at (longer (newest pad) vs) i)) → lacks_newline (doc_at (longer (newest pad) vs) i) ≡ true
    grown-newlines i v h n q = old-or-new (at-grown (newest pad).later vs i v h)
      where
        d : i ≤ head (newest pad) → doc_at (longer (newest pad) vs) i ≡ doc_at (newest pad) i
        d l = longer-doc (newest pad) vs i l

        new-rev : ((i ≡ head (newest pad)) × (v ≡ rev_by by e (head_doc (newest pad)))) ⊎ ((v.session ≡ nobody) × (i ≡ suc (head (newest pad))) × (lacks_newline (apply e (head_doc (newest pad))) ≡ true)) → lacks_newline (doc_at (longer (newest pad) vs) i) ≡ true
        new-rev (inl z) =
            let z0 = z.0 in
            let same : doc_at (longer (newest pad) vs) i ≡ head_doc (newest pad) = d (omega (arith, z0)) ∙ ap (doc_at (newest pad)) z.0 in
            absurd (other (ap (λ (x : Rev). x.session) (sym z.1) ∙ n) (ap (λ (x : Rev). x.change.edit) (sym z.1) ∙ q ∙ ap (λ (x : Doc). newline_edit (length x)) same))
        new-rev (inr z) =
            ap (λ k. lacks_newline (doc_at (longer (newest pad) vs) k)) z.1
            ∙ ap lacks_newline (next-doc (longer (newest pad) vs) (head (newest pad)) (rev_by by e (head_doc (newest pad))) (at-new (newest pad).later _ (rev_by by e (head_doc (newest pad)))) ∙ ap (apply e) (longer-doc (newest pad) vs (head (newest pad)) (omega arith)))
            ∙ z.2

        old-or-new : (at (newest pad).later i ≡ Some v) ⊎ ((length (newest pad).later ≤ i) × Among v vs) → lacks_newline (doc_at (longer (newest pad) vs) i) ≡ true
        old-or-new (inl o) =
            let l = at-below (newest pad).later i v o in
            let same = d (omega (arith, l)) in
            ap lacks_newline same ∙ g.newlines (length pad.births) i v o n (q ∙ ap (λ (x : Doc). newline_edit (length x)) same)
        old-or-new (inr o) = new-rev (at-step (newest pad).later by e (head_doc (newest pad)) i v o.0 h)

    newlines : (k i : ℕ) (v : Rev) → at (birth_at (with_revs pad vs) k).later i ≡ Some v
        → ((1 ≤ length pad.births) × (k ≡ length pad.births) × (birth_at (with_revs pad vs) k ≡ longer (birth_at pad k) vs)) ⊎ (birth_at (with_revs pad vs) k ≡ birth_at pad k)
        → v.session ≡ nobody → v.change.edit ≡ newline_edit (length (doc_at (birth_at (with_revs pad vs) k) i)) → lacks_newline (doc_at (birth_at (with_revs pad vs) k) i) ≡ true
    newlines k i v h (inl z) n q =
        let same = z.2 ∙ ap (λ j. longer (birth_at pad j) vs) z.1 in
        ap (λ b. lacks_newline (doc_at b i)) same ∙ grown-newlines i v (ap (λ (b : Birth). at b.later i) (sym same) ∙ h) n (q ∙ ap (λ b. newline_edit (length (doc_at b i))) same)
    newlines k i v h (inr z) n q =
        ap (λ b. lacks_newline (doc_at b i)) z ∙ g.newlines k i v (ap (λ (b : Birth). at b.later i) (sym z) ∙ h) n (q ∙ ap (λ b. newline_edit (length (doc_at b i))) z)

noting-nil : (b : Birth) → b ≡ noting b []
noting-nil b = λ i. record { first = b.first; later = b.later; nops = sym (append-nil b.nops) i }

only-noting : (b : Birth) (xs : List Nop) → noting b xs ≡ noting (longer b []) xs
only-noting b xs = λ i. record { first = b.first; later = sym (append-nil b.later) i; nops = b.nops ++ xs }

pub known-nops : (pad : PadState) (xs : List Nop) (s : Session) → IsKnown pad s → IsKnown (with_nops pad xs) s
known-nops pad xs s k = record { made = k.made; past = k.past; count = k.count }

among-noted : (xs ys : List Nop) (x : Nop) → Among x (xs ++ ys) → Among x xs ⊎ Among x ys
among-noted [] ys x h = inr h
among-noted (y ∷ xs) ys x (inl h) = inl (inl h)
among-noted (y ∷ xs) ys x (inr h) = go (among-noted xs ys x h)
  where
    go : Among x xs ⊎ Among x ys → ((x ≡ y) ⊎ Among x xs) ⊎ Among x ys
    go (inl k) = inl (inr k)
    go (inr k) = inr k

-- the newline's revisions of a birth stand where they are to
abbrev IsLined : Birth → Type 0
IsLined b = (i : ℕ) (v : Rev) → at b.later i ≡ Some v → v.session ≡ nobody → v.change.edit ≡ newline_edit (length (doc_at b i)) → lacks_newline (doc_at b i) ≡ true

-- a pad with one more edit that became nothing is good
pub noted-pad : (pad : PadState) (x : Nop) → IsGoodPad pad → IsKnown pad x.session → IsGoodPad (with_nops pad (x ∷ []))
noted-pad pad x g known = record {
  epoch = g.epoch;
  births = λ k. births k (nops-at pad (x ∷ []) k);
  present = λ h. let n = nops-count pad (x ∷ []) in let l = g.present h in omega (arith, n, l);
  live = g.live;
  made = λ k i v h. made v (g.made k i v (made_at k i v h (nops-at pad (x ∷ []) k)));
  noted = λ k y h. noted k y h (nops-at pad (x ∷ []) k);
  line = λ k. line k (nops-at pad (x ∷ []) k);
  newlines = λ k. newlines k (nops-at pad (x ∷ []) k);
}
  where
    births : (k : ℕ) → ((1 ≤ length pad.births) × (k ≡ length pad.births) × (birth_at (with_nops pad (x ∷ [])) k ≡ noting (birth_at pad k) (x ∷ []))) ⊎ (birth_at (with_nops pad (x ∷ [])) k ≡ birth_at pad k) → IsGoodBirth (birth_at (with_nops pad (x ∷ [])) k)
    births k (inl z) = subst IsGoodBirth (sym z.2) (good-noting (birth_at pad k) (x ∷ []) (g.births k))
    births k (inr z) = subst IsGoodBirth (sym z) (g.births k)

    line : (k : ℕ) → ((1 ≤ length pad.births) × (k ≡ length pad.births) × (birth_at (with_nops pad (x ∷ [])) k ≡ noting (birth_at pad k) (x ∷ []))) ⊎ (birth_at (with_nops pad (x ∷ [])) k ≡ birth_at pad k) → lacks_newline (head_doc (birth_at (with_nops pad (x ∷ [])) k)) ≡ false
    line k (inl z) = ap (λ b. lacks_newline (head_doc b)) z.2 ∙ g.line k
    line k (inr z) = ap (λ b. lacks_newline (head_doc b)) z ∙ g.line k

    newlines : (k : ℕ) → ((1 ≤ length pad.births) × (k ≡ length pad.births) × (birth_at (with_nops pad (x ∷ [])) k ≡ noting (birth_at pad k) (x ∷ []))) ⊎ (birth_at (with_nops pad (x ∷ [])) k ≡ birth_at pad k) → IsLined (birth_at (with_nops pad (x ∷ [])) k)
    newlines k (inl z) = subst IsLined (sym z.2) (g.newlines k)
    newlines k (inr z) = subst IsLined (sym z) (g.newlines k)

    made : (v : Rev) → (v.session ≡ nobody) ⊎ IsKnown pad v.session → (v.session ≡ nobody) ⊎ IsKnown (with_nops pad (x ∷ [])) v.session
    made v (inl h) = inl h
    made v (inr h) = inr (known-nops pad (x ∷ []) v.session h)

    made_at : (k i : ℕ) (v : Rev) → at (birth_at (with_nops pad (x ∷ [])) k).later i ≡ Some v
        → ((1 ≤ length pad.births) × (k ≡ length pad.births) × (birth_at (with_nops pad (x ∷ [])) k ≡ noting (birth_at pad k) (x ∷ []))) ⊎ (birth_at (with_nops pad (x ∷ [])) k ≡ birth_at pad k) → at (birth_at pad k).later i ≡ Some v
    made_at k i v h (inl z) = ap (λ (b : Birth). at b.later i) (sym z.2) ∙ h
    made_at k i v h (inr z) = ap (λ (b : Birth). at b.later i) (sym z) ∙ h

    noted : (k : ℕ) (y : Nop) → Among y (birth_at (with_nops pad (x ∷ [])) k).nops
        → ((1 ≤ length pad.births) × (k ≡ length pad.births) × (birth_at (with_nops pad (x ∷ [])) k ≡ noting (birth_at pad k) (x ∷ []))) ⊎ (birth_at (with_nops pad (x ∷ [])) k ≡ birth_at pad k) → IsKnown (with_nops pad (x ∷ [])) y.session
    noted k y h (inr z) = known-nops pad (x ∷ []) y.session (g.noted k y (subst (λ (b : Birth). Among y b.nops) z h))
    noted k y h (inl z) = go (among-noted (birth_at pad k).nops (x ∷ []) y (subst (λ (b : Birth). Among y b.nops) z.2 h))
      where
        go : Among y (birth_at pad k).nops ⊎ Among y (x ∷ []) → IsKnown (with_nops pad (x ∷ [])) y.session
        go (inl o) = known-nops pad (x ∷ []) y.session (g.noted k y o)
        go (inr (inl e)) = subst (λ (z : Nop). IsKnown (with_nops pad (x ∷ [])) z.session) (sym e) (known-nops pad (x ∷ []) x.session known)
        go (inr (inr e)) = absurd e

-- a step notes nothing
pub revs-nops : (pad : PadState) (vs : List Rev) (k i : ℕ) (x : Nop) → at (birth_at (with_revs pad vs) k).nops i ≡ Some x → at (birth_at pad k).nops i ≡ Some x
revs-nops pad vs k i x h = go (revs-at pad vs k)
  where
    go : ((1 ≤ length pad.births) × (k ≡ length pad.births) × (birth_at (with_revs pad vs) k ≡ longer (birth_at pad k) vs)) ⊎ (birth_at (with_revs pad vs) k ≡ birth_at pad k) → at (birth_at pad k).nops i ≡ Some x
    go (inl z) = ap (λ (b : Birth). at b.nops i) (sym z.2) ∙ h
    go (inr z) = ap (λ (b : Birth). at b.nops i) (sym z) ∙ h

pub leaves-nops : (pad : PadState) (taken : List Taken) (edits : List Name) (taken' : List Taken) (n : Name) (x : Nop)
    → IsActing pad n x.session → ((t : Taken) → Among t taken' → Among t taken ⊎ (numbered edits t.number ≡ Some n)) → ((t : Taken) → Among t taken → Among t taken')
    → Leaves pad taken edits (with_nops pad (x ∷ [])) taken' edits n
leaves-nops pad taken edits taken' n x act new old = record {
  grew = λ k h. grew k (nops-at pad (x ∷ []) k);
  count = let c = nops-count pad (x ∷ []) in omega (arith, c);
  newest = λ t l f h k. nops-count pad (x ∷ []);
  seats = λ t l k f. record { old = l; found = f; author = refl; read_only = refl; end = λ h. h };
  known = λ t k. known-nops pad (x ∷ []) t k;
  owned = λ i k h. h;
  new_taken = new;
  old_taken = old;
}
  where
    by : (y : Nop) → Among y (x ∷ []) → IsActing pad n y.session
    by y (inl e) = subst (λ (z : Nop). IsActing pad n z.session) (sym e) act
    by y (inr e) = absurd e

    grew : (k : ℕ) → ((1 ≤ length pad.births) × (k ≡ length pad.births) × (birth_at (with_nops pad (x ∷ [])) k ≡ noting (birth_at pad k) (x ∷ []))) ⊎ (birth_at (with_nops pad (x ∷ [])) k ≡ birth_at pad k) → Grew pad (with_nops pad (x ∷ [])) n k
    grew k (inl z) = record { more = []; notes = x ∷ []; is = z.2 ∙ only-noting (birth_at pad k) (x ∷ []); by = λ v h. absurd h; noted_by = by }
    grew k (inr z) = record { more = []; notes = []; is = z ∙ longer-nil (birth_at pad k); by = λ v h. absurd h; noted_by = λ y h. absurd h }

pub leaves-revs : (pad : PadState) (taken : List Taken) (edits : List Name) (taken' : List Taken) (n : Name) (by : By) (e : Edit) (doc : Doc)
    → IsActing pad n by.session → ((t : Taken) → Among t taken' → Among t taken ⊎ (numbered edits t.number ≡ Some n)) → ((t : Taken) → Among t taken → Among t taken')
    → Leaves pad taken edits (with_revs pad (step_revs by e doc)) taken' edits n
leaves-revs pad taken edits taken' n by e doc act new old = record {
  grew = λ k h. grew k (revs-at pad vs k);
  count = let c = revs-count pad vs in omega (arith, c);
  newest = λ t l f h k. revs-count pad vs;
  seats = λ t l k f. record { old = l; found = f; author = refl; read_only = refl; end = λ h. h };
  known = λ t k. known-revs pad vs t k;
  owned = λ i k h. h;
  new_taken = new;
  old_taken = old;
}
  where
    vs : List Rev
    vs = step_revs by e doc

    acts : (v : Rev) → (v.session ≡ by.session) ⊎ (v.session ≡ nobody) → IsActing pad n v.session
    acts v (inl h) = subst (λ t. IsActing pad n t) (sym h) act
    acts v (inr h) = inl h

    grew : (k : ℕ) → ((1 ≤ length pad.births) × (k ≡ length pad.births) × (birth_at (with_revs pad vs) k ≡ longer (birth_at pad k) vs)) ⊎ (birth_at (with_revs pad vs) k ≡ birth_at pad k) → Grew pad (with_revs pad vs) n k
    grew k (inl z) = record { more = vs; notes = []; is = z.2 ∙ noting-nil (longer (birth_at pad k) vs); by = λ v h. acts v (among-step by e doc v h); noted_by = λ x h. absurd h }
    grew k (inr z) = record { more = []; notes = []; is = z ∙ longer-nil (birth_at pad k); by = λ v h. absurd h; noted_by = λ x h. absurd h }
