-- The steps of one client: edits, submissions, what goes down, what it hears.
use Rattle.std.proofs.Common.{◌≡◌, ℕ, suc, ◌≤◌, Bool, true, false, not, ◌&&◌, ◌||◌, ◌==◌, nat_lt, if◌then◌else◌, List, [], ◌∷◌, ◌++◌, ◌⊎◌, inl, inr, length, Option, Some, None, refl, sym, ap, ◌∙◌, subst, T, arith}
use Rattle.std.proofs.lemmas.Bool.Decides.{nat_tests}
use Rattle.ep_cs.specs.Edit.{Edit, apply, identity}
use Rattle.ep_history.specs.Client.{edited, sends, sent_now, submission, submitted_from, view}
use Rattle.ep_cs.specs.EditFits.{fits}
use Rattle.ep_history.specs.History.{Birth, doc_at, is_session, rebase, rev_by}
use Rattle.ep_history.specs.Kept.{IsSpent}
use Rattle.ep_history.specs.Lists.{at}
use Rattle.ep_history.specs.Pad.{PadState, birth_at}
use Rattle.ep_schedule.specs.Headline.{IsRebased, brought}
use Rattle.ep_schedule.specs.World.{Actor, Member, Name, Taken, WorldState, edit_by, put, sent_up, submit_as, submit_by, submit_if, with_actor, with_client}
use Rattle.ep_schedule.specs.World.Actor.{Guest, Named, Nobody}
use Rattle.ep_history.proofs.Lists.{none_some, some_same}
use Rattle.ep_cs.proofs.EditFits.{IsFit, fits_true}
use Rattle.ep_cs.proofs.Identity.{apply-identity}
use Rattle.ep_history.proofs.Client.{sound-edited, sound-first, sound-again}
use Rattle.ep_history.proofs.Births.{IsTrueChange, numbered-newest, numbered-older, numbered-below}
use Rattle.ep_schedule.proofs.Good.{IsPending, Turn, own_nops, Ahead, Goes, IsOf, IsKnown, Mine, as_message, IsUntaken, IsGood, IsGoodActor, session_of, IsGoodWorld, Leaves, leaves-same, assembled, live-put, client-step, at-name}
use Rattle.ep_units.specs.declared.session.Session.{Session}
use Rattle.ep_cs.specs.Fits.{is_identity}
use Rattle.ep_cs.specs.Change.{stamped}
use Rattle.ep_cs.specs.Doc.{text_of}
use Rattle.ep_history.specs.declared.rev.Rev.{Rev}
use Rattle.ep_history.specs.declared.submission.Submission.{Submission}
use Rattle.ep_history.proofs.Equations.{spent-stays}
use Rattle.ep_cs.proofs.Identity.{is_identity-identity}

-- ---- small facts

pub both_ways : {Z : Type 0} (t : Bool) → t ≡ true → t ≡ false → Z
both_ways true e h = absurd (subst T h tt)
both_ways false e h = absurd (subst T (sym e) tt)

pub and_first : (a b : Bool) → (a && b) ≡ true → a ≡ true
and_first true b e = refl
and_first false b e = e

pub and_second : (a b : Bool) → (a && b) ≡ true → b ≡ true
and_second true b e = e
and_second false b e = absurd (subst T (sym e) tt)

pub not_true : (a : Bool) → not a ≡ true → a ≡ false
not_true true e = absurd (subst T (sym e) tt)
not_true false e = refl

pub or_false : (a b : Bool) → (a || b) ≡ false → (a ≡ false) × (b ≡ false)
or_false true b e = absurd (subst T e tt)
or_false false b e = (refl, e)

equal_number : (a b : ℕ) → (a == b) ≡ true → a ≡ b
equal_number a b e = grind (arith, nat_tests)

number_equal : (a b : ℕ) → a ≡ b → (a == b) ≡ true
number_equal a b e = grind (arith, nat_tests)

pub not_less : (a b : ℕ) → nat_lt a b ≡ false → b ≤ a
not_less a b e = grind (arith, nat_tests)

pub is_same : (s t : Session) → s ≡ t → is_session s t ≡ true
is_same s t e = go (number_equal s.epoch t.epoch (ap (λ (u : Session). u.epoch) e)) (number_equal s.count t.count (ap (λ (u : Session). u.count) e))
  where
    go : (s.epoch == t.epoch) ≡ true → (s.count == t.count) ≡ true → is_session s t ≡ true
    go p q = (λ i. p i && q i)

pub other_session : (s t : Session) → is_session s t ≡ false → s ≡ t → ⊥
other_session s t e h = both_ways (is_session s t) (is_same s t h) e

-- ---- an edit

good-edited : (b : Birth) (pad : PadState) (taken : List Taken) (edits : List Name) (n : Name) (m : Member) (e : Edit)
    → IsGood b pad taken edits n m → IsFit e (view b m.client) → IsGood b pad taken edits n (with_client m (edited e m.client))
good-edited b pad taken edits n m e g f = record {
  birth = g.birth;
  sound = sound-edited b m.client e g.sound f;
  told = g.told;
  current = g.current;
  known = g.known;
  mine = g.mine;
  writes = g.writes;
  newest = g.newest;
  sent_known = g.sent_known;
  sent_mine = g.sent_mine;
  sent_fits = g.sent_fits;
  number = g.number;
  unheard = g.unheard;
  carried = g.carried;
  taken_unheard = g.taken_unheard;
  dropped = g.dropped;
  up = g.up;
  sent_rev = g.sent_rev;
  down = g.down;
  lost = g.lost;
  earlier_known = g.earlier_known;
  earlier_mine = g.earlier_mine;
  earlier_other = g.earlier_other;
}

pub edit-good : (w : WorldState) (n : Name) (e : Edit) (a : Actor) → IsGoodWorld w → w.actors n ≡ a → IsGoodWorld (edit_by w n e a)
edit-good w n e Nobody g i = g
edit-good w n e (Guest c) g i = g
edit-good w n e (Named m) g i = go (fits e (view (birth_at w.pad m.birth) m.client)) refl
  where
    go : (t : Bool) → fits e (view (birth_at w.pad m.birth) m.client) ≡ t → IsGoodWorld (if t then with_actor w n (Named (with_client m (edited e m.client))) else w)
    go true h = client-step w n (Named (with_client m (edited e m.client))) g
        (good-edited (birth_at w.pad m.birth) w.pad w.taken w.edits n m e (at-name w n (Named m) g i) (fits_true e (view (birth_at w.pad m.birth) m.client) h))
        (sym (ap session_of i))
    go false h = g

-- ---- submissions

pub turn-quiet : (b : Birth) (taken : List Taken) (m : Member) → Turn b taken m → (IsPending taken m → ⊥) → (m.conn.nops ≡ length (own_nops b m)) × Goes m.conn.closed (Ahead b m) m.conn.down
turn-quiet b taken m (inl q) never = q
turn-quiet b taken m (inr (inl q)) never = absurd (never q.2.0)
turn-quiet b taken m (inr (inr q)) never = absurd (never q.1.0)

module _ (b : Birth) (pad : PadState) (taken : List Taken) (edits : List Name) (n : Name) (m : Member) (g : IsGood b pad taken edits n m) where
  no_up : ((s : Submission) → m.client.sent ≡ Some s → s.session ≡ m.client.session → ⊥) → m.conn.up ≡ []
  no_up h = go g.up
    where
      go : (m.conn.up ≡ []) ⊎ ((s : Submission) × (m.client.sent ≡ Some s) × (s.session ≡ m.client.session) × (m.conn.up ≡ as_message m s ∷ []) × IsUntaken taken m.number) → m.conn.up ≡ []
      go (inl e) = e
      go (inr u) = absurd (h u.0 u.1 u.2)

  good-first : m.client.sent ≡ None → IsUntaken taken (suc (length edits))
      → IsGood b pad taken (edits ++ n ∷ []) n (sent_up m (suc (length edits)) (sends b m.client m.client.local (identity (length (view b m.client)))) (Some (record { change = stamped m.client.local (text_of (doc_at b m.client.rev)); base = m.client.rev; session = m.client.session })))
  good-first none fresh = record {
    birth = g.birth;
    sound = sound-first b m.client g.sound none;
    told = g.told;
    current = g.current;
    known = g.known;
    mine = g.mine;
    writes = g.writes;
    newest = g.newest;
    sent_known = λ s e. subst (λ (t : Submission). IsKnown pad t.session) (some_same e) g.known;
    sent_mine = λ s e. subst (λ (t : Submission). Mine pad n t.session) (some_same e) g.mine;
    sent_fits = λ s e. subst (λ (t : Submission). IsTrueChange t.change (doc_at b t.base)) (some_same e) (record { fit = subst (λ doc. IsFit m.client.local doc) (ap (λ o. apply (sent_now b m.client.rev o) (doc_at b m.client.rev)) none ∙ apply-identity (doc_at b m.client.rev)) g.sound.local; told = refl });
    number = λ s e. numbered-newest edits n;
    unheard = λ i v l e h. let u = g.unheard i v l e h in none_some (sym none ∙ u.1);
    carried = λ s f i v l e h. let u = g.unheard i v l e (h ∙ ap (λ (t : Submission). t.session) (sym (some_same f))) in none_some (sym none ∙ u.1);
    taken_unheard = λ s f t among e. absurd (fresh t among e);
    dropped = λ c t s e o. absurd (o (ap (λ (t : Submission). t.session) (sym (some_same e))));
    up = inr (record { change = stamped m.client.local (text_of (doc_at b m.client.rev)); base = m.client.rev; session = m.client.session }, refl, refl, ap (λ us. us ++ record { number = suc (length edits); base = m.client.rev; change = stamped m.client.local (text_of (doc_at b m.client.rev)); unread = None } ∷ []) (no_up (λ s e h. none_some (sym none ∙ e))), fresh);
    sent_rev = g.sent_rev;
    down = λ c. inl (turn-quiet b taken m (g.down c) (λ p. none_some (sym none ∙ p.1)));
    lost = g.lost;
    earlier_known = g.earlier_known;
    earlier_mine = g.earlier_mine;
    earlier_other = g.earlier_other;
  }

  good-again : (s : Submission) → m.client.sent ≡ Some s → (s.session ≡ m.client.session → ⊥) → IsUntaken taken m.number
      → IsGood b pad taken edits n (sent_up m m.number (sends b m.client (submission b m.client) m.client.local) (Some (record { change = stamped (submission b m.client) (text_of (doc_at b m.client.rev)); base = m.client.rev; session = m.client.session })))
  good-again s is other fresh = record {
    birth = g.birth;
    sound = sound-again b m.client g.sound;
    told = g.told;
    current = g.current;
    known = g.known;
    mine = g.mine;
    writes = g.writes;
    newest = g.newest;
    sent_known = λ s e. subst (λ (t : Submission). IsKnown pad t.session) (some_same e) g.known;
    sent_mine = λ s e. subst (λ (t : Submission). Mine pad n t.session) (some_same e) g.mine;
    sent_fits = λ s e. subst (λ (t : Submission). IsTrueChange t.change (doc_at b t.base)) (some_same e) (record { fit = g.sound.sent; told = refl });
    number = λ t e. g.number s is;
    unheard = λ i v l e h. absurd (none_unheard i v l e h);
    carried = λ t f i v l e h. absurd (none_unheard i v l e (h ∙ ap (λ (u : Submission). u.session) (sym (some_same f))));
    taken_unheard = λ t f u among e. absurd (fresh u among e);
    dropped = λ c t s e o. absurd (o (ap (λ (t : Submission). t.session) (sym (some_same e))));
    up = inr (record { change = stamped (submission b m.client) (text_of (doc_at b m.client.rev)); base = m.client.rev; session = m.client.session }, refl, refl, ap (λ us. us ++ record { number = m.number; base = m.client.rev; change = stamped (submission b m.client) (text_of (doc_at b m.client.rev)); unread = None } ∷ []) (no_up (λ t e h. other (ap (λ (u : Submission). u.session) (some_same (sym is ∙ e)) ∙ h))), fresh);
    sent_rev = g.sent_rev;
    down = λ c. inl (turn-quiet b taken m (g.down c) (λ p. other (ap (λ (t : Submission). t.session) (some_same (sym is ∙ p.1)) ∙ p.2)));
    lost = g.lost;
    earlier_known = g.earlier_known;
    earlier_mine = g.earlier_mine;
    earlier_other = g.earlier_other;
  }
    where
      none_unheard : (i : ℕ) (v : Rev) → m.client.rev ≤ i → at b.later i ≡ Some v → v.session ≡ m.client.session → ⊥
      none_unheard i v l e h = let u = g.unheard i v l e h in other (ap (λ (t : Submission). t.session) (some_same (sym is ∙ u.1)) ∙ u.2)

-- a number that is not given yet was not taken
pub fresh-number : (w : WorldState) → IsGoodWorld w → IsUntaken w.taken (suc (length w.edits))
fresh-number w g t among e =
    let o = g.numbers t among in
    let h = (numbered-below w.edits t.number o.0 o.1).1 in
    omega (arith, e, h)

-- a submission of an older session, of which the told head was passed, was not taken
pub untaken-again : (w : WorldState) (n : Name) (m : Member) (s : Submission) → IsGoodWorld w → IsGood (birth_at w.pad m.birth) w.pad w.taken w.edits n m
    → m.client.connected ≡ true → m.client.sent ≡ Some s → (s.session ≡ m.client.session → ⊥) → m.client.told ≤ m.client.rev → IsUntaken w.taken m.number
untaken-again w n m s g gm conn is other told t among e =
    go t.nop refl
  where
    u : IsOf m s t
    u = gm.taken_unheard s is t among e

    b : Birth
    b = birth_at w.pad m.birth

    r : IsRebased w.pad t
    r = g.rebased t among

    told_head : t.head ≤ m.client.told
    told_head = u.5 other

    go : (o : Option ℕ) → t.nop ≡ o → ⊥
    go None o =
        let rb = ap (λ k. at (birth_at w.pad k).later t.head) (sym u.0) ∙ r.edit o in
        let k = u.4 o in
        let c = gm.carried s is t.head (rev_by t.by (brought w.pad t) (doc_at (birth_at w.pad t.birth) t.head)) k rb u.1 in
        let h = c.2 other in
        omega (arith, h, told, k)
    go (Some i) o =
        let spent : IsSpent b s.change.edit s.base t.head =
        (λ i. rebase (birth_at w.pad (sym u.0 i)) (sym u.2 i).edit (sym u.3 i) t.head) ∙ r.nothing i o ∙ (λ i. identity (length (doc_at (birth_at w.pad (u.0 i)) t.head))) in
        let l = told_head in
        let base : s.base ≤ t.head = let h = r.base in let z = u.3 in omega (arith, h, z) in
        let now = spent-stays b (g.pad.births m.birth) s.change.edit s.base t.head base spent m.client.rev (omega (arith, l, told)) gm.sound.rev in
        both_ways (is_identity (submission b m.client))
        (ap is_identity (ap (sent_now b m.client.rev) is ∙ now) ∙ is_identity-identity (length (doc_at b m.client.rev)))
        (gm.dropped conn told s is other)

-- one more edit has a number
pub leaves-edit : (w : WorldState) (n : Name) → Leaves w.pad w.taken w.edits w.pad w.taken (w.edits ++ n ∷ []) n
leaves-edit w n = let f = leaves-same w.pad w.taken w.edits n in record {
  grew = f.grew;
  count = f.count;
  newest = f.newest;
  seats = f.seats;
  known = f.known;
  owned = λ i k e. numbered-older w.edits n i (numbered-below w.edits i k e).1 ∙ e;
  new_taken = λ t h. inl h;
  old_taken = f.old_taken;
}

pub edits-step : (w : WorldState) (n : Name) (a : Actor) → IsGoodWorld w → IsGoodActor w.pad w.taken (w.edits ++ n ∷ []) n a → session_of a ≡ session_of (w.actors n)
    → IsGoodWorld (record { id = w.id; pad = w.pad; actors = put w.actors n a; edits = w.edits ++ n ∷ []; taken = w.taken; known = w.known })
edits-step w n a g ga same = assembled w n a w.pad w.taken (w.edits ++ n ∷ []) w.known g (record {
  leaves = leaves-edit w n;
  good_pad = g.pad;
  actor = ga;
  live = live-put w n a g same;
  once = g.once;
  apart = g.apart;
  marked = g.marked;
  new_rebased = λ t h. inl h;
  all_known = g.known;
})

pub submit-good : (w : WorldState) (n : Name) (a : Actor) → IsGoodWorld w → w.actors n ≡ a → IsGoodWorld (submit_by w n a)
submit-good w n Nobody g i = g
submit-good w n (Guest c) g i = g
submit-good w n (Named m) g i = connected m.client.connected refl
  where
    b : Birth
    b = birth_at w.pad m.birth

    gm : IsGood b w.pad w.taken w.edits n m
    gm = at-name w n (Named m) g i

    again : m.client.connected ≡ true → (s : Submission) → m.client.sent ≡ Some s → (t : Bool) → (is_session s.session m.client.session || nat_lt m.client.rev m.client.told) ≡ t
        → IsGoodWorld (submit_if w n m (if t then None else Some (sends b m.client (submission b m.client) m.client.local)))
    again conn s is true h = g
    again conn s is false h =
        let p = or_false (is_session s.session m.client.session) _ h in
        let other = other_session s.session m.client.session p.0 in
        subst (λ o. IsGoodWorld (submit_as w n m o (sends b m.client (submission b m.client) m.client.local))) (sym is)
        (client-step w n _ g
        (good-again b w.pad w.taken w.edits n m gm s is other (untaken-again w n m s g gm conn is other (not_less m.client.rev m.client.told p.1)))
        (sym (ap session_of i)))

    first : m.client.sent ≡ None → (t : Bool) → IsGoodWorld (submit_if w n m (if t then None else Some (sends b m.client m.client.local (identity (length (view b m.client))))))
    first none true = g
    first none false =
        subst (λ o. IsGoodWorld (submit_as w n m o (sends b m.client m.client.local (identity (length (view b m.client)))))) (sym none)
        (edits-step w n _ g (good-first b w.pad w.taken w.edits n m gm none (fresh-number w g)) (sym (ap session_of i)))

    from : m.client.connected ≡ true → (o : Option Submission) → m.client.sent ≡ o → IsGoodWorld (submit_if w n m (submitted_from b m.client o))
    from conn None e = first e (is_identity m.client.local)
    from conn (Some s) e = again conn s e (is_session s.session m.client.session || nat_lt m.client.rev m.client.told) refl

    connected : (t : Bool) → m.client.connected ≡ t → IsGoodWorld (submit_if w n m (if t then submitted_from b m.client m.client.sent else None))
    connected true h = from h m.client.sent refl
    connected false h = g
