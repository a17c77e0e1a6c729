-- Takes: what is taken, and what is refused.
use Rattle.std.proofs.Common.{◌≡◌, ℕ, suc, ◌<◌, ◌≤◌, Bool, true, false, nat_lt, if◌then◌else◌, List, [], ◌∷◌, ◌++◌, ◌⊎◌, inl, inr, length, drop, Option, Some, None, Result, refl, sym, ap, ◌∙◌, subst, arith}
use Rattle.std.proofs.lemmas.List.{length-append, take-append-le}
use Rattle.ep_cs.specs.Doc.{Doc}
use Rattle.ep_cs.specs.Edit.{Edit, apply, identity}
use Rattle.ep_history.specs.Accept.{at_head, by_session, committed, edit_faults, seat_author}
use Rattle.ep_history.specs.History.{nop_by, nops_of, is_session, Birth, By, doc_at, head, head_doc, lacks_newline, newline_rev, nobody, rebase, rev_by, step_revs}
use Rattle.ep_history.specs.Lists.{Among, at, numbered}
use Rattle.ep_history.specs.Pad.{with_nops, with_revs, PadState, birth_at, leave, newest, seat_of}
use Rattle.ep_history.specs.declared.pad_bad.PadBad.TheVariants.{NoBase}
use Rattle.ep_schedule.specs.Headline.{AreNopsMarked, AreRevsMarked, IsMarked, IsMarkedRev, IsOneCarrier, IsByMaker, AreApart, IsRebased}
use Rattle.ep_schedule.proofs.Marks.{AreKnown, in-among}
use Rattle.ep_schedule.specs.World.{Actor, Conn, Member, Message, Name, Reason, Taken, Word, WorldState, author_of, closing, inject_by, mark, put, reason, refusal_word, overfull_by, overfull_first_guest, overfull_first_named, overfull_guest, overfull_named, refused_guest, refused_named, take_by, take_first_guest, take_first_named, take_guest, take_named, with_actor, with_conn, with_pad, with_up}
use Rattle.ep_schedule.specs.World.Word.{JournalFull}
use Rattle.ep_schedule.specs.World.Actor.{Guest, Named, Nobody}
use Rattle.ep_history.proofs.Lists.{none_some, some_same, at-below, at-grown, at-new, at-past}
use Rattle.ep_cs.proofs.EditFits.{IsFit}
use Rattle.ep_cs.proofs.Identity.{only_identity}
use Rattle.ep_history.proofs.Births.{IsTrueChange, longer, longer-doc, longer-rebase, longer-sound, numbered-newest, numbered-older, numbered-below}
use Rattle.ep_schedule.proofs.Good.{IsOf, Turn, own_nops, Ahead, IsKnown, Goes, as_taken, as_message, IsUntaken, IsGood, AreFresh, IsGoodGuest, IsGoodActor, session_of, IsGoodPad, IsGoodWorld, IsCarried, IsHeld, Leaves, leaves-same, assembled, live-put, at-name}
use Rattle.ep_history.proofs.Client.{next-doc}
use Rattle.ep_history.proofs.Births.{rebase-fits, revs-at, revs-newest, revs-count, noting, nops-newest, nops-at, nops-count, sound-noting}
use Rattle.ep_schedule.proofs.Clients.{edits-step, fresh-number, turn-quiet, is_same}
use Rattle.ep_schedule.proofs.Hears.{reason-none, good-closing, session-closing}
use Rattle.ep_history.proofs.Refused.{AreNone, refusal-live, not-if, not-less, no-bad, unrefused}
use Rattle.ep_schedule.proofs.Seats.{login-known, was-left, known-left, known-revs, revs-nops, known-nops, noted-pad, leaves-nops, at-step, grown-pad, leaves-revs}
use Rattle.ep_units.specs.declared.session.Session.{Session}
use Rattle.ep_cs.specs.Change.{Change}
use Rattle.ep_cs.specs.Fits.{is_identity}
use Rattle.ep_csread.specs.declared.bad.ReadBad.{ReadBad}
use Rattle.ep_history.specs.declared.nop.Nop.{Nop}
use Rattle.ep_cs.specs.Fitting.{fit_bad}
use Rattle.ep_history.specs.declared.rev.Rev.{Rev}
use Rattle.ep_history.specs.declared.seat.Seat.{Seat}
use Rattle.ep_history.specs.declared.submission.Submission.{Submission}

-- ---- what was not refused

-- what is taken is of a live session, on a revision that is there, and fits it
pub record IsAccepted (pad : PadState) (s : Session) (base : ℕ) (c : Change) : Type 0 where
  pub seat : Seat
  pub found : seat_of pad s ≡ Some seat
  pub live : seat.end ≡ None
  pub there : base ≤ head (newest pad)
  pub fit : IsFit c.edit (doc_at (newest pad) base)

pub accepted : (pad : PadState) (s : Session) (msg : Message) → reason pad s msg ≡ None → IsAccepted pad s msg.base msg.change
accepted pad s msg r =
    let t = reason-none pad s msg r in
    let l = refusal-live pad s msg.base msg.change t.1 in
    let f : AreNone (edit_faults pad l.0 msg.base msg.change) = l.3 in
    record {
      seat = l.0;
      found = l.1;
      live = l.2;
      there = not-less (head (newest pad)) msg.base (not-if (nat_lt (head (newest pad)) msg.base) (NoBase (head (newest pad))) f.1.0);
      fit = unrefused msg.change (doc_at (newest pad) msg.base) (no-bad (fit_bad msg.change (doc_at (newest pad) msg.base)) f.1.1.1.0) t.0;
    }

pub rebased-fits : (pad : PadState) (s : Session) (base : ℕ) (c : Change) → IsGoodPad pad → IsAccepted pad s base c → IsFit (rebase (newest pad) c.edit base (head (newest pad))) (head_doc (newest pad))
rebased-fits pad s base c g a = rebase-fits (newest pad) (g.births (length pad.births)) c.edit base a.fit (head (newest pad)) a.there (omega arith)

-- ---- what is taken

at-second : (xs : List Rev) (v : Rev) (ys : List Rev) → at (xs ++ v ∷ ys) (suc (length xs)) ≡ at ys 0
at-second [] v ys = refl
at-second (x ∷ xs) v ys = at-second xs v ys

second-rev : (xs : List Rev) (by : By) (e : Edit) (doc : Doc) → lacks_newline (apply e doc) ≡ true
    → at (xs ++ step_revs by e doc) (suc (length xs)) ≡ Some (newline_rev by.time (apply e doc))
second-rev xs by e doc n =
    at-second xs _ _
    ∙ ap (λ t. at (if t then newline_rev by.time (apply e doc) ∷ [] else []) 0) n

-- the pad and the mark, where it is known whether the edit becomes nothing
abbrev pub pad_as : Bool → PadState → Session → ℕ → Message → PadState
pad_as t pad s now msg =
    if t then with_nops pad (nop_by (by_session pad s now) (head (newest pad)) ∷ [])
    else with_revs pad (step_revs (by_session pad s now) (at_head pad msg.base msg.change.edit) (head_doc (newest pad)))

abbrev pub mark_as : Bool → PadState → Session → ℕ → Message → Taken
mark_as t pad s now msg = record {
  number = msg.number;
  birth = length pad.births;
  head = head (newest pad);
  base = msg.base;
  change = msg.change;
  by = by_session pad s now;
  nop = if t then Some (length (newest pad).nops) else None;
}

mark-rebased : (pad : PadState) (s : Session) (now : ℕ) (msg : Message) → 1 ≤ length pad.births → msg.base ≤ head (newest pad) → is_identity (at_head pad msg.base msg.change.edit) ≡ false
    → IsRebased (pad_as false pad s now msg) (mark_as false pad s now msg)
mark-rebased pad s now msg there l alters =
    let b = newest pad in
    let by = by_session pad s now in
    let e = at_head pad msg.base msg.change.edit in
    let vs = step_revs by e (head_doc b) in
    let is = revs-newest pad vs there in
    let p = sym (ap (λ c. rebase c msg.change.edit msg.base (head b)) is ∙ longer-rebase b vs msg.change.edit msg.base (head b) (omega arith)) in
    let q = sym (ap (λ c. doc_at c (head b)) is ∙ longer-doc b vs (head b) (omega arith)) in
    record {
      there = let n = length-append b.later vs in let m = ap (λ (c : Birth). length c.later) is in omega (arith, n, m);
      nopped = sym alters ∙ ap is_identity p;
      nothing = λ i o. none_some o;
      noted = λ i o. none_some o;
      edit = λ o. ap (λ (c : Birth). at c.later (head b)) is
          ∙ at-new b.later _ (rev_by by e (head_doc b))
          ∙ (λ i. Some (rev_by by (p i) (q i)));
      base = l;
      newline = λ o n.
          let d : doc_at (birth_at (pad_as false pad s now msg) (length pad.births)) (suc (head b)) ≡ apply e (head_doc b) =
          ap (λ c. doc_at c (suc (head b))) is
          ∙ next-doc (longer b vs) (head b) (rev_by by e (head_doc b)) (at-new b.later _ (rev_by by e (head_doc b)))
          ∙ ap (apply e) (longer-doc b vs (head b) (omega arith)) in
          ap (λ (c : Birth). at c.later (suc (head b))) is
          ∙ second-rev b.later by e (head_doc b) (ap lacks_newline (sym d) ∙ n)
          ∙ ap (λ x. Some (newline_rev now x)) (sym d);
    }

mark-noted : (pad : PadState) (s : Session) (now : ℕ) (msg : Message) → 1 ≤ length pad.births → msg.base ≤ head (newest pad) → IsFit (at_head pad msg.base msg.change.edit) (head_doc (newest pad))
    → is_identity (at_head pad msg.base msg.change.edit) ≡ true → IsRebased (pad_as true pad s now msg) (mark_as true pad s now msg)
mark-noted pad s now msg there l f nothing =
    let b = newest pad in
    let x = nop_by (by_session pad s now) (head b) in
    let is = nops-newest pad (x ∷ []) there in
    let p = sym (ap (λ c. rebase c msg.change.edit msg.base (head b)) is) in
    record {
      there = let m = ap (λ (c : Birth). length c.later) is in omega (arith, m);
      nopped = sym nothing ∙ ap is_identity p;
      nothing = λ i o. sym p ∙ only_identity (at_head pad msg.base msg.change.edit) nothing ∙ ap identity (sym f.long) ∙ ap (λ c. identity (length (doc_at c (head b)))) (sym is);
      noted = λ i o. ap (λ (c : Birth). at c.nops i) is ∙ ap (λ k. at (b.nops ++ x ∷ []) k) (sym (some_same o)) ∙ at-new b.nops [] x;
      edit = λ o. none_some (sym o);
      base = l;
      newline = λ o n. none_some (sym o);
    }

-- no older mark is of the revision behind the head, or of what is noted next
one-back : (t u : Taken) → IsOneCarrier t u → IsOneCarrier u t
one-back t u (inl z) = inl (z.1, z.0, sym z.2)
one-back t u (inr z) = inr (z.0, z.2, z.1)

mark-past : (t : Bool) (w : WorldState) (s : Session) (now : ℕ) (msg : Message) → IsGoodWorld w → (u : Taken) → Among u w.taken → length w.pad.births ≡ u.birth → IsOneCarrier (mark_as t w.pad s now msg) u → ⊥
mark-past false w s now msg g u q b (inl z) =
    let l = at-below (birth_at w.pad u.birth).later u.head _ ((g.rebased u q).edit z.1) in
    let k : head (newest w.pad) ≡ head (birth_at w.pad u.birth) = ap (λ k. head (birth_at w.pad k)) b in
    let h = z.2 in
    omega (arith, l, k, h)
mark-past false w s now msg g u q b (inr z) = none_some z.1
mark-past true w s now msg g u q b (inl z) = none_some (sym z.0)
mark-past true w s now msg g u q b (inr z) =
    let l = at-below (birth_at w.pad u.birth).nops z.0 _ ((g.rebased u q).noted z.0 z.2) in
    let k : length (newest w.pad).nops ≡ length (birth_at w.pad u.birth).nops = ap (λ k. length (birth_at w.pad k).nops) b in
    let h : length (newest w.pad).nops ≡ z.0 = some_same z.1 in
    omega (arith, l, k, h)

mark-apart : (m : Bool) (w : WorldState) (s : Session) (now : ℕ) (msg : Message) → IsGoodWorld w → AreApart (mark_as m w.pad s now msg ∷ w.taken)
mark-apart m w s now msg g t u (inl p) (inl q) hb hh = p ∙ sym q
mark-apart m w s now msg g t u (inl p) (inr q) hb hh = absurd (mark-past m w s now msg g u q (sym (ap (λ (x : Taken). x.birth) p) ∙ hb) (subst (λ x. IsOneCarrier x u) p hh))
mark-apart m w s now msg g t u (inr p) (inl q) hb hh = absurd (mark-past m w s now msg g t p (sym (ap (λ (x : Taken). x.birth) q) ∙ sym hb) (subst (λ x. IsOneCarrier x t) q (one-back t u hh)))
mark-apart m w s now msg g t u (inr p) (inr q) hb hh = g.apart t u p q hb hh

-- what is noted has a mark
still-marked : (ts : List Taken) (u : Taken) (k i : ℕ) → IsMarked ts k i → IsMarked (u ∷ ts) k i
still-marked ts u k i m = (m.0, inr m.1, m.2, m.3)

mark-noting : (w : WorldState) (s : Session) (now : ℕ) (msg : Message) → IsGoodWorld w → AreNopsMarked (pad_as true w.pad s now msg) (mark_as true w.pad s now msg ∷ w.taken)
mark-noting w s now msg g k i x h = go (nops-at w.pad (nop_by (by_session w.pad s now) (head (newest w.pad)) ∷ []) k)
  where
    new : (k ≡ length w.pad.births) → at ((birth_at w.pad k).nops ++ nop_by (by_session w.pad s now) (head (newest w.pad)) ∷ []) i ≡ Some x
        → (at (birth_at w.pad k).nops i ≡ Some x) ⊎ ((length (birth_at w.pad k).nops ≤ i) × Among x (nop_by (by_session w.pad s now) (head (newest w.pad)) ∷ [])) → IsMarked (mark_as true w.pad s now msg ∷ w.taken) k i
    new p e (inl o) = still-marked w.taken (mark_as true w.pad s now msg) k i (g.marked.0 k i x o)
    new p e (inr o) =
        let l = at-below ((birth_at w.pad k).nops ++ nop_by (by_session w.pad s now) (head (newest w.pad)) ∷ []) i x e in
        let n = length-append (birth_at w.pad k).nops (nop_by (by_session w.pad s now) (head (newest w.pad)) ∷ []) in
        let c : length (newest w.pad).nops ≡ length (birth_at w.pad k).nops = ap (λ j. length (birth_at w.pad j).nops) (sym p) in
        let m = o.0 in
        let q : length (newest w.pad).nops ≡ i = omega (arith, l, n, c, m) in
        (mark_as true w.pad s now msg, inl refl, sym p, ap Some q)

    go : ((1 ≤ length w.pad.births) × (k ≡ length w.pad.births) × (birth_at (with_nops w.pad (nop_by (by_session w.pad s now) (head (newest w.pad)) ∷ [])) k ≡ noting (birth_at w.pad k) (nop_by (by_session w.pad s now) (head (newest w.pad)) ∷ [])))
        ⊎ (birth_at (with_nops w.pad (nop_by (by_session w.pad s now) (head (newest w.pad)) ∷ [])) k ≡ birth_at w.pad k) → IsMarked (mark_as true w.pad s now msg ∷ w.taken) k i
    go (inl z) = let e = ap (λ (b : Birth). at b.nops i) (sym z.2) ∙ h in new z.1 e (at-grown (birth_at w.pad k).nops _ i x e)
    go (inr z) = still-marked w.taken (mark_as true w.pad s now msg) k i (g.marked.0 k i x (ap (λ (b : Birth). at b.nops i) (sym z) ∙ h))

-- so has each revision of a session
still-marked-rev : (ts : List Taken) (u : Taken) (k i : ℕ) (v : Rev) → (v.session ≡ nobody) ⊎ IsMarkedRev ts k i → (v.session ≡ nobody) ⊎ IsMarkedRev (u ∷ ts) k i
still-marked-rev ts u k i v (inl z) = inl z
still-marked-rev ts u k i v (inr m) = inr (m.0, inr m.1, m.2, m.3, m.4)

revs-noting : (w : WorldState) (s : Session) (now : ℕ) (msg : Message) → IsGoodWorld w → AreRevsMarked (pad_as true w.pad s now msg) (mark_as true w.pad s now msg ∷ w.taken)
revs-noting w s now msg g k i v h = go (nops-at w.pad xs k)
  where
    xs : List Nop
    xs = nop_by (by_session w.pad s now) (head (newest w.pad)) ∷ []

    old : at (birth_at w.pad k).later i ≡ Some v → (v.session ≡ nobody) ⊎ IsMarkedRev (mark_as true w.pad s now msg ∷ w.taken) k i
    old e = still-marked-rev w.taken (mark_as true w.pad s now msg) k i v (g.marked.1 k i v e)

    go : ((1 ≤ length w.pad.births) × (k ≡ length w.pad.births) × (birth_at (with_nops w.pad xs) k ≡ noting (birth_at w.pad k) xs)) ⊎ (birth_at (with_nops w.pad xs) k ≡ birth_at w.pad k)
        → (v.session ≡ nobody) ⊎ IsMarkedRev (mark_as true w.pad s now msg ∷ w.taken) k i
    go (inl z) = old (sym (ap (λ (b : Birth). at b.later i) z.2) ∙ h)
    go (inr z) = old (sym (ap (λ (b : Birth). at b.later i) z) ∙ h)

revs-marked : (w : WorldState) (s : Session) (now : ℕ) (msg : Message) → IsGoodWorld w → AreRevsMarked (pad_as false w.pad s now msg) (mark_as false w.pad s now msg ∷ w.taken)
revs-marked w s now msg g k i v h = go (revs-at w.pad vs k)
  where
    e : Edit
    e = at_head w.pad msg.base msg.change.edit

    doc : Doc
    doc = head_doc (newest w.pad)

    vs : List Rev
    vs = step_revs (by_session w.pad s now) e doc

    old : at (birth_at w.pad k).later i ≡ Some v → (v.session ≡ nobody) ⊎ IsMarkedRev (mark_as false w.pad s now msg ∷ w.taken) k i
    old h = still-marked-rev w.taken (mark_as false w.pad s now msg) k i v (g.marked.1 k i v h)

    nobodys : (t : Bool) → Among v (if t then newline_rev now (apply e doc) ∷ [] else []) → v.session ≡ nobody
    nobodys true (inl z) = ap (λ (v : Rev). v.session) z
    nobodys true (inr z) = absurd z
    nobodys false z = absurd z

    grown : k ≡ length w.pad.births → (at (birth_at w.pad k).later i ≡ Some v) ⊎ (((i ≡ head (birth_at w.pad k)) × (v ≡ rev_by (by_session w.pad s now) e doc)) ⊎ Among v (if lacks_newline (apply e doc) then newline_rev now (apply e doc) ∷ [] else []))
        → (v.session ≡ nobody) ⊎ IsMarkedRev (mark_as false w.pad s now msg ∷ w.taken) k i
    grown p (inl o) = old o
    grown p (inr (inl o)) = inr (mark_as false w.pad s now msg, inl refl, sym p, ap (λ j. head (birth_at w.pad j)) (sym p) ∙ sym o.0, refl)
    grown p (inr (inr o)) = inl (nobodys (lacks_newline (apply e doc)) o)

    go : ((1 ≤ length w.pad.births) × (k ≡ length w.pad.births) × (birth_at (with_revs w.pad vs) k ≡ longer (birth_at w.pad k) vs)) ⊎ (birth_at (with_revs w.pad vs) k ≡ birth_at w.pad k)
        → (v.session ≡ nobody) ⊎ IsMarkedRev (mark_as false w.pad s now msg ∷ w.taken) k i
    go (inl z) = grown z.1 (at-past (birth_at w.pad k).later _ _ i v (sym (ap (λ (b : Birth). at b.later i) z.2) ∙ h))
    go (inr z) = old (sym (ap (λ (b : Birth). at b.later i) z) ∙ h)

-- a session that was made is not nobody's
known-somebody : (pad : PadState) (s : Session) → IsKnown pad s → s ≡ nobody → ⊥
known-somebody pad s k e = let h : s.epoch ≡ 0 = ap (λ (u : Session). u.epoch) e in let l = k.made in omega (arith, h, l)

taking-as : (t : Bool) (w : WorldState) (n : Name) (a : Actor) (s : Session) (now : ℕ) (msg : Message) (known : List ℕ) → is_identity (at_head w.pad msg.base msg.change.edit) ≡ t
    → IsGoodWorld w → (acc : IsAccepted w.pad s msg.base msg.change) → acc.seat.author ≡ author_of n
    → IsUntaken w.taken msg.number → numbered w.edits msg.number ≡ Some n
    → IsGoodActor (pad_as t w.pad s now msg) (mark_as t w.pad s now msg ∷ w.taken) w.edits n a → session_of a ≡ session_of (w.actors n)
    → AreKnown known (mark_as t w.pad s now msg ∷ w.taken)
    → IsGoodWorld (record { id = w.id; pad = pad_as t w.pad s now msg; actors = put w.actors n a; edits = w.edits; taken = mark_as t w.pad s now msg ∷ w.taken; known = known })
taking-as t w n a s now msg known nothing g acc name fresh own ga same kn = go t nothing ga kn
  where
    there : 1 ≤ length w.pad.births
    there = g.pad.present (g.pad.live s acc.seat acc.found acc.live)

    new : (t : Bool) (x : Taken) → (x ≡ mark_as t w.pad s now msg) ⊎ Among x w.taken → Among x w.taken ⊎ (numbered w.edits x.number ≡ Some n)
    new t x (inl e) = inr (ap (λ (x : Taken). numbered w.edits x.number) e ∙ own)
    new t x (inr h) = inl h

    known_s : IsKnown w.pad s
    known_s = login-known w.pad s acc.seat g.pad.epoch acc.found

    fit : IsFit (at_head w.pad msg.base msg.change.edit) (head_doc (newest w.pad))
    fit = rebased-fits w.pad s msg.base msg.change g.pad acc

    rebased : (t : Bool) (pad : PadState) → IsRebased pad (mark_as t w.pad s now msg) → length w.pad.births ≤ length pad.births
        → (x : Taken) → (x ≡ mark_as t w.pad s now msg) ⊎ Among x w.taken → Among x w.taken ⊎ (IsRebased pad x × (x.birth ≤ length pad.births) × IsByMaker w.edits x)
    rebased t pad r c x (inl e) = inr (subst (λ x. IsRebased pad x × (x.birth ≤ length pad.births) × IsByMaker w.edits x) (sym e) (r, c, (n, own, ap seat_author acc.found ∙ name)))
    rebased t pad r c x (inr h) = inl h

    go : (t : Bool) → is_identity (at_head w.pad msg.base msg.change.edit) ≡ t → IsGoodActor (pad_as t w.pad s now msg) (mark_as t w.pad s now msg ∷ w.taken) w.edits n a → AreKnown known (mark_as t w.pad s now msg ∷ w.taken)
        → IsGoodWorld (record { id = w.id; pad = pad_as t w.pad s now msg; actors = put w.actors n a; edits = w.edits; taken = mark_as t w.pad s now msg ∷ w.taken; known = known })
    go false nothing ga kn = assembled w n a (pad_as false w.pad s now msg) (mark_as false w.pad s now msg ∷ w.taken) w.edits known g (record {
      leaves = leaves-revs w.pad w.taken w.edits (mark_as false w.pad s now msg ∷ w.taken) n (by_session w.pad s now) (at_head w.pad msg.base msg.change.edit) (head_doc (newest w.pad)) (inr (acc.seat, acc.found, acc.live, name)) (new false) (λ t h. inr h);
      good_pad = grown-pad w.pad (by_session w.pad s now) (at_head w.pad msg.base msg.change.edit) g.pad there fit (inr known_s) (λ z h. known-somebody w.pad s known_s z);
      actor = ga;
      live = live-put w n a g same;
      once = (λ h. let r = in-among w.taken msg.number h in fresh r.0 r.1 r.2, g.once);
      apart = mark-apart false w s now msg g;
      marked = (λ k i x h. still-marked w.taken (mark_as false w.pad s now msg) k i (g.marked.0 k i x (revs-nops w.pad _ k i x h)), revs-marked w s now msg g);
      new_rebased = rebased false (pad_as false w.pad s now msg) (mark-rebased w.pad s now msg there acc.there nothing)
          (let c = revs-count w.pad (step_revs (by_session w.pad s now) (at_head w.pad msg.base msg.change.edit) (head_doc (newest w.pad))) in omega (arith, c));
      all_known = kn;
    })
    go true nothing ga kn = assembled w n a (pad_as true w.pad s now msg) (mark_as true w.pad s now msg ∷ w.taken) w.edits known g (record {
      leaves = leaves-nops w.pad w.taken w.edits (mark_as true w.pad s now msg ∷ w.taken) n (nop_by (by_session w.pad s now) (head (newest w.pad))) (inr (acc.seat, acc.found, acc.live, name)) (new true) (λ t h. inr h);
      good_pad = noted-pad w.pad (nop_by (by_session w.pad s now) (head (newest w.pad))) g.pad known_s;
      actor = ga;
      live = live-put w n a g same;
      once = (λ h. let r = in-among w.taken msg.number h in fresh r.0 r.1 r.2, g.once);
      apart = mark-apart true w s now msg g;
      marked = (mark-noting w s now msg g, revs-noting w s now msg g);
      new_rebased = rebased true (pad_as true w.pad s now msg) (mark-noted w.pad s now msg there acc.there fit nothing)
          (let c = nops-count w.pad (nop_by (by_session w.pad s now) (head (newest w.pad)) ∷ []) in omega (arith, c));
      all_known = kn;
    })

pub taking-good : (w : WorldState) (n : Name) (a : Actor) (s : Session) (now : ℕ) (msg : Message) (known : List ℕ)
    → IsGoodWorld w → (acc : IsAccepted w.pad s msg.base msg.change) → acc.seat.author ≡ author_of n
    → IsUntaken w.taken msg.number → numbered w.edits msg.number ≡ Some n
    → ((t : Bool) → IsGoodActor (pad_as t w.pad s now msg) (mark_as t w.pad s now msg ∷ w.taken) w.edits n a) → session_of a ≡ session_of (w.actors n)
    → AreKnown known (mark w.pad s now msg ∷ w.taken)
    → IsGoodWorld (record { id = w.id; pad = committed w.pad s now msg.base msg.change; actors = put w.actors n a; edits = w.edits; taken = mark w.pad s now msg ∷ w.taken; known = known })
taking-good w n a s now msg known g acc name fresh own ga same kn =
    taking-as (is_identity (at_head w.pad msg.base msg.change.edit)) w n a s now msg known refl g acc name fresh own (ga (is_identity (at_head w.pad msg.base msg.change.edit))) same kn

pub knows-mark : (w : WorldState) (s : Session) (now : ℕ) (msg : Message) → IsGoodWorld w → AreKnown (msg.number ∷ w.known) (mark w.pad s now msg ∷ w.taken)
knows-mark w s now msg g number (inl e) = inl (sym e)
knows-mark w s now msg g number (inr h) = inr (g.known number h)

cons_nil : {A : Type 0} {x : A} {xs : List A} {Z : Type 0} → ◌≡◌ {A = List A} (x ∷ xs) [] → Z
cons_nil e = absurd (cc e)

-- the client whose submission is taken
module _ (pad : PadState) (taken : List Taken) (edits : List Name) (n : Name) (m : Member) (g : IsGood (newest pad) pad taken edits n m) (hb : m.birth ≡ length pad.births)
    (s : Submission) (is : m.client.sent ≡ Some s) (own : s.session ≡ m.client.session) (q : m.conn.up ≡ as_message m s ∷ []) (fresh : IsUntaken taken m.number)
    (now : ℕ) (au : seat_author (seat_of pad m.conn.session) ≡ author_of n) where
  carried-none : (t : Submission) → m.client.sent ≡ Some t → (i : ℕ) (v : Rev) → m.client.rev ≤ i → at (newest pad).later i ≡ Some v → v.session ≡ t.session → ⊥
  carried-none t f i v l e h = cons_nil (sym q ∙ (g.carried t f i v l e h).0)

  same : (t : Submission) → m.client.sent ≡ Some t → t ≡ s
  same t f = some_same (sym f ∙ is)

  quiet : Turn (newest pad) taken m → (m.conn.nops ≡ length (own_nops (newest pad) m)) × Goes m.conn.closed (Ahead (newest pad) m) m.conn.down
  quiet t = turn-quiet (newest pad) taken m t (λ p. cons_nil (sym q ∙ p.3))

  of-mark : (o : Bool) → ((mark_as o pad m.conn.session now (as_message m s)).nop ≡ None → m.client.rev ≤ head (newest pad)) → (t : Submission) → m.client.sent ≡ Some t
      → (u : Taken) → (u ≡ mark_as o pad m.conn.session now (as_message m s)) ⊎ Among u taken → u.number ≡ m.number → IsOf m t u
  of-mark o r t f u (inl p) e =
      let st = sym (same t f) in (
        ap (λ (x : Taken). x.birth) p ∙ sym hb,
        ap (λ (x : Taken). x.by.session) p ∙ sym g.current ∙ sym own ∙ ap (λ (x : Submission). x.session) st,
        ap (λ (x : Taken). x.change) p ∙ ap (λ (x : Submission). x.change) st,
        ap (λ (x : Taken). x.base) p ∙ ap (λ (x : Submission). x.base) st,
        (λ z. subst (λ k. m.client.rev ≤ k) (sym (ap (λ (x : Taken). x.head) p)) (r (sym (ap (λ (x : Taken). x.nop) p) ∙ z))),
        (λ c. absurd (c (ap (λ (x : Submission). x.session) (same t f) ∙ own))),
      )
  of-mark o r t f u (inr h) e = absurd (fresh u h e)

  pub good-taken : IsGood (longer (newest pad) (step_revs (by_session pad m.conn.session now) (rebase (newest pad) s.change.edit s.base (head (newest pad))) (head_doc (newest pad))))
      (pad_as false pad m.conn.session now (as_message m s)) (mark_as false pad m.conn.session now (as_message m s) ∷ taken) edits n (with_conn m (with_up m.conn []))
  good-taken = record {
    birth = let c = revs-count pad (step_revs (by_session pad m.conn.session now) (rebase (newest pad) s.change.edit s.base (head (newest pad))) (head_doc (newest pad))) in omega (arith, hb, c);
    sound = longer-sound (newest pad) _ m.client g.sound;
    told = let l = g.told in let h = length-append (newest pad).later (step_revs (by_session pad m.conn.session now) (rebase (newest pad) s.change.edit s.base (head (newest pad))) (head_doc (newest pad))) in omega (arith, l, h);
    current = g.current;
    known = known-revs pad _ m.client.session g.known;
    mine = g.mine;
    writes = g.writes;
    newest = λ l e h. let c = revs-count pad (step_revs (by_session pad m.conn.session now) (rebase (newest pad) s.change.edit s.base (head (newest pad))) (head_doc (newest pad))) in hb ∙ sym c;
    sent_known = λ t e. known-revs pad _ t.session (g.sent_known t e);
    sent_mine = g.sent_mine;
    sent_fits = λ t e. subst (λ doc. IsTrueChange t.change doc) (sym (longer-doc (newest pad) _ t.base (let l = g.sound.base t e in let h = g.sound.rev in omega (arith, l, h)))) (g.sent_fits t e);
    number = g.number;
    unheard = λ i v l e h. (s, is, own);
    carried = λ t f i v l e h. carries t f i v l h (at-grown (newest pad).later _ i v e) e;
    taken_unheard = of-mark false (λ o. g.sound.rev);
    dropped = λ c z t f o. absurd (o (ap (λ (x : Submission). x.session) (same t f) ∙ own));
    up = inl refl;
    sent_rev = λ c. let h = length-append (newest pad).later (step_revs (by_session pad m.conn.session now) (rebase (newest pad) s.change.edit s.base (head (newest pad))) (head_doc (newest pad))) in let p = g.sent_rev c in let l = p.1 in (p.0, omega (arith, l, h));
    down = λ c. inl ((quiet (g.down c)).0, subst (λ us. Goes m.conn.closed (drop m.client.rev us) m.conn.down) (sym (take-append-le m.conn.sent (newest pad).later _ (g.sent_rev c).1)) (quiet (g.down c)).1);
    lost = g.lost;
    earlier_known = λ e h. known-revs pad _ e.session (g.earlier_known e h);
    earlier_mine = g.earlier_mine;
    earlier_other = g.earlier_other;
  }
    where
      not-nobody : (t : Submission) → m.client.sent ≡ Some t → (v : Rev) → v.session ≡ t.session → v.session ≡ nobody → ⊥
      not-nobody t f v h e =
          let k = (g.sent_known t f).made in
          let z : t.session.epoch ≡ 0 = ap (λ (u : Session). u.epoch) (sym h ∙ e) in
          omega (arith, k, z)

      here : (t : Submission) → m.client.sent ≡ Some t → (i : ℕ) → i ≡ head (newest pad) → as_taken n m i t now ≡ mark_as false pad m.conn.session now (as_message m s)
      here t f i z =
          let p = same t f in
          let ss : t.session ≡ m.conn.session = ap (λ (x : Submission). x.session) p ∙ own ∙ g.current in
          λ j. record { number = m.number; birth = hb j; head = z j; base = (p j).base; change = (p j).change; by = record { author = sym au j; session = ss j; time = now }; nop = None }

      new : (t : Submission) → m.client.sent ≡ Some t → (i : ℕ) (v : Rev) → v.session ≡ t.session → ((i ≡ length (newest pad).later) × (v ≡ rev_by (by_session pad m.conn.session now) (rebase (newest pad) s.change.edit s.base (head (newest pad))) (head_doc (newest pad)))) ⊎ ((v.session ≡ nobody) × (i ≡ suc (length (newest pad).later)) × (lacks_newline (apply (rebase (newest pad) s.change.edit s.base (head (newest pad))) (head_doc (newest pad))) ≡ true))
          → (◌≡◌ {A = List Message} [] []) × IsCarried (mark_as false pad m.conn.session now (as_message m s) ∷ taken) n m i t × ((t.session ≡ m.client.session → ⊥) → i < m.client.told)
      new t f i v h (inl z) = (refl, (now, inl (here t f i z.0)), λ c. absurd (c (ap (λ (x : Submission). x.session) (same t f) ∙ own)))
      new t f i v h (inr z) = absurd (not-nobody t f v h z.0)

      carries : (t : Submission) → m.client.sent ≡ Some t → (i : ℕ) (v : Rev) → m.client.rev ≤ i → v.session ≡ t.session
          → (at (newest pad).later i ≡ Some v) ⊎ ((length (newest pad).later ≤ i) × Among v (step_revs (by_session pad m.conn.session now) (rebase (newest pad) s.change.edit s.base (head (newest pad))) (head_doc (newest pad))))
          → at ((newest pad).later ++ step_revs (by_session pad m.conn.session now) (rebase (newest pad) s.change.edit s.base (head (newest pad))) (head_doc (newest pad))) i ≡ Some v
          → (◌≡◌ {A = List Message} [] []) × IsCarried (mark_as false pad m.conn.session now (as_message m s) ∷ taken) n m i t × ((t.session ≡ m.client.session → ⊥) → i < m.client.told)
      carries t f i v l h (inl o) e = absurd (carried-none t f i v l o h)
      carries t f i v l h (inr o) e = new t f i v h (at-step (newest pad).later (by_session pad m.conn.session now) _ _ i v o.0 e)

  abbrev this_nop : Nop
  this_nop = nop_by (by_session pad m.conn.session now) (head (newest pad))

  nops-own : own_nops (noting (newest pad) (this_nop ∷ [])) m ≡ own_nops (newest pad) m ++ this_nop ∷ []
  nops-own = go (newest pad).nops
    where
      last : nops_of m.client.session (this_nop ∷ []) ≡ this_nop ∷ []
      last = ap (λ t. if t then this_nop ∷ [] else []) (is_same m.conn.session m.client.session (sym g.current))

      go : (ys : List Nop) → nops_of m.client.session (ys ++ this_nop ∷ []) ≡ nops_of m.client.session ys ++ this_nop ∷ []
      go [] = last
      go (y ∷ ys) = ap (λ zs. if is_session y.session m.client.session then y ∷ zs else zs) (go ys) ∙ out (is_session y.session m.client.session) y (nops_of m.client.session ys)
        where
          out : (t : Bool) (y : Nop) (ys : List Nop) → (if t then y ∷ (ys ++ this_nop ∷ []) else (ys ++ this_nop ∷ [])) ≡ (if t then y ∷ ys else ys) ++ this_nop ∷ []
          out true y ys = refl
          out false y ys = refl

  pub good-noted : IsGood (noting (newest pad) (nop_by (by_session pad m.conn.session now) (head (newest pad)) ∷ []))
      (pad_as true pad m.conn.session now (as_message m s)) (mark_as true pad m.conn.session now (as_message m s) ∷ taken) edits n (with_conn m (with_up m.conn []))
  good-noted = record {
    birth = let c = nops-count pad (this_nop ∷ []) in omega (arith, hb, c);
    sound = sound-noting (newest pad) _ m.client g.sound;
    told = g.told;
    current = g.current;
    known = known-nops pad _ m.client.session g.known;
    mine = g.mine;
    writes = g.writes;
    newest = λ l e h. let c = nops-count pad (this_nop ∷ []) in hb ∙ sym c;
    sent_known = λ t e. known-nops pad _ t.session (g.sent_known t e);
    sent_mine = g.sent_mine;
    sent_fits = g.sent_fits;
    number = g.number;
    unheard = λ i v l e h. (s, is, own);
    carried = λ t f i v l e h. absurd (carried-none t f i v l e h);
    taken_unheard = of-mark true (λ o. none_some (sym o));
    dropped = g.dropped;
    up = inl refl;
    sent_rev = g.sent_rev;
    down = λ c. inr (inl (
      (let z = (quiet (g.down c)).0 in let l = ap (λ (xs : List Nop). length xs) nops-own in let k = length-append (own_nops (newest pad) m) (this_nop ∷ []) in omega (arith, z, l, k)),
      (quiet (g.down c)).1,
      (
        (s, is, own, refl, (mark_as true pad m.conn.session now (as_message m s), inl refl, refl, (length (newest pad).nops, refl))),
        this_nop,
        ap (λ xs. at xs m.conn.nops) nops-own ∙ ap (λ k. at (own_nops (newest pad) m ++ this_nop ∷ []) k) (quiet (g.down c)).0 ∙ at-new (own_nops (newest pad) m) [] this_nop,
        (g.sent_rev c).1,
        refl,
      ),
    ));
    lost = g.lost;
    earlier_known = λ e h. known-nops pad _ e.session (g.earlier_known e h);
    earlier_mine = g.earlier_mine;
    earlier_other = g.earlier_other;
  }

-- a guest's message is taken
fresh-after : (t : Bool) (pad : PadState) (s : Session) (now : ℕ) (taken : List Taken) (edits : List Name) (n : Name) (msg : Message) (up : List Message)
    → ((other : Message) → Among other up → other.number ≡ msg.number → ⊥) → AreFresh taken edits n up → AreFresh (mark_as t pad s now msg ∷ taken) edits n up
fresh-after t pad s now taken edits n msg [] d f = tt
fresh-after t pad s now taken edits n msg (o ∷ up) d f =
    (f.0, λ t h e. untaken t h e, f.2, fresh-after t pad s now taken edits n msg up (λ x h. d x (inr h)) f.3)
  where
    untaken : (u : Taken) → (u ≡ mark_as t pad s now msg) ⊎ Among u taken → u.number ≡ o.number → ⊥
    untaken u (inl p) e = d o (inl refl) (sym e ∙ ap (λ (x : Taken). x.number) p)
    untaken u (inr h) e = f.1 u h e

-- ---- what is refused

leaves-left : (w : WorldState) (n : Name) (s : Session) → Leaves w.pad w.taken w.edits (leave w.pad s) w.taken w.edits n
leaves-left w n s = let f = leaves-same w.pad w.taken w.edits n in record {
  grew = λ k h. let r = f.grew k h in record { more = r.more; notes = r.notes; is = r.is; by = r.by; noted_by = r.noted_by };
  count = omega arith;
  newest = λ t l e h k. refl;
  seats = λ t l k e. was-left w.pad s t l e;
  known = λ t k. known-left w.pad s t k;
  owned = f.owned;
  new_taken = f.new_taken;
  old_taken = f.old_taken;
}

left-pad : (pad : PadState) (s : Session) → IsGoodPad pad → IsGoodPad (leave pad s)
left-pad pad s g = record {
  epoch = g.epoch;
  births = g.births;
  present = g.present;
  live = λ t l e h. let o = was-left pad s t l e in g.live t o.old o.found (o.end h);
  made = λ k i v h. go v (g.made k i v h);
  noted = λ k x h. known-left pad s x.session (g.noted k x h);
  line = g.line;
  newlines = g.newlines;
}
  where
    go : (v : Rev) → (v.session ≡ nobody) ⊎ IsKnown pad v.session → (v.session ≡ nobody) ⊎ IsKnown (leave pad s) v.session
    go v (inl h) = inl h
    go v (inr h) = inr (known-left pad s v.session h)

left-live : (w : WorldState) (n : Name) (a : Actor) (s : Session) → IsGoodWorld w → session_of a ≡ session_of (w.actors n)
    → (t : Session) (l : Seat) → seat_of (leave w.pad s) t ≡ Some l → l.end ≡ None → IsHeld (put w.actors n a) t l
left-live w n a s g same t l e h =
    let o = was-left w.pad s t l e in
    let r = live-put w n a g same t o.old o.found (o.end h) in
    (r.0, sym o.author ∙ r.1, r.2)

refused-step : (w : WorldState) (n : Name) (a : Actor) (s : Session) → IsGoodWorld w → IsGoodActor (leave w.pad s) w.taken w.edits n a → session_of a ≡ session_of (w.actors n)
    → IsGoodWorld (with_actor (with_pad w (leave w.pad s)) n a)
refused-step w n a s g ga same = assembled w n a (leave w.pad s) w.taken w.edits w.known g (record {
  leaves = leaves-left w n s;
  good_pad = left-pad w.pad s g.pad;
  actor = ga;
  live = left-live w n a s g same;
  once = g.once;
  apart = g.apart;
  marked = g.marked;
  new_rebased = λ t h. inl h;
  all_known = g.known;
})

-- its queue up is empty behind the one message that was refused
good-left : (b : Birth) (pad : PadState) (taken : List Taken) (edits : List Name) (n : Name) (m : Member) (t : Session)
    → IsGood b pad taken edits n m → IsGood b (leave pad t) taken edits n (with_conn m (with_up m.conn []))
good-left b pad taken edits n m t g = record {
  birth = g.birth;
  sound = g.sound;
  told = g.told;
  current = g.current;
  known = known-left pad t m.client.session g.known;
  mine = λ l e. let o = was-left pad t m.client.session l e in sym o.author ∙ g.mine o.old o.found;
  writes = λ l e. let o = was-left pad t m.client.session l e in sym o.read_only ∙ g.writes o.old o.found;
  newest = λ l e h. let o = was-left pad t m.client.session l e in g.newest o.old o.found (o.end h);
  sent_known = λ s e. known-left pad t s.session (g.sent_known s e);
  sent_mine = λ s e l h. let o = was-left pad t s.session l h in sym o.author ∙ g.sent_mine s e o.old o.found;
  sent_fits = g.sent_fits;
  number = g.number;
  unheard = g.unheard;
  carried = λ s f i v l e h. let c = g.carried s f i v l e h in (refl, c.1, c.2);
  taken_unheard = g.taken_unheard;
  dropped = g.dropped;
  up = inl refl;
  sent_rev = g.sent_rev;
  down = λ c. cleared (g.down c);
  lost = g.lost;
  earlier_known = λ e h. known-left pad t e.session (g.earlier_known e h);
  earlier_mine = λ e h l i. let o = was-left pad t e.session l i in sym o.author ∙ g.earlier_mine e h o.old o.found;
  earlier_other = g.earlier_other;
}
  where
    cleared : Turn b taken m → Turn b taken (with_conn m (with_up m.conn []))
    cleared (inl x) = inl x
    cleared (inr (inl x)) = let p = x.2.0 in inr (inl (x.0, x.1, ((p.0, p.1, p.2, refl, p.4), x.2.1, x.2.2, x.2.3, x.2.4)))
    cleared (inr (inr x)) = let p = x.1.0 in inr (inr (x.0, ((p.0, p.1, p.2, refl, p.4), x.1.1, x.1.2, x.1.3)))

-- a guest's first message is refused
refused-guest-good : (w : WorldState) (n : Name) (c : Conn) (msg : Message) (up : List Message) → IsGoodWorld w → w.actors n ≡ Guest c → c.up ≡ msg ∷ up → IsGoodWorld (refused_guest w n (with_up c up))
refused-guest-good w n c msg up g i q =
    let gc : IsGoodGuest w.pad w.taken w.edits n c = at-name w n (Guest c) g i in
    refused-step w n (Guest (with_up c up)) c.session g
    (record {
      known = known-left w.pad c.session c.session gc.known;
      mine = λ l e. let o = was-left w.pad c.session c.session l e in sym o.author ∙ gc.mine o.old o.found;
      up = (subst (λ us. AreFresh w.taken w.edits n us) q gc.up).3;
    }) (sym (ap session_of i))

-- ---- takes

only : (b : Birth) (pad : PadState) (taken : List Taken) (edits : List Name) (n : Name) (m : Member) (msg : Message) (up : List Message) → IsGood b pad taken edits n m → m.conn.up ≡ msg ∷ up
    → (s : Submission) × (m.client.sent ≡ Some s) × (s.session ≡ m.client.session) × (msg ≡ as_message m s) × (up ≡ []) × IsUntaken taken m.number
only b pad taken edits n m msg up g q = go g.up
  where
    go : (m.conn.up ≡ []) ⊎ ((s : Submission) × (m.client.sent ≡ Some s) × (s.session ≡ m.client.session) × (m.conn.up ≡ as_message m s ∷ []) × IsUntaken taken m.number)
        → (s : Submission) × (m.client.sent ≡ Some s) × (s.session ≡ m.client.session) × (msg ≡ as_message m s) × (up ≡ []) × IsUntaken taken m.number
    go (inl e) = cons_nil (sym q ∙ e)
    go (inr u) = (u.0, u.1, u.2, ap (λ us. first_or us msg) (sym q ∙ u.3), ap rest_of (sym q ∙ u.3), u.4)
      where
        first_or : List Message → Message → Message
        first_or [] d = d
        first_or (x ∷ xs) d = x

        rest_of : List Message → List Message
        rest_of [] = []
        rest_of (x ∷ xs) = xs

-- a client's first message is refused, whatever the word
refused-named-good : (word : Word) (w : WorldState) (n : Name) (m : Member) (msg : Message) (up : List Message) → IsGoodWorld w → w.actors n ≡ Named m → m.conn.up ≡ msg ∷ up
    → IsGoodWorld (refused_named word w n (with_conn m (with_up m.conn up)))
refused-named-good word w n m msg up g i q =
    let gm : IsGood (birth_at w.pad m.birth) w.pad w.taken w.edits n m = at-name w n (Named m) g i in
    let o = only (birth_at w.pad m.birth) w.pad w.taken w.edits n m msg up gm q in
    refused-step w n (Named (with_conn (with_conn m (with_up m.conn up)) (closing word (with_up m.conn up)))) m.conn.session g
    (subst (λ us. IsGood (birth_at w.pad m.birth) (leave w.pad m.conn.session) w.taken w.edits n (with_conn (with_conn m (with_up m.conn us)) (closing word (with_up m.conn us)))) (sym o.4)
    (good-closing word (birth_at w.pad m.birth) (leave w.pad m.conn.session) w.taken w.edits n (with_conn m (with_up m.conn []))
    (good-left (birth_at w.pad m.birth) w.pad w.taken w.edits n m m.conn.session gm)))
    (ap Some (session-closing word (with_up m.conn up)) ∙ sym (ap session_of i))

pub take-named-good : (w : WorldState) (now : ℕ) (n : Name) (m : Member) (known : List ℕ) (msg : Message) (up : List Message) → IsGoodWorld w → w.actors n ≡ Named m → m.conn.up ≡ msg ∷ up
    → reason w.pad m.conn.session msg ≡ None → AreKnown known (mark w.pad m.conn.session now msg ∷ w.taken)
    → IsGoodWorld (record { id = w.id; pad = committed w.pad m.conn.session now msg.base msg.change; actors = put w.actors n (Named (with_conn m (with_up m.conn up))); edits = w.edits; taken = mark w.pad m.conn.session now msg ∷ w.taken; known = known })
take-named-good w now n m known msg up g i q r kn =
    taking-good w n (Named (with_conn m (with_up m.conn up))) m.conn.session now msg known g acc name
    (subst (λ x. IsUntaken w.taken x.number) (sym o.3) o.5)
    (ap (λ (x : Message). numbered w.edits x.number) o.3 ∙ gm.number o.0 o.1)
    (λ t. subst (λ x. IsGood (birth_at (pad_as t w.pad m.conn.session now x) m.birth) (pad_as t w.pad m.conn.session now x) (mark_as t w.pad m.conn.session now x ∷ w.taken) w.edits n (with_conn m (with_up m.conn up))) (sym o.3)
    (subst (λ us. IsGood (birth_at (pad_as t w.pad m.conn.session now (as_message m o.0)) m.birth) (pad_as t w.pad m.conn.session now (as_message m o.0)) (mark_as t w.pad m.conn.session now (as_message m o.0) ∷ w.taken) w.edits n (with_conn m (with_up m.conn us))) (sym o.4)
    (actor t)))
    (sym (ap session_of i)) kn
  where
    gm : IsGood (birth_at w.pad m.birth) w.pad w.taken w.edits n m
    gm = at-name w n (Named m) g i

    acc : IsAccepted w.pad m.conn.session msg.base msg.change
    acc = accepted w.pad m.conn.session msg r

    found : seat_of w.pad m.client.session ≡ Some acc.seat
    found = ap (seat_of w.pad) gm.current ∙ acc.found

    name : acc.seat.author ≡ author_of n
    name = gm.mine acc.seat found

    hb : m.birth ≡ length w.pad.births
    hb = gm.newest acc.seat found acc.live

    gn : IsGood (newest w.pad) w.pad w.taken w.edits n m
    gn = subst (λ k. IsGood (birth_at w.pad k) w.pad w.taken w.edits n m) hb gm

    there : 1 ≤ length w.pad.births
    there = g.pad.present (g.pad.live m.conn.session acc.seat acc.found acc.live)

    o : (s : Submission) × (m.client.sent ≡ Some s) × (s.session ≡ m.client.session) × (msg ≡ as_message m s) × (up ≡ []) × IsUntaken w.taken m.number
    o = only (birth_at w.pad m.birth) w.pad w.taken w.edits n m msg up gm q

    whole : m.conn.up ≡ as_message m o.0 ∷ []
    whole = q ∙ (λ j. o.3 j ∷ o.4 j)

    au : seat_author (seat_of w.pad m.conn.session) ≡ author_of n
    au = ap seat_author acc.found ∙ name

    actor : (t : Bool) → IsGood (birth_at (pad_as t w.pad m.conn.session now (as_message m o.0)) m.birth) (pad_as t w.pad m.conn.session now (as_message m o.0)) (mark_as t w.pad m.conn.session now (as_message m o.0) ∷ w.taken) w.edits n (with_conn m (with_up m.conn []))
    actor false = subst (λ b. IsGood b (pad_as false w.pad m.conn.session now (as_message m o.0)) (mark_as false w.pad m.conn.session now (as_message m o.0) ∷ w.taken) w.edits n (with_conn m (with_up m.conn [])))
        (sym (ap (birth_at (pad_as false w.pad m.conn.session now (as_message m o.0))) hb ∙ revs-newest w.pad _ there))
        (good-taken w.pad w.taken w.edits n m gn hb o.0 o.1 o.2 whole o.5 now au)
    actor true = subst (λ b. IsGood b (pad_as true w.pad m.conn.session now (as_message m o.0)) (mark_as true w.pad m.conn.session now (as_message m o.0) ∷ w.taken) w.edits n (with_conn m (with_up m.conn [])))
        (sym (ap (birth_at (pad_as true w.pad m.conn.session now (as_message m o.0))) hb ∙ nops-newest w.pad _ there))
        (good-noted w.pad w.taken w.edits n m gn hb o.0 o.1 o.2 whole o.5 now au)

pub take-guest-good : (w : WorldState) (now : ℕ) (n : Name) (c : Conn) (known : List ℕ) (msg : Message) (up : List Message) → IsGoodWorld w → w.actors n ≡ Guest c → c.up ≡ msg ∷ up
    → reason w.pad c.session msg ≡ None → AreKnown known (mark w.pad c.session now msg ∷ w.taken)
    → IsGoodWorld (record { id = w.id; pad = committed w.pad c.session now msg.base msg.change; actors = put w.actors n (Guest (with_up c up)); edits = w.edits; taken = mark w.pad c.session now msg ∷ w.taken; known = known })
take-guest-good w now n c known msg up g i q r kn =
    taking-good w n (Guest (with_up c up)) c.session now msg known g acc (gc.mine acc.seat acc.found) f.1 f.0
    actor
    (sym (ap session_of i)) kn
  where
    gc : IsGoodGuest w.pad w.taken w.edits n c
    gc = at-name w n (Guest c) g i

    acc : IsAccepted w.pad c.session msg.base msg.change
    acc = accepted w.pad c.session msg r

    f : AreFresh w.taken w.edits n (msg ∷ up)
    f = subst (λ us. AreFresh w.taken w.edits n us) q gc.up

    actor : (t : Bool) → IsGoodGuest (pad_as t w.pad c.session now msg) (mark_as t w.pad c.session now msg ∷ w.taken) w.edits n (with_up c up)
    actor false = record { known = known-revs w.pad _ c.session gc.known; mine = gc.mine; up = fresh-after false w.pad c.session now w.taken w.edits n msg up f.2 f.3 }
    actor true = record { known = known-nops w.pad _ c.session gc.known; mine = gc.mine; up = fresh-after true w.pad c.session now w.taken w.edits n msg up f.2 f.3 }

pub take-good : (w : WorldState) (now : ℕ) (n : Name) (a : Actor) → IsGoodWorld w → w.actors n ≡ a → IsGoodWorld (take_by w now n a)
take-good w now n Nobody g i = g
take-good w now n (Guest c) g i = first c.up refl
  where
    decided : (msg : Message) (up : List Message) → c.up ≡ msg ∷ up → (o : Option Reason) → reason w.pad c.session msg ≡ o → IsGoodWorld (take_guest w now n (with_up c up) msg o)
    decided msg up q None r = take-guest-good w now n c (msg.number ∷ w.known) msg up g i q r (knows-mark w c.session now msg g)
    decided msg up q (Some bad) r = refused-guest-good w n c msg up g i q

    first : (us : List Message) → c.up ≡ us → IsGoodWorld (take_first_guest w now n c us)
    first [] q = g
    first (msg ∷ up) q = decided msg up q (reason w.pad c.session msg) refl
take-good w now n (Named m) g i = first m.conn.up refl
  where
    decided : (msg : Message) (up : List Message) → m.conn.up ≡ msg ∷ up → (o : Option Reason) → reason w.pad m.conn.session msg ≡ o → IsGoodWorld (take_named w now n (with_conn m (with_up m.conn up)) msg o)
    decided msg up q None r = take-named-good w now n m (msg.number ∷ w.known) msg up g i q r (knows-mark w m.conn.session now msg g)
    decided msg up q (Some bad) r = refused-named-good (refusal_word bad) w n m msg up g i q

    first : (us : List Message) → m.conn.up ≡ us → IsGoodWorld (take_first_named w now n m us)
    first [] q = g
    first (msg ∷ up) q = decided msg up q (reason w.pad m.conn.session msg) refl

-- ---- a journal without room

pub overfull-good : (w : WorldState) (n : Name) (a : Actor) → IsGoodWorld w → w.actors n ≡ a → IsGoodWorld (overfull_by w n a)
overfull-good w n Nobody g i = g
overfull-good w n (Guest c) g i = first c.up refl
  where
    decided : (msg : Message) (up : List Message) → c.up ≡ msg ∷ up → (o : Option Reason) → IsGoodWorld (overfull_guest w n (with_up c up) o)
    decided msg up q None = refused-guest-good w n c msg up g i q
    decided msg up q (Some why) = g

    first : (us : List Message) → c.up ≡ us → IsGoodWorld (overfull_first_guest w n c us)
    first [] q = g
    first (msg ∷ up) q = decided msg up q (reason w.pad c.session msg)
overfull-good w n (Named m) g i = first m.conn.up refl
  where
    decided : (msg : Message) (up : List Message) → m.conn.up ≡ msg ∷ up → (o : Option Reason) → IsGoodWorld (overfull_named w n (with_conn m (with_up m.conn up)) o)
    decided msg up q None = refused-named-good JournalFull w n m msg up g i q
    decided msg up q (Some why) = g

    first : (us : List Message) → m.conn.up ≡ us → IsGoodWorld (overfull_first_named w n m us)
    first [] q = g
    first (msg ∷ up) q = decided msg up q (reason w.pad m.conn.session msg)

-- ---- what a guest sends

fresh-more : (taken : List Taken) (edits : List Name) (n : Name) (up : List Message) (msg : Message)
    → IsUntaken taken (suc (length edits)) → msg.number ≡ suc (length edits)
    → AreFresh taken edits n up → AreFresh taken (edits ++ n ∷ []) n (up ++ msg ∷ [])
fresh-more taken edits n [] msg u e f = (ap (numbered (edits ++ n ∷ [])) e ∙ numbered-newest edits n, λ t h k. u t h (k ∙ e), λ o h. absurd h, tt)
fresh-more taken edits n (x ∷ up) msg u e f =
    let l = (numbered-below edits x.number n f.0).1 in
    (numbered-older edits n x.number l ∙ f.0, f.1, apart up f.2, fresh-more taken edits n up msg u e f.3)
  where
    below : x.number ≤ length edits
    below = (numbered-below edits x.number n f.0).1

    apart : (us : List Message) → ((o : Message) → Among o us → o.number ≡ x.number → ⊥) → (o : Message) → Among o (us ++ msg ∷ []) → o.number ≡ x.number → ⊥
    apart [] d o (inl h) k = let z : o.number ≡ suc (length edits) = ap (λ (y : Message). y.number) h ∙ e in let b = below in omega (arith, z, k, b)
    apart [] d o (inr h) k = absurd h
    apart (y ∷ us) d o (inl h) k = d o (inl h) k
    apart (y ∷ us) d o (inr h) k = apart us (λ p i. d p (inr i)) o h k

pub inject-good : (w : WorldState) (n : Name) (base : ℕ) (read : Result Change ReadBad) (a : Actor) → IsGoodWorld w → w.actors n ≡ a → IsGoodWorld (inject_by w n base read a)
inject-good w n base read Nobody g i = g
inject-good w n base read (Named m) g i = g
inject-good w n base read (Guest c) g i =
    let gc : IsGoodGuest w.pad w.taken w.edits n c = at-name w n (Guest c) g i in
    edits-step w n _ g (record { known = gc.known; mine = gc.mine; up = fresh-more w.taken w.edits n c.up _ (fresh-number w g) refl gc.up }) (sym (ap session_of i))
