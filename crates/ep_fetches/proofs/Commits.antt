-- What is told of an edit that is committed stands in the last birth.
use Rattle.std.proofs.Common.{◌≡◌, ℕ, suc, ◌≤◌, Bool, true, false, ◌&&◌, ◌==◌, if◌then◌else◌, List, [], ◌∷◌, ◌++◌, ◌⊎◌, inl, inr, map, length, Some, Ok, refl, sym, ap, ◌∙◌, subst, arith}
use Rattle.std.specs.Prelude.{nat_lt}
use Rattle.ep_units.specs.declared.session.Session.{Session}
use Rattle.ep_history.specs.Lists.{Among, at}
use Rattle.ep_cs.specs.Doc.{Doc}
use Rattle.ep_cs.specs.Edit.{Edit, apply}
use Rattle.ep_cs.specs.Change.{Change}
use Rattle.ep_cs.specs.Fits.{is_identity}
use Rattle.ep_history.specs.History.{Birth, By, head, head_doc, is_session, newline_rev, nop_by, nops_of, rev_by, step_revs}
use Rattle.ep_history.specs.Pad.{PadState, birth_at, newest, with_nops, with_revs}
use Rattle.ep_history.specs.Readings.{Committed, became_nothing, commit, revised}
use Rattle.ep_history.specs.Accept.{at_head, by_session, committed, edit_faults, refusal}
use Rattle.ep_history.specs.Records.{IsSoundPad, accept_record}
use Rattle.ep_history.specs.Entries.Answer.{CommitAnswer}
use Rattle.ep_history.specs.Entries.Entry.{Accept}
use Rattle.ep_history.specs.Entries.Outcome.{Records}
use Rattle.ep_history.specs.Machine.{IsKeptState, IsStep, MachineState, Size}
use Rattle.ep_history.specs.declared.pad_bad.PadBad.TheVariants.{NoBase}
use Rattle.ep_history.specs.declared.nop.Nop.{Nop}
use Rattle.ep_history.specs.declared.rev.Rev.{Rev}
use Rattle.ep_history.proofs.Lists.{at-new}
use Rattle.ep_history.proofs.Refused.{AreNone, not-if, not-less, refusal-live}
use Rattle.ep_history.proofs.Births.{decide, longer, longer-rebase, noting, nops-newest, revs-newest}
use Rattle.ep_history.proofs.Recorded.{live-present}
use Rattle.ep_fetches.specs.Told.{IsCommitted, IsNothing, IsRevision}
use Rattle.ep_fetches.proofs.Answers.{IsSeated, seated, step-answers, unless-answers}

at-second : {A : Type 0} (xs : List A) (x y : A) → at (xs ++ x ∷ (y ∷ [])) (suc (length xs)) ≡ Some y
at-second [] x y = refl
at-second (z ∷ xs) x y = at-second xs x y

is-itself : (s : Session) → is_session s s ≡ true
is-itself s = go (decide s.epoch s.epoch) (decide s.count s.count)
  where
    go : (((s.epoch == s.epoch) ≡ true) × (s.epoch ≡ s.epoch)) ⊎ (((s.epoch == s.epoch) ≡ false) × (s.epoch ≡ s.epoch → ⊥))
        → (((s.count == s.count) ≡ true) × (s.count ≡ s.count)) ⊎ (((s.count == s.count) ≡ false) × (s.count ≡ s.count → ⊥)) → is_session s s ≡ true
    go (inl a) (inl b) = λ i. a.0 i && b.0 i
    go (inl a) (inr b) = absurd (b.1 refl)
    go (inr a) b = absurd (a.1 refl)

-- an edit that is noted is one of the session's
noted-among : (s : Session) (xs : List Nop) (x : Nop) → is_session x.session s ≡ true → Among x.rev (map (λ y. y.rev) (nops_of s (xs ++ x ∷ [])))
noted-among s [] x e = subst (λ b. Among x.rev (map (λ y. y.rev) (if b then x ∷ [] else []))) (sym e) (inl refl)
noted-among s (z ∷ xs) x e = go (is_session z.session s) (noted-among s xs x e)
  where
    go : (b : Bool) → Among x.rev (map (λ y. y.rev) (nops_of s (xs ++ x ∷ []))) → Among x.rev (map (λ y. y.rev) (if b then z ∷ nops_of s (xs ++ x ∷ []) else nops_of s (xs ++ x ∷ [])))
    go true h = inr h
    go false h = h

-- what the last birth becomes with an edit, and what is told of it
commit-of : (pad : PadState) (s : Session) (now base : ℕ) (c : Change) → 1 ≤ length pad.births → base ≤ head (newest pad)
    → IsCommitted (birth_at (committed pad s now base c) (length pad.births)) s base c (commit pad (at_head pad base c.edit))
commit-of pad s now base c p h = go (is_identity e)
  where
    b : Birth
    b = newest pad

    e : Edit
    e = at_head pad base c.edit

    by : By
    by = by_session pad s now

    doc : Doc
    doc = head_doc b

    vs : List Rev
    vs = step_revs by e doc

    x : Nop
    x = nop_by by (head b)

    revision : IsRevision (longer b vs) s base c (revised pad e)
    revision = record {
      before = head b;
      made = rev_by by e doc;
      number = refl;
      known = h;
      there = at-new b.later _ (rev_by by e doc);
      own = refl;
      told = refl;
      rebased = sym (longer-rebase b vs c.edit base (head b) (omega arith));
      newline = λ f. (
        newline_rev by.time (apply e doc),
        ap (λ t. at (b.later ++ rev_by by e doc ∷ (if t then newline_rev by.time (apply e doc) ∷ [] else [])) (suc (head b))) f ∙ at-second b.later (rev_by by e doc) (newline_rev by.time (apply e doc)),
        refl,
      );
    }

    nothing : IsNothing (noting b (x ∷ [])) s base c (became_nothing pad e)
    nothing = record { within = omega arith; known = h; noted = noted-among s b.nops x (is-itself s); rebased = refl }

    go : (t : Bool)
        → IsCommitted (birth_at (if t then with_nops pad (x ∷ []) else with_revs pad vs) (length pad.births)) s base c (if t then became_nothing pad e else revised pad e)
    go true =
        subst (λ d. IsCommitted d s base c (became_nothing pad e)) (sym (nops-newest pad (x ∷ []) p))
        (record { revision = λ f. absurd cc; nothing = λ _. nothing })
    go false =
        subst (λ d. IsCommitted d s base c (revised pad e)) (sym (revs-newest pad vs p))
        (record { revision = λ _. revision; nothing = λ f. absurd cc })

same-committed : (x y : Committed) → CommitAnswer x ≡ CommitAnswer y → x ≡ y
same-committed x y e = cc

-- an edit that is committed is of a live session, and stands in the last birth then
pub commit-answered : (size : Size) (st : MachineState) (s : Session) (base : ℕ) (c : Change) (now : ℕ) (w : Committed) (new : MachineState) → IsKeptState st
    → IsStep size st (Accept s base c now) (Ok (CommitAnswer w)) new → IsSeated st s × IsCommitted (birth_at new.pad (length st.pad.births)) s base c w
commit-answered size st s base c now w new k step =
    let a = step-answers size st (Accept s base c now) (CommitAnswer w) new step in
    let pad = a.mid.pad in
    let told = commit pad (at_head pad base c.edit) in
    let next = committed pad s now base c in
    let u = unless-answers (refusal pad s base c) (Records (accept_record pad s now base c) (CommitAnswer told) next) (CommitAnswer w) new.pad a.answered in
    let l = refusal-live pad s base c u.0 in
    let f : AreNone (edit_faults pad l.0 base c) = l.3 in
    let h = not-less (head (newest pad)) base (not-if (nat_lt (head (newest pad)) base) (NoBase (head (newest pad))) f.1.0) in
    let t = seated st a.mid s a.from a.is_open (l.0, l.1, l.2) in
    let sound : IsSoundPad pad = subst (λ (x : MachineState). IsSoundPad x.pad) (sym t.0) k.kept.sound in
    let here = commit-of pad s now base c (sound.present (live-present pad s l.0 sound l.1 l.2)) h in (
      t.1,
      subst (λ (x : MachineState). IsCommitted (birth_at new.pad (length x.pad.births)) s base c w) t.0
          (subst (λ p. IsCommitted (birth_at p (length pad.births)) s base c w) (sym u.1.1)
          (subst (λ y. IsCommitted (birth_at next (length pad.births)) s base c y) (same-committed told w u.1.0) here)),
    )
