-- Births: what is added fits, and a birth that grew is as it was as far as it went.
use Rattle.std.proofs.Common.{◌≡◌, ℕ, zero, suc, ◌<◌, ◌≤◌, Bool, true, false, ◌==◌, if◌then◌else◌, List, [], ◌∷◌, ◌++◌, ◌⊎◌, inl, inr, length, drop, Option, Some, None, refl, sym, ap, ◌∙◌, subst, T, arith}
use Rattle.std.proofs.lemmas.Bool.Decides.{nat_tests}
use Rattle.std.proofs.lemmas.List.{append_assoc, map-append, length-append, take-append-le, take_all}
use Rattle.ep_cs.specs.Doc.{Cell, Doc, text_of}
use Rattle.ep_cs.specs.Edit.{Edit, apply, identity}
use Rattle.ep_cs.specs.Follow.{follow}
use Rattle.ep_cs.specs.Fits.{Fits}
use Rattle.ep_history.specs.Client.{ClientState, sent_now, submission, view}
use Rattle.ep_history.specs.History.{By, by_nobody, rev_by, newline, newline_rev, first_rev, first_doc, step_doc, Birth, doc_at, head, head_doc, lacks_newline, made, newline_edit, rebase, rebased, step_revs}
use Rattle.ep_history.specs.Lists.{at, numbered, or_else}
use Rattle.ep_history.specs.Pad.{create, PadState, birth_at, lengthened, newest, no_birth, noted, with_nops, with_revs}
use Rattle.ep_units.specs.Text.{is_well_formed}
use Rattle.ep_attr.proofs.Maps.{exact_test}
use Rattle.ep_attr.proofs.SameMap.{itself}
use Rattle.ep_units.specs.Clean.{clean}
use Rattle.ep_units.proofs.Cleaning.{is_well_formed-clean}
use Rattle.ep_cs.specs.Plain.{plain}
use Rattle.ep_cs.proofs.Plain.{text_of-plain}
use Rattle.ep_cs.proofs.Splices.{apply-splice}
use Rattle.ep_cs.proofs.Whole.{paired-append}
use Rattle.ep_history.proofs.Texts.{ends-in-newline}
use Rattle.ep_history.proofs.Lists.{none_some, some_same, at-below, at-back, at-new, at-some}
use Rattle.ep_cs.proofs.EditFits.{IsFit, fit-follow, ends_well, ends-apply, text-apply}
use Rattle.ep_history.proofs.Newline.{fit-newline}
use Rattle.ep_history.proofs.Client.{made-push, next-doc, next-rebase, rebase-none, IsSound}
use Rattle.ep_cs.specs.Change.{stamped}
use Rattle.ep_units.specs.Text.{Text}
use Rattle.ep_cs.specs.Doc.{text_of}
use Rattle.ep_cs.specs.Change.{Change}
use Rattle.ep_units.specs.Text.{text_eq}
use Rattle.ep_history.specs.declared.rev.Rev.{Rev}
use Rattle.ep_history.specs.declared.nop.Nop.{Nop}
use Rattle.ep_history.specs.declared.submission.Submission.{Submission}

pub decide : (a b : ℕ) → (((a == b) ≡ true) × (a ≡ b)) ⊎ (((a == b) ≡ false) × (a ≡ b → ⊥))
decide a b = go (a == b) refl
  where
    go : (t : Bool) → (a == b) ≡ t → (((a == b) ≡ true) × (a ≡ b)) ⊎ (((a == b) ≡ false) × (a ≡ b → ⊥))
    go true e = inl (e, grind (arith, nat_tests))
    go false e = inr (e, λ h. grind (arith, nat_tests))

pub decide-name : (a b : Text) → ((text_eq a b ≡ true) × (a ≡ b)) ⊎ ((text_eq a b ≡ false) × (a ≡ b → ⊥))
decide-name a b = go (text_eq a b) refl
  where
    go : (t : Bool) → text_eq a b ≡ t → ((text_eq a b ≡ true) × (a ≡ b)) ⊎ ((text_eq a b ≡ false) × (a ≡ b → ⊥))
    go true e = inl (e, exact_test a b e)
    go false e = inr (e, λ h. absurd (subst T (sym (ap (λ c. text_eq a c) (sym h) ∙ itself a) ∙ e) tt))

-- a change whose edit can be made of the document, and which says its newlines
pub record IsTrueChange (c : Change) (doc : Doc) : Type 0 where
  pub fit : IsFit c.edit doc
  pub told : c ≡ stamped c.edit (text_of doc)

pub true-fits : (c : Change) (doc : Doc) → IsTrueChange c doc → Fits c doc
true-fits c doc t = record { length = t.fit.long; runs = ap (λ (x : Change). x.runs) t.told; pairs = t.fit.pairs }

pub record IsGoodBirth (b : Birth) : Type 0 where
  pub first : ends_well (first_doc b) ≡ true
  pub text : is_well_formed (text_of (first_doc b)) ≡ true
  pub later : (i : ℕ) (v : Rev) → at b.later i ≡ Some v → IsTrueChange v.change (doc_at b i)

pub ends-doc : (b : Birth) → IsGoodBirth b → (r : ℕ) → r ≤ head b → ends_well (doc_at b r) ≡ true
ends-doc b g zero h = g.first
ends-doc b g (suc r) h =
    let v = at-some b.later r (omega (arith, h)) in
    ap ends_well (next-doc b r v.0 v.1) ∙ ends-apply v.0.change.edit (doc_at b r) (g.later r v.0 v.1).fit

pub text-doc : (b : Birth) → IsGoodBirth b → (r : ℕ) → r ≤ head b → is_well_formed (text_of (doc_at b r)) ≡ true
text-doc b g zero h = g.text
text-doc b g (suc r) h =
    let v = at-some b.later r (omega (arith, h)) in
    ap (λ d. is_well_formed (text_of d)) (next-doc b r v.0 v.1) ∙ text-apply v.0.change.edit (doc_at b r) (g.later r v.0 v.1).fit (text-doc b g r (omega (arith, h)))

-- ---- rebasing

pub rebase-fits : (b : Birth) → IsGoodBirth b → (e : Edit) (base : ℕ) → IsFit e (doc_at b base) → (h : ℕ) → base ≤ h → h ≤ head b → IsFit (rebase b e base h) (doc_at b h)
rebase-fits b g e base f zero l m =
    let z : base ≡ 0 = omega (arith, l) in
    subst (λ k. IsFit (rebase b e k 0) (doc_at b 0)) (sym z) (subst (λ x. IsFit x (doc_at b 0)) (sym (rebase-none b e 0)) (subst (λ k. IsFit e (doc_at b k)) z f))
rebase-fits b g e base f (suc h) l m = go (decide base (suc h)) (λ k. rebase-fits b g e base f h k (omega (arith, m)))
  where
    go : (((base == suc h) ≡ true) × (base ≡ suc h)) ⊎ (((base == suc h) ≡ false) × (base ≡ suc h → ⊥))
        → (base ≤ h → IsFit (rebase b e base h) (doc_at b h)) → IsFit (rebase b e base (suc h)) (doc_at b (suc h))
    go (inl z) ih =
        subst (λ k. IsFit (rebase b e k (suc h)) (doc_at b (suc h))) (sym z.1)
        (subst (λ x. IsFit x (doc_at b (suc h))) (sym (rebase-none b e (suc h))) (subst (λ k. IsFit e (doc_at b k)) z.1 f))
    go (inr z) ih =
        let z1 = z.1 in
        let k : base ≤ h = omega (arith, l, z1) in
        let v = at-some b.later h (omega (arith, m)) in
        subst (λ x. IsFit x (doc_at b (suc h))) (sym (next-rebase b e base h v.0 v.1 k))
        (subst (λ doc. IsFit (follow true v.0.change.edit (rebase b e base h)) doc) (sym (next-doc b h v.0 v.1))
        (fit-follow true v.0.change.edit (rebase b e base h) (doc_at b h) (g.later h v.0 v.1).fit (ih k)))

-- ---- a birth with more revisions

abbrev pub longer : Birth → List Rev → Birth
longer b vs = record b { later = b.later ++ vs }

pub longer-doc : (b : Birth) (vs : List Rev) (r : ℕ) → r ≤ head b → doc_at (longer b vs) r ≡ doc_at b r
longer-doc b vs r h = ap (made (first_doc b)) (take-append-le r b.later vs h)

pub longer-rebase : (b : Birth) (vs : List Rev) (e : Edit) (base h : ℕ) → h ≤ head b → rebase (longer b vs) e base h ≡ rebase b e base h
longer-rebase b vs e base h l = ap (λ ws. rebased (drop base ws) e) (take-append-le h b.later vs l)

pub longer-submission : (b : Birth) (vs : List Rev) (c : ClientState) → c.rev ≤ head b → submission (longer b vs) c ≡ submission b c
longer-submission b vs c h = go c.sent
  where
    go : (s : Option Submission) → sent_now (longer b vs) c.rev s ≡ sent_now b c.rev s
    go None = ap (λ doc. identity (length doc)) (longer-doc b vs c.rev h)
    go (Some s) = longer-rebase b vs s.change.edit s.base c.rev h

pub longer-sound : (b : Birth) (vs : List Rev) (c : ClientState) → IsSound b c → IsSound (longer b vs) c
longer-sound b vs c g =
    let d = longer-doc b vs c.rev g.rev in
    let x = longer-submission b vs c g.rev in
    let n = length-append b.later vs in
    let l = g.rev in
    record {
      rev = omega (arith, n, l);
      ends = ap ends_well d ∙ g.ends;
      sent = subst (λ doc. IsFit (submission (longer b vs) c) doc) (sym d) (subst (λ y. IsFit y (doc_at b c.rev)) (sym x) g.sent);
      local = subst (λ doc. IsFit c.local doc) (λ i. apply (sym x i) (sym d i)) g.local;
      base = g.base;
    }

pub longer-view : (b : Birth) (vs : List Rev) (c : ClientState) → c.rev ≤ head b → view (longer b vs) c ≡ view b c
longer-view b vs c h = λ i. apply c.local (apply (longer-submission b vs c h i) (longer-doc b vs c.rev h i))

-- ---- what a step adds

pub good-push : (b : Birth) (v : Rev) → IsGoodBirth b → IsTrueChange v.change (head_doc b) → IsGoodBirth (longer b (v ∷ []))
good-push b v g f = record { first = g.first; text = g.text; later = go }
  where
    go : (i : ℕ) (w : Rev) → at (b.later ++ v ∷ []) i ≡ Some w → IsTrueChange w.change (doc_at (longer b (v ∷ [])) i)
    go i w e = case (decide i (head b))
      where
        case : (((i == head b) ≡ true) × (i ≡ head b)) ⊎ (((i == head b) ≡ false) × (i ≡ head b → ⊥)) → IsTrueChange w.change (doc_at (longer b (v ∷ [])) i)
        case (inl z) =
            let z1 = z.1 in
            let same : w ≡ v = some_same (sym e ∙ ap (at (b.later ++ v ∷ [])) z1 ∙ at-new b.later [] v) in
            subst (λ k. IsTrueChange w.change (doc_at (longer b (v ∷ [])) k)) (sym z1)
            (subst (λ doc. IsTrueChange w.change doc) (sym (longer-doc b (v ∷ []) (head b) (omega arith)))
            (subst (λ u. IsTrueChange u.change (head_doc b)) (sym same) f))
        case (inr z) =
            let z1 = z.1 in
            let l = at-below (b.later ++ v ∷ []) i w e in
            let n = length-append b.later (v ∷ []) in
            let k : i < head b = omega (arith, z1, l, n) in
            subst (λ doc. IsTrueChange w.change doc) (sym (longer-doc b (v ∷ []) i (omega (arith, k)))) (g.later i w (at-back b.later (v ∷ []) i w k e))

pub push-doc : (b : Birth) (v : Rev) → head_doc (longer b (v ∷ [])) ≡ apply v.change.edit (head_doc b)
push-doc b v =
    ap (made (first_doc b)) (take_all (length (b.later ++ v ∷ [])) (b.later ++ v ∷ []) (omega arith))
    ∙ made-push (first_doc b) b.later v
    ∙ ap (λ vs. apply v.change.edit (made (first_doc b) vs)) (sym (take_all (length b.later) b.later (omega arith)))

pub true-rev : (by : By) (e : Edit) (doc : Doc) → IsFit e doc → IsTrueChange (rev_by by e doc).change doc
true-rev by e doc f = record { fit = f; told = refl }

pub good-step : (b : Birth) (by : By) (e : Edit) → IsGoodBirth b → IsFit e (head_doc b) → IsGoodBirth (longer b (step_revs by e (head_doc b)))
good-step b by e g f = go (lacks_newline (apply e (head_doc b)))
  where
    v : Rev
    v = rev_by by e (head_doc b)

    w : Rev
    w = newline_rev by.time (apply e (head_doc b))

    one : IsGoodBirth (longer b (v ∷ []))
    one = good-push b v g (true-rev by e (head_doc b) f)

    ends : IsTrueChange w.change (apply e (head_doc b))
    ends = true-rev (by_nobody by.time) (newline_edit (length (apply e (head_doc b)))) (apply e (head_doc b)) (fit-newline (apply e (head_doc b)) (ends-apply e (head_doc b) f))

    go : (t : Bool) → IsGoodBirth (longer b (v ∷ (if t then w ∷ [] else [])))
    go true =
        subst (λ vs. IsGoodBirth (record { first = b.first; later = vs; nops = b.nops })) (append_assoc b.later (v ∷ []) (w ∷ []))
        (good-push (longer b (v ∷ [])) w one (subst (λ doc. IsTrueChange w.change doc) (sym (push-doc b v)) ends))
    go false = one

made-append : (doc : Doc) (us vs : List Rev) → made doc (us ++ vs) ≡ made (made doc us) vs
made-append doc [] vs = refl
made-append doc (u ∷ us) vs = made-append (apply u.change.edit doc) us vs

pub longer-head : (b : Birth) (vs : List Rev) → head_doc (longer b vs) ≡ made (head_doc b) vs
longer-head b vs =
    ap (made (first_doc b)) (take_all (length (b.later ++ vs)) (b.later ++ vs) (omega arith))
    ∙ made-append (first_doc b) b.later vs
    ∙ ap (λ us. made (made (first_doc b) us) vs) (sym (take_all (length b.later) b.later (omega arith)))

-- who did it changes no document
pub made-step : (by : By) (e : Edit) (doc : Doc) → made doc (step_revs by e doc) ≡ step_doc e doc
made-step by e doc = go (lacks_newline (apply e doc))
  where
    go : (t : Bool) → made (apply e doc) (if t then newline_rev by.time (apply e doc) ∷ [] else []) ≡ made (apply e doc) (if t then newline_rev 0 (apply e doc) ∷ [] else [])
    go true = refl
    go false = refl

-- after a step the head ends in a newline
pub line-step : (b : Birth) (by : By) (e : Edit) → lacks_newline (head_doc (longer b (step_revs by e (head_doc b)))) ≡ false
line-step b by e = ap lacks_newline (longer-head b (step_revs by e (head_doc b)) ∙ made-step by e (head_doc b)) ∙ ends-in-newline e (head_doc b)

-- ---- births by number

length-lengthened : (vs : List Rev) (bs : List Birth) → length (lengthened vs bs) ≡ length bs
length-lengthened vs [] = refl
length-lengthened vs (b ∷ []) = refl
length-lengthened vs (b ∷ (c ∷ bs)) = ap suc (length-lengthened vs (c ∷ bs))

pub revs-count : (pad : PadState) (vs : List Rev) → length (with_revs pad vs).births ≡ length pad.births
revs-count pad vs = length-lengthened vs pad.births

length-noted : (xs : List Nop) (bs : List Birth) → length (noted xs bs) ≡ length bs
length-noted xs [] = refl
length-noted xs (b ∷ []) = refl
length-noted xs (b ∷ (c ∷ bs)) = ap suc (length-noted xs (c ∷ bs))

pub nops-count : (pad : PadState) (xs : List Nop) → length (with_nops pad xs).births ≡ length pad.births
nops-count pad xs = length-noted xs pad.births

-- a birth with more edits that became nothing
abbrev pub noting : Birth → List Nop → Birth
noting b xs = record b { nops = b.nops ++ xs }

pub good-noting : (b : Birth) (xs : List Nop) → IsGoodBirth b → IsGoodBirth (noting b xs)
good-noting b xs g = record { first = g.first; text = g.text; later = g.later }

pub sound-noting : (b : Birth) (xs : List Nop) (c : ClientState) → IsSound b c → IsSound (noting b xs) c
sound-noting b xs c g = record { rev = g.rev; ends = g.ends; sent = g.sent; local = g.local; base = g.base }

pub length-more : {A : Type 0} (xs : List A) (x : A) → length (xs ++ x ∷ []) ≡ suc (length xs)
length-more xs x = let h = length-append xs (x ∷ []) in omega (arith, h)

pub numbered-newest : {A : Type 0} (xs : List A) (x : A) → numbered (xs ++ x ∷ []) (suc (length xs)) ≡ Some x
numbered-newest xs x = at-new xs [] x

at-kept : {A : Type 0} (xs ys : List A) (i : ℕ) → i < length xs → at (xs ++ ys) i ≡ at xs i
at-kept [] ys i h = absurd (omega (arith, h))
at-kept (x ∷ xs) ys zero h = refl
at-kept (x ∷ xs) ys (suc i) h = at-kept xs ys i (omega (arith, h))

pub numbered-older : {A : Type 0} (xs : List A) (x : A) (k : ℕ) → k ≤ length xs → numbered (xs ++ x ∷ []) k ≡ numbered xs k
numbered-older xs x zero h = refl
numbered-older xs x (suc i) h = at-kept xs (x ∷ []) i (omega (arith, h))

pub numbered-below : {A : Type 0} (xs : List A) (k : ℕ) (x : A) → numbered xs k ≡ Some x → (1 ≤ k) × (k ≤ length xs)
numbered-below xs zero x e = none_some e
numbered-below xs (suc i) x e = let h = at-below xs i x e in (omega arith, omega (arith, h))

-- the new one or an old one
pub numbered-more : {A : Type 0} (xs : List A) (x : A) (k : ℕ) (y : A) → numbered (xs ++ x ∷ []) k ≡ Some y → ((k ≡ suc (length xs)) × (y ≡ x)) ⊎ ((k ≤ length xs) × (numbered xs k ≡ Some y))
numbered-more xs x k y e = go (decide k (suc (length xs)))
  where
    go : (((k == suc (length xs)) ≡ true) × (k ≡ suc (length xs))) ⊎ (((k == suc (length xs)) ≡ false) × (k ≡ suc (length xs) → ⊥)) → ((k ≡ suc (length xs)) × (y ≡ x)) ⊎ ((k ≤ length xs) × (numbered xs k ≡ Some y))
    go (inl z) = inl (z.1, some_same (sym e ∙ ap (numbered (xs ++ x ∷ [])) z.1 ∙ numbered-newest xs x))
    go (inr z) =
        let b = (numbered-below (xs ++ x ∷ []) k y e).1 in
        let n = length-more xs x in
        let o = z.1 in
        let l : k ≤ length xs = omega (arith, b, n, o) in
        inr (l, sym (numbered-older xs x k l) ∙ e)

-- the revisions that a birth gets
abbrev at_birth : List Birth → ℕ → Birth
at_birth bs k = or_else (numbered bs k) no_birth

pub revs-at : (pad : PadState) (vs : List Rev) (k : ℕ)
    → ((1 ≤ length pad.births) × (k ≡ length pad.births) × (birth_at (with_revs pad vs) k ≡ longer (birth_at pad k) vs)) ⊎ (birth_at (with_revs pad vs) k ≡ birth_at pad k)
revs-at pad vs k = go pad.births k
  where
    go : (bs : List Birth) (k : ℕ) → ((1 ≤ length bs) × (k ≡ length bs) × (at_birth (lengthened vs bs) k ≡ longer (at_birth bs k) vs)) ⊎ (at_birth (lengthened vs bs) k ≡ at_birth bs k)
    go bs zero = inr refl
    go [] (suc i) = inr refl
    go (b ∷ []) (suc zero) = inl (omega arith, refl, refl)
    go (b ∷ []) (suc (suc i)) = inr refl
    go (b ∷ (c ∷ bs)) (suc zero) = inr refl
    go (b ∷ (c ∷ bs)) (suc (suc i)) = up (go (c ∷ bs) (suc i))
      where
        up : ((1 ≤ length (c ∷ bs)) × (suc i ≡ length (c ∷ bs)) × (at_birth (lengthened vs (c ∷ bs)) (suc i) ≡ longer (at_birth (c ∷ bs) (suc i)) vs)) ⊎ (at_birth (lengthened vs (c ∷ bs)) (suc i) ≡ at_birth (c ∷ bs) (suc i))
            → ((1 ≤ length (b ∷ (c ∷ bs))) × (suc (suc i) ≡ length (b ∷ (c ∷ bs))) × (at_birth (lengthened vs (b ∷ (c ∷ bs))) (suc (suc i)) ≡ longer (at_birth (b ∷ (c ∷ bs)) (suc (suc i))) vs)) ⊎ (at_birth (lengthened vs (b ∷ (c ∷ bs))) (suc (suc i)) ≡ at_birth (b ∷ (c ∷ bs)) (suc (suc i)))
        up (inl z) = inl (omega arith, ap suc z.1, z.2)
        up (inr z) = inr z

pub revs-newest : (pad : PadState) (vs : List Rev) → 1 ≤ length pad.births → birth_at (with_revs pad vs) (length pad.births) ≡ longer (newest pad) vs
revs-newest pad vs h = go pad.births h
  where
    go : (bs : List Birth) → 1 ≤ length bs → at_birth (lengthened vs bs) (length bs) ≡ longer (at_birth bs (length bs)) vs
    go [] h = absurd (omega (arith, h))
    go (b ∷ []) h = refl
    go (b ∷ (c ∷ bs)) h = go (c ∷ bs) (omega arith)

-- the edits that became nothing that a birth gets
pub nops-at : (pad : PadState) (vs : List Nop) (k : ℕ)
    → ((1 ≤ length pad.births) × (k ≡ length pad.births) × (birth_at (with_nops pad vs) k ≡ noting (birth_at pad k) vs)) ⊎ (birth_at (with_nops pad vs) k ≡ birth_at pad k)
nops-at pad vs k = go pad.births k
  where
    go : (bs : List Birth) (k : ℕ) → ((1 ≤ length bs) × (k ≡ length bs) × (at_birth (noted vs bs) k ≡ noting (at_birth bs k) vs)) ⊎ (at_birth (noted vs bs) k ≡ at_birth bs k)
    go bs zero = inr refl
    go [] (suc i) = inr refl
    go (b ∷ []) (suc zero) = inl (omega arith, refl, refl)
    go (b ∷ []) (suc (suc i)) = inr refl
    go (b ∷ (c ∷ bs)) (suc zero) = inr refl
    go (b ∷ (c ∷ bs)) (suc (suc i)) = up (go (c ∷ bs) (suc i))
      where
        up : ((1 ≤ length (c ∷ bs)) × (suc i ≡ length (c ∷ bs)) × (at_birth (noted vs (c ∷ bs)) (suc i) ≡ noting (at_birth (c ∷ bs) (suc i)) vs)) ⊎ (at_birth (noted vs (c ∷ bs)) (suc i) ≡ at_birth (c ∷ bs) (suc i))
            → ((1 ≤ length (b ∷ (c ∷ bs))) × (suc (suc i) ≡ length (b ∷ (c ∷ bs))) × (at_birth (noted vs (b ∷ (c ∷ bs))) (suc (suc i)) ≡ noting (at_birth (b ∷ (c ∷ bs)) (suc (suc i))) vs)) ⊎ (at_birth (noted vs (b ∷ (c ∷ bs))) (suc (suc i)) ≡ at_birth (b ∷ (c ∷ bs)) (suc (suc i)))
        up (inl z) = inl (omega arith, ap suc z.1, z.2)
        up (inr z) = inr z

pub nops-newest : (pad : PadState) (vs : List Nop) → 1 ≤ length pad.births → birth_at (with_nops pad vs) (length pad.births) ≡ noting (newest pad) vs
nops-newest pad vs h = go pad.births h
  where
    go : (bs : List Birth) → 1 ≤ length bs → at_birth (noted vs bs) (length bs) ≡ noting (at_birth bs (length bs)) vs
    go [] h = absurd (omega (arith, h))
    go (b ∷ []) h = refl
    go (b ∷ (c ∷ bs)) h = go (c ∷ bs) (omega arith)

-- a birth that is made
pub created-at : (pad : PadState) (now : ℕ) (text : Text) (k : ℕ)
    → ((k ≡ suc (length pad.births)) × (birth_at (create pad now text) k ≡ record { first = first_rev now text; later = []; nops = [] })) ⊎ (birth_at (create pad now text) k ≡ birth_at pad k)
created-at pad now text k = go pad.births k
  where
    new : Birth
    new = record { first = first_rev now text; later = []; nops = [] }

    go : (bs : List Birth) (k : ℕ) → ((k ≡ suc (length bs)) × (at_birth (bs ++ new ∷ []) k ≡ new)) ⊎ (at_birth (bs ++ new ∷ []) k ≡ at_birth bs k)
    go bs zero = inr refl
    go [] (suc zero) = inl (refl, refl)
    go [] (suc (suc i)) = inr refl
    go (b ∷ bs) (suc zero) = inr refl
    go (b ∷ bs) (suc (suc i)) = up (go bs (suc i))
      where
        up : ((suc i ≡ suc (length bs)) × (at_birth (bs ++ new ∷ []) (suc i) ≡ new)) ⊎ (at_birth (bs ++ new ∷ []) (suc i) ≡ at_birth bs (suc i))
            → ((suc (suc i) ≡ suc (length (b ∷ bs))) × (at_birth ((b ∷ bs) ++ new ∷ []) (suc (suc i)) ≡ new)) ⊎ (at_birth ((b ∷ bs) ++ new ∷ []) (suc (suc i)) ≡ at_birth (b ∷ bs) (suc (suc i)))
        up (inl z) = inl (ap suc z.0, z.1)
        up (inr z) = inr z

-- the document of a birth that is made
pub first-text : (now : ℕ) (text : Text) → first_doc (record { first = first_rev now text; later = []; nops = [] }) ≡ plain (clean text) ++ newline
first-text now text = apply-splice 0 0 (plain (clean text)) newline (omega arith)

ends-newline : (doc : Doc) → ends_well (doc ++ newline) ≡ true
ends-newline [] = refl
ends-newline (c ∷ []) = refl
ends-newline (c ∷ (d ∷ ds)) = ends-newline (d ∷ ds)

pub line-newline : (doc : Doc) → lacks_newline (doc ++ newline) ≡ false
line-newline [] = refl
line-newline (c ∷ []) = refl
line-newline (c ∷ (d ∷ ds)) = line-newline (d ∷ ds)

text-newline : (text : Text) → is_well_formed text ≡ true → is_well_formed (text_of (plain (clean text) ++ newline)) ≡ true
text-newline text w =
    ap is_well_formed (map-append (λ (c : Cell). c.unit) (plain (clean text)) newline ∙ ap (λ us. us ++ 10 ∷ []) (text_of-plain (clean text)))
    ∙ paired-append false (clean text) (10 ∷ []) (is_well_formed-clean text w) refl

pub good-first : (now : ℕ) (text : Text) → is_well_formed text ≡ true → IsGoodBirth (record { first = first_rev now text; later = []; nops = [] })
good-first now text w = record {
  first = ap ends_well (first-text now text) ∙ ends-newline (plain (clean text));
  text = ap (λ d. is_well_formed (text_of d)) (first-text now text) ∙ text-newline text w;
  later = λ i v h. none_some h;
}

pub line-first : (now : ℕ) (text : Text) → lacks_newline (head_doc (record { first = first_rev now text; later = []; nops = [] })) ≡ false
line-first now text = ap lacks_newline (first-text now text) ∙ line-newline (plain (clean text))
