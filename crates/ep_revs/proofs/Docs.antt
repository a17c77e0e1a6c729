-- The documents of revisions, by place, and what is kept of them when one more comes.
use Rattle.std.proofs.Common.{◌≡◌, ℕ, zero, suc, ◌+◌, ◌-◌, ◌*◌, ◌/◌, ◌%◌, ◌<◌, ◌≤◌, List, [], ◌∷◌, ◌++◌, length, take, drop, get_or, Option, Some, None, ◌⊎◌, inl, inr, refl, sym, ap, ◌∙◌, subst, arith, length-append, length-drop, add-one}
use Rattle.std.proofs.lemmas.List.{take-append-le, take_all, get_or_append_left}
use Rattle.std.proofs.Math.Seq.{get_or-append_seam}
use Rattle.std.proofs.lemmas.Bool.{cases_lt}
use Rattle.ep_cs.specs.Doc.{Doc}
use Rattle.ep_cs.specs.Edit.{apply}
use Rattle.ep_cs.specs.Fits.{Fits}
use Rattle.ep_cs.specs.Made.{AreMade}
use Rattle.ep_history.specs.declared.rev.Rev.{Rev}
use Rattle.ep_history.specs.History.{newline, made}
use Rattle.ep_history.proofs.Lists.{none_some, some_same}
use Rattle.ep_revs.specs.Revisions.{changes_of, doc_of, last_doc}
use Rattle.ep_revs.specs.Held.{AreKept}

-- the change at a place fits the document of those before it, and makes the next
pub fits-next : (doc : Doc) (vs : List Rev) (i : ℕ) (d : Rev) → AreMade doc (changes_of vs) → i < length vs → Fits (get_or vs i d).change (made doc (take i vs))
fits-next doc [] i d h l = absurd (omega (arith, l))
fits-next doc (v ∷ vs) zero d h l = h.0
fits-next doc (v ∷ vs) (suc i) d h l = fits-next (apply v.change.edit doc) vs i d h.1 (omega (arith, l))

pub made-next : (doc : Doc) (vs : List Rev) (i : ℕ) (d : Rev) → i < length vs → made doc (take (suc i) vs) ≡ apply (get_or vs i d).change.edit (made doc (take i vs))
made-next doc [] i d l = absurd (omega (arith, l))
made-next doc (v ∷ vs) zero d l = refl
made-next doc (v ∷ vs) (suc i) d l = made-next (apply v.change.edit doc) vs i d (omega (arith, l))

-- one step: of the document of revision i the revision behind it makes the next
pub step-fits : (vs : List Rev) (i : ℕ) (v : Rev) (doc : Doc) → AreMade newline (changes_of vs) → i + 1 < length vs → v ≡ get_or vs (i + 1) v → doc ≡ doc_of vs i → Fits v.change doc
step-fits vs i v doc h l e f =
    subst (Fits v.change) (sym f)
    (subst (λ (u : Rev). Fits u.change (doc_of vs i)) (sym (e ∙ ap (λ k. get_or vs k v) (add-one i))) (fits-next newline vs (suc i) v h (omega (arith, l))))

pub step-made : (vs : List Rev) (i : ℕ) (v : Rev) (doc : Doc) → i + 1 < length vs → v ≡ get_or vs (i + 1) v → doc ≡ doc_of vs i → apply v.change.edit doc ≡ doc_of vs (i + 1)
step-made vs i v doc l e f =
    ap (apply v.change.edit) f ∙ ap (λ (u : Rev). apply u.change.edit (doc_of vs i)) (e ∙ ap (λ k. get_or vs k v) (add-one i))
    ∙ sym (made-next newline vs (suc i) v (omega (arith, l))) ∙ ap (doc_of vs) (sym (add-one i))

-- the rest of them is made to the document of those before
pub made-since : (doc : Doc) (vs : List Rev) (r : ℕ) → AreMade doc (changes_of vs) → AreMade (made doc (take r vs)) (changes_of (drop r vs))
made-since doc vs zero h = h
made-since doc [] (suc r) h = tt
made-since doc (v ∷ vs) (suc r) h = made-since (apply v.change.edit doc) vs r h.1

-- the revisions behind one, as a slice
pub made-behind : (all held vs : List Rev) (r : ℕ) → all ≡ held → held ≡ vs → AreMade newline (changes_of held)
    → AreMade (doc_of vs r) (changes_of (take (length all - (r + 1)) (drop (r + 1) all)))
made-behind all held vs r e f h =
    let rest : take (length all - (r + 1)) (drop (r + 1) all) ≡ drop (suc r) all =
    take_all (length all - (r + 1)) (drop (r + 1) all) (omega (arith, length-drop (r + 1) all)) ∙ ap (λ n. drop n all) (add-one r) in
    subst (λ (us : List Rev). AreMade (doc_of vs r) (changes_of us)) (sym rest)
    (subst (λ (us : List Rev). AreMade (doc_of vs r) (changes_of (drop (suc r) us))) (sym (e ∙ f))
    (made-since newline vs (suc r) (subst (λ (us : List Rev). AreMade newline (changes_of us)) f h)))

-- ---- one revision more

pub made-more : (doc : Doc) (vs : List Rev) (v : Rev) → AreMade doc (changes_of vs) → Fits v.change (made doc vs) → AreMade doc (changes_of (vs ++ v ∷ []))
made-more doc [] v h f = (f, tt)
made-more doc (u ∷ vs) v h f = (h.0, made-more (apply u.change.edit doc) vs v h.1 f)

pub doc-more : (doc : Doc) (vs : List Rev) (v : Rev) → made doc (vs ++ v ∷ []) ≡ apply v.change.edit (made doc vs)
doc-more doc [] v = refl
doc-more doc (u ∷ vs) v = doc-more (apply u.change.edit doc) vs v

pub last-pushed : (old mid new : List Rev) (v : Rev) (doc after : Doc) → doc ≡ last_doc old → mid ≡ old → new ≡ mid ++ v ∷ [] → after ≡ apply v.change.edit doc → after ≡ last_doc new
last-pushed old mid new v doc after e f g is =
    is ∙ ap (apply v.change.edit) e ∙ sym (doc-more newline old v) ∙ ap (made newline) (sym (g ∙ ap (λ (us : List Rev). us ++ v ∷ []) f))

-- the earlier documents stay
pub doc-stays : (vs : List Rev) (v : Rev) (r : ℕ) → r < length vs → doc_of (vs ++ v ∷ []) r ≡ doc_of vs r
doc-stays vs v r h = ap (made newline) (take-append-le (suc r) vs (v ∷ []) (omega (arith, h)))

-- the last document is that of the last number
pub doc-last : (vs : List Rev) (r : ℕ) → length vs ≤ suc r → doc_of vs r ≡ last_doc vs
doc-last vs r h = ap (made newline) (take_all (suc r) vs h)

-- ---- what is kept

-- each frame up to the last revision is kept
pub frame-kept : (vs : List Rev) (frames : List Doc) (past : Option Doc) (r : ℕ) (d : Doc) → AreKept vs frames past → r < length vs
    → (r / 100 < length frames) × (get_or frames (r / 100) d ≡ doc_of vs (r / 100 * 100))
frame-kept vs frames past r d h l =
    let n = h.count in
    let k : r / 100 < length frames = omega (arith, n, l) in
    (k, h.each (r / 100) d k)

-- one frame more
pub frames-more : (vs : List Rev) (frames : List Doc) (v : Rev) (doc : Doc)
    → ((k : ℕ) (d : Doc) → k < length frames → get_or frames k d ≡ doc_of vs (k * 100)) → length frames * 100 ≡ length vs → doc ≡ last_doc (vs ++ v ∷ [])
    → (k : ℕ) (d : Doc) → k < length (frames ++ doc ∷ []) → get_or (frames ++ doc ∷ []) k d ≡ doc_of (vs ++ v ∷ []) (k * 100)
frames-more vs frames v doc h all last k d l = go (cases_lt k (length frames))
  where
    go : (k < length frames) ⊎ (length frames ≤ k) → get_or (frames ++ doc ∷ []) k d ≡ doc_of (vs ++ v ∷ []) (k * 100)
    go (inl b) = get_or_append_left frames (doc ∷ []) d k b ∙ h k d b ∙ sym (doc-stays vs v (k * 100) (omega (arith, all, b)))
    go (inr b) =
        let n = length-append frames (doc ∷ []) in
        let m = length-append vs (v ∷ []) in
        let e : k ≡ length frames = omega (arith, l, b, n) in
        ap (λ i. get_or (frames ++ doc ∷ []) i d) e ∙ get_or-append_seam frames doc [] d ∙ last
        ∙ sym (doc-last (vs ++ v ∷ []) (k * 100) (omega (arith, m, e, all)))

-- the next revision is a frame
pub frame-more : (vs : List Rev) (frames : List Doc) (past : Option Doc) (v : Rev) (doc : Doc) → AreKept vs frames past
    → Fits v.change (last_doc vs) → doc ≡ apply v.change.edit (last_doc vs) → length vs % 100 ≡ 0
    → AreKept (vs ++ v ∷ []) (frames ++ doc ∷ []) None
frame-more vs frames past v doc h f e z =
    let n = length-append vs (v ∷ []) in
    let m = length-append frames (doc ∷ []) in
    let c = h.count in
    let all : length frames * 100 ≡ length vs = omega (arith, c, z) in
    let last : doc ≡ last_doc (vs ++ v ∷ []) = e ∙ sym (doc-more newline vs v) in
    let at : length (frames ++ doc ∷ []) - 1 ≡ length frames = omega (arith, m) in
    record {
      made = made-more newline vs v h.made f;
      count = omega (arith, n, m, c, z);
      each = frames-more vs frames v doc h.each all last;
      head = λ d x. none_some x;
      level = λ x y d. ap (λ i. get_or (frames ++ doc ∷ []) i d) at ∙ get_or-append_seam frames doc [] d ∙ last;
    }

-- the next revision is none
pub past-more : (vs : List Rev) (frames : List Doc) (past : Option Doc) (v : Rev) (doc : Doc) → AreKept vs frames past
    → Fits v.change (last_doc vs) → doc ≡ apply v.change.edit (last_doc vs) → 0 < length vs % 100
    → AreKept (vs ++ v ∷ []) frames (Some doc)
past-more vs frames past v doc h f e z =
    let n = length-append vs (v ∷ []) in
    let c = h.count in
    record {
      made = made-more newline vs v h.made f;
      count = omega (arith, n, c, z);
      each = λ k d l. h.each k d l ∙ sym (doc-stays vs v (k * 100) (omega (arith, c, l)));
      head = λ d x. sym (some_same x) ∙ e ∙ sym (doc-more newline vs v);
      level = λ x y d. none_some (sym x);
    }

-- what a push keeps, where the lists and the document past the frames are these
pub keeps-frame : (vs old mid new : List Rev) (frames more now : List Doc) (past behind : Option Doc) (v : Rev) (doc : Doc) → AreKept vs frames past → vs ≡ old
    → Fits v.change (last_doc old) → doc ≡ apply v.change.edit (last_doc old) → length vs % 100 ≡ 0
    → more ≡ frames ++ doc ∷ [] → mid ≡ vs → now ≡ more → behind ≡ None → new ≡ mid ++ v ∷ [] → AreKept new now behind
keeps-frame vs old mid new frames more now past behind v doc h e f g z added same-revs same-frames none pushed =
    let fits : Fits v.change (last_doc vs) = subst (λ (us : List Rev). Fits v.change (last_doc us)) (sym e) f in
    let is : doc ≡ apply v.change.edit (last_doc vs) = g ∙ ap (λ (us : List Rev). apply v.change.edit (last_doc us)) (sym e) in
    let more-revs : new ≡ vs ++ v ∷ [] = pushed ∙ ap (λ (us : List Rev). us ++ v ∷ []) same-revs in
    subst (λ (us : List Rev). AreKept us now behind) (sym more-revs)
    (subst (λ (ds : List Doc). AreKept (vs ++ v ∷ []) ds behind) (sym (same-frames ∙ added))
    (subst (λ (o : Option Doc). AreKept (vs ++ v ∷ []) (frames ++ doc ∷ []) o) (sym none) (frame-more vs frames past v doc h fits is z)))

pub keeps-past : (vs old mid new : List Rev) (frames now : List Doc) (past behind : Option Doc) (v : Rev) (doc : Doc) → AreKept vs frames past → vs ≡ old
    → Fits v.change (last_doc old) → doc ≡ apply v.change.edit (last_doc old) → (length vs % 100 ≡ 0 → ⊥)
    → mid ≡ vs → now ≡ frames → behind ≡ Some doc → new ≡ mid ++ v ∷ [] → AreKept new now behind
keeps-past vs old mid new frames now past behind v doc h e f g z same-revs same-frames some pushed =
    let fits : Fits v.change (last_doc vs) = subst (λ (us : List Rev). Fits v.change (last_doc us)) (sym e) f in
    let is : doc ≡ apply v.change.edit (last_doc vs) = g ∙ ap (λ (us : List Rev). apply v.change.edit (last_doc us)) (sym e) in
    let more-revs : new ≡ vs ++ v ∷ [] = pushed ∙ ap (λ (us : List Rev). us ++ v ∷ []) same-revs in
    subst (λ (us : List Rev). AreKept us now behind) (sym more-revs)
    (subst (λ (ds : List Doc). AreKept (vs ++ v ∷ []) ds behind) (sym same-frames)
    (subst (λ (o : Option Doc). AreKept (vs ++ v ∷ []) frames o) (sym some) (past-more vs frames past v doc h fits is (omega (arith, z)))))
