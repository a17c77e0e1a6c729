-- Edits, and nothing heard of others: what takes them back, and makes them again.
use Rattle.std.proofs.Common.{◌≡◌, ℕ, zero, suc, ◌+◌, ◌≤◌, Bool, true, false, true≢false, not, if◌then◌else◌, List, [], ◌∷◌, ◌++◌, length, min, reverse, take, drop, refl, sym, ap, ◌∙◌, subst, arith, append_assoc, append-nil}
use Rattle.std.proofs.lemmas.List.{reverse-append, reverse-reverse, length-reverse, length-take, length-take-le, take-append-le, take_all, length-append}
use Rattle.ep_cs.specs.Change.{Change}
use Rattle.ep_cs.specs.Doc.{Doc}
use Rattle.ep_cs.specs.Edit.{Edit, apply, identity}
use Rattle.ep_cs.specs.Fits.{Fits, is_identity}
use Rattle.ep_cs.specs.NormalRuns.{IsNormal}
use Rattle.ep_cs.proofs.Identity.{apply-identity, only_identity}
use Rattle.ep_history.specs.Kept.{KeptClient, is_kept_own, kept_edited, kept_own, kept_nop, kept_lost, kept_resumed, kept_resumes, kept_submitted}
use Rattle.ep_history.specs.Lists.{or_else}
use Rattle.ep_invert.specs.Inverse.{inverse}
use Rattle.ep_apply.specs.Documents.{IsDocument}
use Rattle.ep_client.specs.declared.heard.Heard.{Heard}
use Rattle.ep_client.specs.declared.heard.Heard.TheVariants.{Commit, Nop, Rev}
use Rattle.ep_undo.specs.Undo.{UndoState, with_client, pushed, undo_edited, undo_hears, undo_other}
use Rattle.ep_undo.specs.Calls.{Call, called, all_called, is_others, IsQuiet, AreQuiet, before_call, views_before, all_undone, views_back, views_again}
use Rattle.ep_undo.specs.Calls.Call.{Edits, Hears, Submits, Loses, Resumes, Undoes, Redoes}
use Rattle.ep_undo.proofs.Later.{submitted-view, dropped-view}
use Rattle.ep_apply.proofs.Documents.{document_made}
use Rattle.ep_invert.proofs.Undone.{inverse_undoes, length-inverse}

-- ---- lists

-- what is cut, and then is cut more
pub fewer : {A : Type 0} (n m : ℕ) (xs ys : List A) → n ≤ m → take n (xs ++ take m ys) ≡ take n (xs ++ ys)
fewer zero m xs ys h = refl
fewer (suc n) zero xs ys h = absurd (omega (arith, h))
fewer (suc n) (suc m) [] [] h = refl
fewer (suc n) (suc m) [] (y ∷ ys) h = ap (λ zs. y ∷ zs) (fewer n m [] ys (omega (arith, h)))
fewer (suc n) (suc m) (x ∷ xs) ys h = ap (λ zs. x ∷ zs) (fewer n (suc m) xs ys (omega (arith, h)))

reverse-cons : {A : Type 0} (x : A) (xs : List A) → reverse (x ∷ xs) ≡ reverse xs ++ x ∷ []
reverse-cons x xs = reverse-append (x ∷ []) xs

-- ---- where a stack leads

-- the documents that a stack leads to
abbrev walk : List Edit → Doc → List Doc
walk [] doc = []
walk (u ∷ us) doc = apply u doc ∷ walk us (apply u doc)

walk-take : (n : ℕ) (us : List Edit) (doc : Doc) → walk (take n us) doc ≡ take n (walk us doc)
walk-take zero us doc = refl
walk-take (suc n) [] doc = refl
walk-take (suc n) (u ∷ us) doc = ap (λ docs. apply u doc ∷ docs) (walk-take n us (apply u doc))

-- each is of as many units, and what it makes is a document
abbrev IsWalk : Doc → List Edit → Type 0
IsWalk doc [] = Unit {0}
IsWalk doc (u ∷ us) = (length doc ≡ length u.places) × IsDocument (apply u doc) × IsWalk (apply u doc) us

cut-walk : (a b : ℕ) (doc : Doc) (us : List Edit) → IsWalk doc (take a us) → IsWalk doc (take a (take b us))
cut-walk zero b doc us h = tt
cut-walk (suc a) zero doc us h = tt
cut-walk (suc a) (suc b) doc [] h = tt
cut-walk (suc a) (suc b) doc (u ∷ us) h = (h.0, h.1, cut-walk a b (apply u doc) us h.2)

-- a client whose view is a document, and whose last edits, as many as these, can be taken back
pub record IsAble (docs : List Doc) (s : UndoState) : Type 0 where
  pub shown : IsDocument s.client.view
  pub undos : IsWalk s.client.view (take (length docs) s.undos)

abbrev back_docs : UndoState → List Doc
back_docs s = walk s.undos s.client.view

abbrev again_docs : UndoState → List Doc
again_docs s = walk s.redos s.client.view

-- ---- a call

pub nothing-edited : (e : Edit) (doc : Doc) → is_identity e ≡ true → length doc ≡ length e.places → apply e doc ≡ doc
nothing-edited e doc i n =
    let h : e ≡ identity (length doc) = only_identity e i ∙ ap identity (sym n) in
    ap (λ x. apply x doc) h ∙ apply-identity doc

able-edit : (docs : List Doc) (c : Change) (s : UndoState) → IsNormal c → Fits c s.client.view → IsAble docs s
    → IsAble (s.client.view ∷ docs) (record { client = kept_edited c.edit s.client; undos = pushed (inverse c.edit s.client.view) s.undos; redos = [] })
able-edit docs c s n f a =
    let v = s.client.view in
    let back = inverse_undoes c.edit v f.length a.shown.values in
    record {
      shown = document_made c v n f a.shown;
      undos = cut-walk (suc (length docs)) 100 (apply c.edit v) (inverse c.edit v ∷ s.undos) (
        sym (length-inverse c.edit v f.length),
        subst IsDocument (sym back) a.shown,
        subst (λ d. IsWalk d (take (length docs) s.undos)) (sym back) a.undos,
      );
    }

docs-edit : (c : Change) (s : UndoState) → Fits c s.client.view → IsDocument s.client.view
    → take 100 (walk (pushed (inverse c.edit s.client.view) s.undos) (apply c.edit s.client.view)) ≡ take 100 (s.client.view ∷ back_docs s)
docs-edit c s f a =
    let v = s.client.view in
    ap (take 100) (walk-take 100 (inverse c.edit v ∷ s.undos) (apply c.edit v))
    ∙ fewer 100 100 [] (walk (inverse c.edit v ∷ s.undos) (apply c.edit v)) (omega arith)
    ∙ ap (λ (d : Doc). take 100 (d ∷ walk s.undos d)) (inverse_undoes c.edit v f.length a.values)

-- after a quiet call more can be taken back where it is an edit that alters something, and else just as much
pub record IsQuietStep (docs : List Doc) (doc : Doc) (c : Call) (s t : UndoState) : Type 0 where
  pub able : IsAble (before_call c doc docs) t
  pub leads : take 100 (back_docs t) ≡ take 100 (before_call c doc (back_docs s))

same-able : (docs : List Doc) (s : UndoState) (k : KeptClient) → k.view ≡ s.client.view → IsAble docs s → IsAble docs (with_client s k)
same-able docs s k e a = record { shown = subst IsDocument (sym e) a.shown; undos = subst (λ d. IsWalk d (take (length docs) s.undos)) (sym e) a.undos }

same-docs : (s : UndoState) (k : KeptClient) → k.view ≡ s.client.view → take 100 (walk s.undos k.view) ≡ take 100 (back_docs s)
same-docs s k e = ap (λ d. take 100 (walk s.undos d)) e

-- a call that is no edit
same-step : (docs : List Doc) (c : Call) (s : UndoState) (k : KeptClient) → k.view ≡ s.client.view → ((ds : List Doc) → before_call c s.client.view ds ≡ ds) → IsAble docs s → IsQuietStep docs s.client.view c s (with_client s k)
same-step docs c s k e b a = record {
  able = subst (λ ds. IsAble ds (with_client s k)) (sym (b docs)) (same-able docs s k e a);
  leads = same-docs s k e ∙ ap (take 100) (sym (b (back_docs s)));
}

edit-step : (docs : List Doc) (c : Change) (s : UndoState) → IsNormal c → Fits c s.client.view → IsAble docs s → IsQuietStep docs s.client.view (Edits c) s (undo_edited c.edit s)
edit-step docs c s n f a = let h = go (is_identity c.edit) refl in record { able = h.0; leads = h.1 }
  where
    same : UndoState
    same = with_client s (kept_edited c.edit s.client)

    more : UndoState
    more = record { client = kept_edited c.edit s.client; undos = pushed (inverse c.edit s.client.view) s.undos; redos = [] }

    go : (t : Bool) → is_identity c.edit ≡ t
        → IsAble (if t then docs else s.client.view ∷ docs) (if t then same else more)
        × (take 100 (back_docs (if t then same else more)) ≡ take 100 (if t then back_docs s else s.client.view ∷ back_docs s))
    go true e =
        let v = nothing-edited c.edit s.client.view e f.length in
        (same-able docs s (kept_edited c.edit s.client) v a, same-docs s (kept_edited c.edit s.client) v)
    go false e = (able-edit docs c s n f a, docs-edit c s f a.shown)

hears-step : (docs : List Doc) (h : Heard) (s : UndoState) → is_others h s.client ≡ false → IsAble docs s → IsQuietStep docs s.client.view (Hears h) s (undo_hears h s)
hears-step docs (Commit rev) s e a = same-step docs (Hears (Commit rev)) s (kept_own s.client) refl (λ ds. refl) a
hears-step docs (Nop rev) s e a = same-step docs (Hears (Nop rev)) s (kept_nop s.client) refl (λ ds. refl) a
hears-step docs (Rev rev change session) s e a = go (is_kept_own session s.client.sent_in) e
  where
    go : (own : Bool) → not own ≡ false → IsQuietStep docs s.client.view (Hears (Rev rev change session)) s (if own then with_client s (kept_own s.client) else undo_other change.edit s)
    go true e = same-step docs (Hears (Rev rev change session)) s (kept_own s.client) refl (λ ds. refl) a
    go false e = absurd (true≢false e)

quiet-step : (docs : List Doc) (c : Call) (s : UndoState) → IsQuiet c s → IsAble docs s → IsQuietStep docs s.client.view c s (called c s)
quiet-step docs (Edits c) s q a = edit-step docs c s q.0 q.1 a
quiet-step docs (Hears h) s q a = hears-step docs h s q a
quiet-step docs Submits s q a = same-step docs Submits s (or_else (kept_submitted s.client) s.client) (submitted-view s.client) (λ ds. refl) a
quiet-step docs Loses s q a = same-step docs Loses s (kept_lost s.client) refl (λ ds. refl) a
quiet-step docs (Resumes session told) s q a =
    same-step docs (Resumes session told) s (kept_resumes session told s.client) (dropped-view (kept_resumed session told s.client)) (λ ds. refl) a
quiet-step docs Undoes s q a = absurd q
quiet-step docs Redoes s q a = absurd q

-- ---- all calls

turned : (c : Call) (doc : Doc) (docs ds : List Doc) → reverse (before_call c doc docs) ++ ds ≡ reverse docs ++ before_call c doc ds
turned (Edits c) doc docs ds = go (is_identity c.edit)
  where
    go : (t : Bool) → reverse (if t then docs else doc ∷ docs) ++ ds ≡ reverse docs ++ (if t then ds else doc ∷ ds)
    go true = refl
    go false = ap (λ xs. xs ++ ds) (reverse-cons doc docs) ∙ append_assoc (reverse docs) (doc ∷ []) ds
turned (Hears h) doc docs ds = refl
turned Submits doc docs ds = refl
turned Loses doc docs ds = refl
turned (Resumes session told) doc docs ds = refl
turned Undoes doc docs ds = refl
turned Redoes doc docs ds = refl

pub quiet-calls : (docs : List Doc) (cs : List Call) (s : UndoState) → AreQuiet cs s → IsAble docs s
    → IsAble (reverse (views_before cs s) ++ docs) (all_called cs s) × (take 100 (back_docs (all_called cs s)) ≡ take 100 (reverse (views_before cs s) ++ back_docs s))
quiet-calls docs [] s q a = (a, refl)
quiet-calls docs (c ∷ cs) s q a =
    let v = s.client.view in
    let h = quiet-step docs c s q.0 a in
    let t = called c s in
    let r = quiet-calls (before_call c v docs) cs t q.1 h.able in
    let before = reverse (views_before cs t) in (
      subst (λ ds. IsAble ds (all_called cs t)) (sym (turned c v (views_before cs t) docs)) r.0,
      r.1
          ∙ sym (fewer 100 100 before (back_docs t) (omega arith))
          ∙ ap (λ ds. take 100 (before ++ ds)) h.leads
          ∙ fewer 100 100 before (before_call c v (back_docs s)) (omega arith)
          ∙ ap (take 100) (sym (turned c v (views_before cs t) (back_docs s))),
    )

-- ---- taken back

abbrev state : KeptClient → List Edit → List Edit → UndoState
state k us rs = record { client = k; undos = us; redos = rs }

back-views : (n : ℕ) (us rs : List Edit) (k : KeptClient) → n ≤ length (walk us k.view) → views_back n (state k us rs) ≡ take n (walk us k.view)
back-views zero us rs k h = refl
back-views (suc n) [] rs k h = absurd (omega (arith, h))
back-views (suc n) (u ∷ us) rs k h = ap (λ docs. apply u k.view ∷ docs) (back-views n us (inverse u k.view ∷ rs) (kept_edited u k) (omega (arith, h)))

-- ---- and made again

again-views : (n : ℕ) (us rs : List Edit) (k : KeptClient) → n ≤ length (walk rs k.view) → views_again n (state k us rs) ≡ take n (walk rs k.view)
again-views zero us rs k h = refl
again-views (suc n) us [] k h = absurd (omega (arith, h))
again-views (suc n) us (r ∷ rs) k h = ap (λ docs. apply r k.view ∷ docs) (again-views n (inverse r k.view ∷ us) rs (kept_edited r k) (omega (arith, h)))

-- what was taken back can be made again, the last one first
again-docs : (n : ℕ) (us rs : List Edit) (k : KeptClient) → n ≤ length (walk us k.view) → IsDocument k.view → IsWalk k.view (take n us)
    → again_docs (all_undone n (state k us rs)) ≡ reverse (take n (k.view ∷ walk us k.view)) ++ walk rs k.view
again-docs zero us rs k h d w = refl
again-docs (suc n) [] rs k h d w = absurd (omega (arith, h))
again-docs (suc n) (u ∷ us) rs k h d w =
    let v = k.view in
    let made = apply u v in
    let later = reverse (take n (made ∷ walk us made)) in
    again-docs n us (inverse u v ∷ rs) (kept_edited u k) (omega (arith, h)) w.1 w.2
    ∙ ap (λ (x : Doc). later ++ x ∷ walk rs x) (inverse_undoes u v w.0 d.values)
    ∙ sym (append_assoc later (v ∷ []) (walk rs v))
    ∙ sym (ap (λ xs. xs ++ walk rs v) (reverse-cons v (take n (made ∷ walk us made))))

-- ---- the views

whole : {A : Type 0} (n : ℕ) (xs ys : List A) → length xs ≡ n → take n (xs ++ ys) ≡ xs
whole n xs ys e = take-append-le n xs ys (omega (arith, e)) ∙ take_all n xs (omega (arith, e))

shifted : (docs : List Doc) (v : Doc) (all : List Doc) → take (length docs) all ≡ reverse docs → reverse (take (length docs) (v ∷ all)) ≡ drop 1 (docs ++ v ∷ [])
shifted [] v all e = refl
shifted (d ∷ docs) v all e =
    let m = length docs in
    let cut : take m all ≡ reverse docs =
    sym (fewer m (suc m) [] all (omega arith)) ∙ ap (take m) (e ∙ reverse-cons d docs) ∙ whole m (reverse docs) (d ∷ []) (length-reverse docs) in
    reverse-cons v (take m all) ∙ ap (λ xs. reverse xs ++ v ∷ []) cut ∙ ap (λ xs. xs ++ v ∷ []) (reverse-reverse docs)

pub back-and-again : (cs : List Call) (s : UndoState) → IsDocument s.client.view → AreQuiet cs s → length (views_before cs s) ≤ 100
    → (views_back (length (views_before cs s)) (all_called cs s) ≡ reverse (views_before cs s))
    × (views_again (length (views_before cs s)) (all_undone (length (views_before cs s)) (all_called cs s)) ≡ drop 1 (views_before cs s ++ (all_called cs s).client.view ∷ []))
back-and-again cs s g q h =
    let docs = views_before cs s in
    let n = length docs in
    let t = all_called cs s in
    let all = back_docs t in
    let r = quiet-calls [] cs s q (record { shown = g; undos = tt }) in
    let turned_long : length (reverse docs) ≡ n = length-reverse docs in
    let cut : take n all ≡ reverse docs =
    sym (fewer n 100 [] all h) ∙ ap (take n) r.1 ∙ fewer n 100 [] (reverse docs ++ back_docs s) h ∙ whole n (reverse docs) (back_docs s) turned_long in
    let size : min n (length all) ≡ n = sym (length-take n all) ∙ ap length cut ∙ turned_long in
    let enough : n ≤ length all = omega (arith, size) in
    let able : IsWalk t.client.view (take n t.undos) = subst (λ m. IsWalk t.client.view (take m t.undos)) (ap length (append-nil (reverse docs)) ∙ turned_long) r.0.undos in
    let made = again-docs n t.undos t.redos t.client enough r.0.shown able in
    let firsts = reverse (take n (t.client.view ∷ all)) in
    let count : length firsts ≡ n = length-reverse (take n (t.client.view ∷ all)) ∙ length-take-le n (t.client.view ∷ all) (omega (arith, enough)) in
    let long : length (again_docs (all_undone n t)) ≡ n + length (again_docs t) = ap length made ∙ length-append firsts (again_docs t) ∙ ap (λ k. k + length (again_docs t)) count in
    let u = all_undone n t in (
      back-views n t.undos t.redos t.client enough ∙ cut,
      again-views n u.undos u.redos u.client (omega (arith, long)) ∙ ap (take n) made ∙ whole n firsts (again_docs t) count ∙ shifted docs t.client.view all cut,
    )
