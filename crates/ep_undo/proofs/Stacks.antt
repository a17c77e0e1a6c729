-- Stacks in code.
use Rattle.std.proofs.Common.{◌≡◌, true, false, ℕ, zero, suc, ◌+◌, ◌≤◌, List, [], ◌∷◌, ◌++◌, map, length, take, drop, vec_len, vec_capacity, Result, Ok, Err, inl, inr, refl, sym, ap, ap₂, ◌∙◌, subst, arith, append-nil}
use Rattle.std.specs.Prelude.{OnOk, OnErr}
use Rattle.std.proofs.lemmas.List.{map-append, length-append, length-map, take_all}
use Rattle.ep_cs.specs.Change.{Change}
use Rattle.ep_cs.specs.Doc.{Doc}
use Rattle.ep_cs.specs.Edit.{Edit, apply}
use Rattle.ep_cs.specs.Fits.{Fits}
use Rattle.ep_cs.specs.Follow.{follow}
use Rattle.ep_undo.specs.Undo.{down}
use Rattle.ep_undo.specs.Stacks.{edits_of, essence, all_down, stood, IsWay, IsOver, IsChain, IsStackOf, HasRoom, AreAlike, AreHeard, IsToHear}
use Rattle.ep_undo.specs.declared.stack.Record.{Record}

-- ---- changes that go down

pub all_down-append : (ds es us : List Edit) → all_down (ds ++ es) us ≡ all_down es (all_down ds us)
all_down-append [] es us = refl
all_down-append (d ∷ ds) es us = all_down-append ds es (down d us)

pub edits-append : (cs ds : List Change) → edits_of (cs ++ ds) ≡ edits_of cs ++ edits_of ds
edits-append cs ds = map-append (λ (c : Change). c.edit) cs ds

pub all_down-nothing : (ds : List Edit) → all_down ds [] ≡ []
all_down-nothing [] = refl
all_down-nothing (d ∷ ds) = all_down-nothing ds

length-down : (d : Edit) (us : List Edit) → length (down d us) ≡ length us
length-down d [] = refl
length-down d (u ∷ us) = ap suc (length-down (follow false u d) us)

length-all_down : (ds us : List Edit) → length (all_down ds us) ≡ length us
length-all_down [] us = refl
length-all_down (d ∷ ds) us = length-all_down ds (down d us) ∙ length-down d us

down-take : (n : ℕ) (d : Edit) (us : List Edit) → down d (take n us) ≡ take n (down d us)
down-take zero d us = refl
down-take (suc n) d [] = refl
down-take (suc n) d (u ∷ us) = ap (λ vs. follow true d u ∷ vs) (down-take n (follow false u d) us)

all_down-take : (n : ℕ) (ds us : List Edit) → all_down ds (take n us) ≡ take n (all_down ds us)
all_down-take n [] us = refl
all_down-take n (d ∷ ds) us = ap (all_down ds) (down-take n d us) ∙ all_down-take n ds (down d us)

-- ---- records

pub stood-top : (rs : List Record) (r : Record) (us : List Edit) → stood (rs ++ r ∷ []) us ≡ all_down (edits_of r.heard.items) (r.change.edit ∷ stood rs us)
stood-top [] r us = refl
stood-top (q ∷ rs) r us = stood-top rs r (all_down (edits_of q.heard.items) (q.change.edit ∷ us))

pub length-stood : (rs : List Record) (us : List Edit) → length (stood rs us) ≡ length rs + length us
length-stood [] us = omega arith
length-stood (r ∷ rs) us =
    let h = length-stood rs (all_down (edits_of r.heard.items) (r.change.edit ∷ us)) in
    let k = length-all_down (edits_of r.heard.items) (r.change.edit ∷ us) in
    omega (arith, h, k)

stood-take : (n k : ℕ) (rs : List Record) (us : List Edit) → k ≡ length rs + n → stood rs (take n us) ≡ take k (stood rs us)
stood-take n k [] us e = ap (λ m. take m us) (omega (arith, e))
stood-take n k (r ∷ rs) us e =
    ap (stood rs) (all_down-take (suc n) (edits_of r.heard.items) (r.change.edit ∷ us))
    ∙ stood-take (suc n) k rs (all_down (edits_of r.heard.items) (r.change.edit ∷ us)) (omega (arith, e))

-- without the lowest
pub cut-stood : (rs : List Record) → length rs ≡ 101 → stood (drop 1 rs) [] ≡ take 100 (stood rs [])
cut-stood [] e = absurd (omega (arith, e))
cut-stood (r ∷ rs) e = stood-take 0 100 rs (all_down (edits_of r.heard.items) (r.change.edit ∷ [])) (omega (arith, e))

pub short-stood : (rs : List Record) → length rs ≤ 100 → stood rs [] ≡ take 100 (stood rs [])
short-stood rs h = let n = length-stood rs [] in sym (take_all 100 (stood rs []) (omega (arith, n, h)))

-- ---- ways and chains

pub way-append : (cs ds : List Change) (a b c : Doc) → IsWay cs a b → IsWay ds b c → IsWay (cs ++ ds) a c
way-append [] ds a b c w x = subst (λ d. IsWay ds d c) (sym w) x
way-append (d ∷ cs) ds a b c w x = (w.0, way-append cs ds (apply d.edit a) b c w.1 x)

pub chain-top : (rs : List Record) (r : Record) (doc mid view : Doc) → IsChain doc rs mid → IsOver mid r view → IsChain doc (rs ++ r ∷ []) view
chain-top [] r doc mid view c o = (view, record { base = o.base; fits = o.fits; makes = o.makes ∙ sym c; way = o.way }, refl)
chain-top (q ∷ rs) r doc mid view c o = (c.0, c.1, chain-top rs r c.0 mid view c.2 o)

pub chain-pop : (rs : List Record) (r : Record) (doc view : Doc) → IsChain doc (rs ++ r ∷ []) view → (mid : Doc) × IsChain doc rs mid × IsOver mid r view
chain-pop [] r doc view c = (doc, refl, subst (IsOver doc r) c.2 c.1)
chain-pop (q ∷ rs) r doc view c = let h = chain-pop rs r c.0 view c.2 in (h.0, (c.0, c.1, h.1), h.2)

-- ---- what waits at the top

pub can-top : (n : ℕ) (rs : List Record) (r : Record) → HasRoom n (rs ++ r ∷ []) → vec_len r.heard + n ≤ vec_capacity r.heard
can-top n [] r h = h
can-top n (q ∷ []) r h = h
can-top n (q ∷ (s ∷ rs)) r h = can-top n (s ∷ rs) r h

pub top-can : (n : ℕ) (rs : List Record) (r : Record) → vec_len r.heard + n ≤ vec_capacity r.heard → HasRoom n (rs ++ r ∷ [])
top-can n [] r h = h
top-can n (q ∷ []) r h = h
top-can n (q ∷ (s ∷ rs)) r h = top-can n (s ∷ rs) r h

length-top : (rs : List Record) (r : Record) → length (rs ++ r ∷ []) ≡ length rs + 1
length-top rs r = length-append rs (r ∷ [])

-- the top is another record of the same change and heard
pub alike-top : (rs : List Record) (q r : Record) → r.change ≡ q.change → r.heard.items ≡ q.heard.items → AreAlike (rs ++ q ∷ []) (rs ++ r ∷ [])
alike-top rs q r e f = record {
  edits = stood-top rs r [] ∙ ap₂ (λ (c : Change) (ds : List Change). all_down (edits_of ds) (c.edit ∷ stood rs [])) e f ∙ sym (stood-top rs q []);
  chain = λ view c.
      let h = chain-pop rs q c.0 view c.1 in
      let o = h.2 in (
        c.0,
        chain-top rs r c.0 h.0 view h.1 (record {
          base = o.base;
          fits = subst (λ (x : Change). Fits x o.base) (sym e) o.fits;
          makes = ap (λ (x : Change). apply x.edit o.base) e ∙ o.makes;
          way = subst (λ ds. IsWay ds o.base view) (sym f) o.way;
        }),
      );
  count = length-top rs r ∙ sym (length-top rs q);
}

-- ---- copies

-- a list's first, or another
first_or : {A : Type 0} → A → List A → A
first_or a [] = a
first_or a (x ∷ xs) = x

behind : {A : Type 0} → List A → List A
behind [] = []
behind (x ∷ xs) = xs

copies-stood : (rs ss : List Record) → map essence ss ≡ map essence rs → (us : List Edit) → stood ss us ≡ stood rs us
unfolding behind first_or
copies-stood [] [] e us = refl
copies-stood [] (s ∷ ss) e us = absurd (no e)
  where
    no : map essence (s ∷ ss) ≡ [] → ⊥
    no e = cc
copies-stood (r ∷ rs) [] e us = absurd (no e)
  where
    no : [] ≡ map essence (r ∷ rs) → ⊥
    no e = cc
copies-stood (r ∷ rs) (s ∷ ss) e us =
    let h = ap (first_or (essence r)) e in
    ap (λ (x : Change × List Change). stood ss (all_down (edits_of x.1) (x.0.edit ∷ us))) h
    ∙ copies-stood rs ss (ap behind e) (all_down (edits_of r.heard.items) (r.change.edit ∷ us))

copies-over : (doc next : Doc) (r s : Record) → essence s ≡ essence r → IsOver doc r next → IsOver doc s next
copies-over doc next r s e o = record {
  base = o.base;
  fits = subst (λ (x : Change × List Change). Fits x.0 o.base) (sym e) o.fits;
  makes = ap (λ (x : Change × List Change). apply x.0.edit o.base) e ∙ o.makes;
  way = subst (λ (x : Change × List Change). IsWay x.1 o.base next) (sym e) o.way;
}

copies-chain : (rs ss : List Record) → map essence ss ≡ map essence rs → (doc view : Doc) → IsChain doc rs view → IsChain doc ss view
unfolding first_or behind
copies-chain [] [] e doc view c = c
copies-chain [] (s ∷ ss) e doc view c = absurd (no e)
  where
    no : map essence (s ∷ ss) ≡ [] → ⊥
    no e = cc
copies-chain (r ∷ rs) [] e doc view c = absurd (no e)
  where
    no : [] ≡ map essence (r ∷ rs) → ⊥
    no e = cc
copies-chain (r ∷ rs) (s ∷ ss) e doc view c =
    (c.0, copies-over doc c.0 r s (ap (first_or (essence r)) e) c.1, copies-chain rs ss (ap behind e) c.0 view c.2)

pub copies-alike : (rs ss : List Record) → map essence ss ≡ map essence rs → AreAlike rs ss
copies-alike rs ss e = record {
  edits = copies-stood rs ss e [];
  chain = λ view c. (c.0, copies-chain rs ss e c.0 view c.1);
  count = sym (length-map ss essence) ∙ ap length e ∙ length-map rs essence;
}

pub alike-self : (rs : List Record) → AreAlike rs rs
alike-self rs = record { edits = refl; chain = λ view c. c; count = refl }

-- the top heard more
pub heard-top : (rs : List Record) (q r : Record) (cs : List Change) → r.change ≡ q.change → r.heard.items ≡ q.heard.items ++ cs → AreHeard (rs ++ q ∷ []) cs (rs ++ r ∷ [])
heard-top rs q r cs e f = record {
  edits =
      stood-top rs r []
      ∙ ap₂ (λ (c : Change) (ds : List Change). all_down (edits_of ds) (c.edit ∷ stood rs [])) e f
      ∙ ap (λ ds. all_down ds (q.change.edit ∷ stood rs [])) (edits-append q.heard.items cs)
      ∙ all_down-append (edits_of q.heard.items) (edits_of cs) (q.change.edit ∷ stood rs [])
      ∙ ap (all_down (edits_of cs)) (sym (stood-top rs q []));
  chain = λ mid view c w.
      let h = chain-pop rs q c.0 mid c.1 in
      let o = h.2 in (
        c.0,
        chain-top rs r c.0 h.0 view h.1 (record {
          base = o.base;
          fits = subst (λ (x : Change). Fits x o.base) (sym e) o.fits;
          makes = ap (λ (x : Change). apply x.edit o.base) e ∙ o.makes;
          way = subst (λ ds. IsWay ds o.base view) (sym f) (way-append q.heard.items cs o.base mid view o.way w);
        }),
      );
  count = length-top rs r ∙ sym (length-top rs q);
}

-- nothing heard it
pub nothing-heard : (cs : List Change) → AreHeard [] cs []
nothing-heard cs = record { edits = sym (all_down-nothing (edits_of cs)); chain = λ mid view c w. (view, refl); count = refl }

-- ---- one more on top

pub pushed-stood : (rs : List Record) (r : Record) → r.heard.items ≡ [] → stood (rs ++ r ∷ []) [] ≡ r.change.edit ∷ stood rs []
pushed-stood rs r e = stood-top rs r [] ∙ ap (λ ds. all_down (edits_of ds) (r.change.edit ∷ stood rs [])) e

pub pushed-chain : (rs : List Record) (r : Record) (view : Doc) → r.heard.items ≡ [] → Fits r.change view → IsStackOf rs (apply r.change.edit view) → IsStackOf (rs ++ r ∷ []) view
pushed-chain rs r view e f c =
    (c.0, chain-top rs r c.0 (apply r.change.edit view) view c.1 (record { base = view; fits = f; makes = refl; way = subst (λ ds. IsWay ds view view) (sym e) refl }))

pub cut-chain : (rs : List Record) (view : Doc) → IsStackOf rs view → IsStackOf (drop 1 rs) view
cut-chain [] view c = c
cut-chain (r ∷ rs) view c = (c.1.0, c.1.2)

-- ---- by what a call says of the lists

pub heard-at : (old new rs : List Record) (q r : Record) (cs : List Change) → old ≡ rs ++ q ∷ [] → new ≡ rs ++ r ∷ [] → r.change ≡ q.change → r.heard.items ≡ q.heard.items ++ cs → AreHeard old cs new
heard-at old new rs q r cs e f c h = subst (λ xs. AreHeard xs cs new) (sym e) (subst (λ xs. AreHeard (rs ++ q ∷ []) cs xs) (sym f) (heard-top rs q r cs c h))

pub alike-at : (old new rs : List Record) (q r : Record) → old ≡ rs ++ q ∷ [] → new ≡ rs ++ r ∷ [] → r.change ≡ q.change → r.heard.items ≡ q.heard.items → AreAlike old new
alike-at old new rs q r e f c h = subst (λ xs. AreAlike xs new) (sym e) (subst (λ xs. AreAlike (rs ++ q ∷ []) xs) (sym f) (alike-top rs q r c h))

pub heard-none : (old new : List Record) (cs : List Change) → length old ≡ 0 → length new ≡ 0 → AreHeard old cs new
heard-none [] [] cs e f = nothing-heard cs
heard-none [] (r ∷ new) cs e f = absurd (omega (arith, f))
heard-none (r ∷ old) new cs e f = absurd (omega (arith, e))

pub on-ok : {A B P Q : Type 0} (r : Result A B) → (P → Q) → OnOk r P → OnOk r Q
on-ok (Ok x) f p = f p
on-ok (Err x) f p = tt

pub on-err : {A B P Q : Type 0} (r : Result A B) → (P → Q) → OnErr r P → OnErr r Q
on-err (Ok x) f p = tt
on-err (Err x) f p = f p

-- what was to be heard was
pub to-hear : (rs new : List Record) (cs cs' : List Change) → IsToHear rs cs cs' → AreHeard rs cs' new → AreHeard rs cs new
to-hear rs new cs cs' (inl e) h = subst (λ xs. AreHeard rs xs new) e h
to-hear rs new cs cs' (inr e) h =
    let none : length rs ≡ 0 = ap length e.0 in
    heard-none rs new cs none (h.count ∙ none)

-- alike first, and then heard
pub alike-heard : (old mid new : List Record) (cs : List Change) → AreAlike old mid → AreHeard mid cs new → AreHeard old cs new
alike-heard old mid new cs a h = record {
  edits = h.edits ∙ ap (all_down (edits_of cs)) a.edits;
  chain = λ m view c w. h.chain m view (a.chain m c) w;
  count = h.count ∙ a.count;
}

pub on-any : {A B P : Type 0} (r : Result A B) → P → OnOk r P
on-any (Ok x) p = p
on-any (Err x) p = tt

-- alike below the same top
pub alike-under : (old new xs ys : List Record) (t : Record) → old ≡ xs ++ t ∷ [] → new ≡ ys ++ t ∷ [] → AreAlike xs ys → AreAlike old new
alike-under old new xs ys t e f a =
    subst (λ zs. AreAlike zs new) (sym e) (subst (λ zs. AreAlike (xs ++ t ∷ []) zs) (sym f) (record {
      edits = stood-top ys t [] ∙ ap (λ us. all_down (edits_of t.heard.items) (t.change.edit ∷ us)) a.edits ∙ sym (stood-top xs t []);
      chain = λ view c.
          let h = chain-pop xs t c.0 view c.1 in
          let b = a.chain h.0 (c.0, h.1) in
          (b.0, chain-top ys t b.0 h.0 view b.1 h.2);
      count = length-top ys t ∙ ap (λ n. n + 1) a.count ∙ sym (length-top xs t);
    }))

-- nothing is left to copy
pub all-copied : (rs rest old : List Record) → length rest ≡ 0 → map essence rs ++ map essence rest ≡ map essence old → map essence rs ≡ map essence old
all-copied rs [] old none e = sym (append-nil (map essence rs)) ∙ e
all-copied rs (r ∷ rest) old none e = absurd (omega (arith, none))
