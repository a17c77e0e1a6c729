-- What such a client holds after each of its calls.
use Rattle.std.specs.Prelude.{IfOk, OnOk, OnErr}
use Rattle.std.proofs.Common.{◌≡◌, inl, inr, Option, Some, None, Result, Ok, Err, ◌+◌, ◌≤◌, Bool, true, false, if◌then◌else◌, List, [], ◌∷◌, length, refl, sym, ap, ◌∙◌, subst, arith}
use Rattle.ep_cs.specs.Change.{Change}
use Rattle.ep_cs.specs.Doc.{Doc}
use Rattle.ep_cs.specs.Edit.{Edit, apply}
use Rattle.ep_cs.specs.Fits.{Fits, is_identity}
use Rattle.ep_units.specs.declared.no_memory.NoMemory.{NoMemory}
use Rattle.ep_client.specs.declared.bad.ClientBad.{ClientBad}
use Rattle.ep_history.specs.Kept.{KeptClient, is_kept_own, kept_dropped, kept_edited, kept_other, kept_own}
use Rattle.ep_client.specs.Hearing.{kept_hears, shown_change, told_of, view_change}
use Rattle.ep_client.specs.declared.heard.Heard.{Heard}
use Rattle.ep_client.specs.declared.heard.Heard.TheVariants.{Commit, Nop, Rev}
use Rattle.ep_client.specs.declared.heard.Told.{Told}
use Rattle.ep_client.specs.declared.heard.Told.TheVariants as told
use Rattle.ep_undo.specs.Undo.{UndoState, down, edited_beside, undo_hears, undo_other, with_client}
use Rattle.ep_undo.specs.Stacks.{edits_of, all_down, stood, IsWay, IsStackOf, AreAlike, AreHeard, Makes, Waits}
use Rattle.ep_undo.specs.Held.{IsHeld, held}
use Rattle.ep_undo.specs.declared.client.UndoClient.TheInside as client
use Rattle.ep_undo.specs.declared.stack.Record.{Record}
use Rattle.ep_undo.proofs.Stacks.{all_down-append, all_down-nothing, edits-append, length-stood, way-append}
use Rattle.ep_undo.proofs.Back.{nothing-edited}

pub held-empty : (c : client.Inside) → c.recent.items ≡ [] → c.undos.records.items ≡ [] → c.redos.records.items ≡ [] → IsHeld c
held-empty c r u v = record {
  before = c.client.view;
  recent = subst (λ cs. IsWay cs c.client.view c.client.view) (sym r) refl;
  undos = subst (λ rs. IsStackOf rs c.client.view) (sym u) (c.client.view, refl);
  redos = subst (λ rs. IsStackOf rs c.client.view) (sym v) (c.client.view, refl);
  short = let a : length c.undos.records.items ≡ 0 = ap length u in let b : length c.redos.records.items ≡ 0 = ap length v in omega (arith, a, b);
}

-- another's change waits
held-waits : (c c' : client.Inside) (d : Change) → IsHeld c → Fits d c.client.view → c'.client.view ≡ apply d.edit c.client.view
    → c'.undos ≡ c.undos → c'.redos ≡ c.redos
    → Waits told.News c.undos.records.items c.redos.records.items c.recent.items d c'.recent.items → IsHeld c'
held-waits c c' d h f v u r (inl e) = held-empty c' e.2 (ap (λ s. s.records.items) u ∙ e.0) (ap (λ s. s.records.items) r ∙ e.1)
held-waits c c' d h f v u r (inr e) = record {
  before = h.before;
  recent = subst (λ cs. IsWay cs h.before c'.client.view) (sym e) (way-append c.recent.items (d ∷ []) h.before c.client.view c'.client.view h.recent (f, sym v));
  undos = subst (λ s. IsStackOf s.records.items h.before) (sym u) h.undos;
  redos = subst (λ s. IsStackOf s.records.items h.before) (sym r) h.redos;
  short =
      let a : length c'.undos.records.items ≡ length c.undos.records.items = ap (λ s. length s.records.items) u in
      let b : length c'.redos.records.items ≡ length c.redos.records.items = ap (λ s. length s.records.items) r in
      let k = h.short in
      omega (arith, a, b, k);
}

-- what is its own leaves the view
own-view : (h : Heard) (k : KeptClient) → told_of h k ≡ told.Commit → (kept_hears h k).view ≡ k.view
own-view (Commit rev) k t = refl
own-view (Nop rev) k t = refl
own-view (Rev rev change session) k t = go (is_kept_own session k.sent_in) t
  where
    no : told.News ≡ told.Commit → ⊥
    no t = cc

    go : (own : Bool) → (if own then told.Commit else told.News) ≡ told.Commit → (if own then kept_own k else kept_dropped (kept_other change.edit k)).view ≡ k.view
    go true t = refl
    go false t = absurd (no t)

-- nothing changed of the view, and nothing waits that didn't
held-same : (c c' : client.Inside) → IsHeld c → c'.client.view ≡ c.client.view → c'.undos ≡ c.undos → c'.redos ≡ c.redos → c'.recent.items ≡ c.recent.items → IsHeld c'
held-same c c' h v u r e = record {
  before = h.before;
  recent = subst (IsWay c'.recent.items h.before) (sym v) (subst (λ cs. IsWay cs h.before c.client.view) (sym e) h.recent);
  undos = subst (λ s. IsStackOf s.records.items h.before) (sym u) h.undos;
  redos = subst (λ s. IsStackOf s.records.items h.before) (sym r) h.redos;
  short =
      let a : length c'.undos.records.items ≡ length c.undos.records.items = ap (λ s. length s.records.items) u in
      let b : length c'.redos.records.items ≡ length c.redos.records.items = ap (λ s. length s.records.items) r in
      let k = h.short in
      omega (arith, a, b, k);
}

pub held-heard : (c c' : client.Inside) (h : Heard) (t : Told) (d : Change) → IsHeld c → t ≡ told_of h c.client → c'.client ≡ kept_hears h c.client
    → Fits d c.client.view → c'.client.view ≡ apply d.edit c.client.view → c'.undos ≡ c.undos → c'.redos ≡ c.redos
    → Waits t c.undos.records.items c.redos.records.items c.recent.items d c'.recent.items → IsHeld c'
held-heard c c' h told.Commit d i t m f v u r w = held-same c c' i (ap (λ (k : KeptClient). k.view) m ∙ own-view h c.client (sym t)) u r w
held-heard c c' h told.News d i t m f v u r w = held-waits c c' d i f v u r w

abbrev state : KeptClient → List Edit → List Edit → UndoState
state k us rs = record { client = k; undos = us; redos = rs }

-- what is another's goes down both stacks
hears-news : (h : Heard) (s : UndoState) (d : Edit) → told_of h s.client ≡ told.News → d ≡ view_change h s.client
    → state (kept_hears h s.client) (down d s.undos) (down d s.redos) ≡ undo_hears h s
hears-news (Commit rev) s d t e = absurd (no t)
  where
    no : told.Commit ≡ told.News → ⊥
    no t = cc
hears-news (Nop rev) s d t e = absurd (no t)
  where
    no : told.Commit ≡ told.News → ⊥
    no t = cc
hears-news (Rev rev change session) s d t e = go (is_kept_own session s.client.sent_in) t e
  where
    no : told.Commit ≡ told.News → ⊥
    no t = cc

    go : (own : Bool) → (if own then told.Commit else told.News) ≡ told.News → d ≡ (if own then view_change (Commit rev) s.client else shown_change change.edit s.client)
        → state (if own then kept_own s.client else kept_dropped (kept_other change.edit s.client)) (down d s.undos) (down d s.redos) ≡ (if own then with_client s (kept_own s.client) else undo_other change.edit s)
    go true t e = absurd (no t)
    go false t e = ap (λ (x : Edit). state (kept_dropped (kept_other change.edit s.client)) (down x s.undos) (down x s.redos)) e

-- what is its own leaves them
hears-own : (h : Heard) (s : UndoState) → told_of h s.client ≡ told.Commit → state (kept_hears h s.client) s.undos s.redos ≡ undo_hears h s
hears-own (Commit rev) s t = refl
hears-own (Nop rev) s t = refl
hears-own (Rev rev change session) s t = go (is_kept_own session s.client.sent_in) t
  where
    no : told.News ≡ told.Commit → ⊥
    no t = cc

    go : (own : Bool) → (if own then told.Commit else told.News) ≡ told.Commit
        → state (if own then kept_own s.client else kept_dropped (kept_other change.edit s.client)) s.undos s.redos ≡ (if own then with_client s (kept_own s.client) else undo_other change.edit s)
    go true t = refl
    go false t = absurd (no t)

-- and what waits went down
waits-down : (us rs : List Record) (cs cs' : List Change) (d : Change) → Waits told.News us rs cs d cs'
    → (all_down (edits_of cs') (stood us []) ≡ down d.edit (all_down (edits_of cs) (stood us []))) × (all_down (edits_of cs') (stood rs []) ≡ down d.edit (all_down (edits_of cs) (stood rs [])))
waits-down us rs cs cs' d (inl e) = (nothing us e.0, nothing rs e.1)
  where
    nothing : (xs : List Record) → xs ≡ [] → all_down (edits_of cs') (stood xs []) ≡ down d.edit (all_down (edits_of cs) (stood xs []))
    nothing xs n =
        ap (λ (ys : List Record). all_down (edits_of cs') (stood ys [])) n ∙ all_down-nothing (edits_of cs')
        ∙ sym (ap (λ (ys : List Record). down d.edit (all_down (edits_of cs) (stood ys []))) n ∙ ap (down d.edit) (all_down-nothing (edits_of cs)))
waits-down us rs cs cs' d (inr e) = (more us, more rs)
  where
    more : (xs : List Record) → all_down (edits_of cs') (stood xs []) ≡ down d.edit (all_down (edits_of cs) (stood xs []))
    more xs =
        ap (λ (ys : List Change). all_down (edits_of ys) (stood xs [])) e
        ∙ ap (λ ds. all_down ds (stood xs [])) (edits-append cs (d ∷ []))
        ∙ all_down-append (edits_of cs) (d.edit ∷ []) (stood xs [])

-- ---- the top is made

abbrev Facts : KeptClient → List Record → List Record → List Record → List Record → Type 0
Facts k' us rs us' rs' = IsStackOf us' k'.view × IsStackOf rs' k'.view × (length us' + length rs' ≡ length us + length rs)

top-facts : (k k' : KeptClient) (us rs us' rs' : List Record) (r : Result (Option Change) NoMemory) → IsStackOf us k.view → IsStackOf rs k.view
    → IfOk r (λ o. Makes k (stood us []) (stood rs []) o k' (stood us' []) (stood rs' []))
    → OnOk r (IsStackOf us' k'.view × IsStackOf rs' k'.view)
    → OnErr r ((k' ≡ k) × AreAlike us us' × (rs' ≡ rs)) → Facts k' us rs us' rs'
top-facts k k' us rs us' rs' (Ok o) u v m c e = (c.0, c.1, count o m)
  where
    count : (o : Option Change) → Makes k (stood us []) (stood rs []) o k' (stood us' []) (stood rs' []) → length us' + length rs' ≡ length us + length rs
    count None m =
        let a = ap length m.2 in
        let b = ap length m.3 in
        let p = length-stood us [] in
        let q = length-stood rs [] in
        let s = length-stood us' [] in
        let t = length-stood rs' [] in
        omega (arith, a, b, p, q, s, t)
    count (Some d) m =
        let a = ap length m.0 in
        let b = ap length m.3 in
        let p = length-stood us [] in
        let q = length-stood rs [] in
        let s = length-stood us' [] in
        let t = length-stood rs' [] in
        omega (arith, a, b, p, q, s, t)
top-facts k k' us rs us' rs' (Err x) u v m c e =
    let same = λ (rs : List Record). subst (λ (q : KeptClient). IsStackOf rs q.view) (sym e.0) in
    let n : length rs' ≡ length rs = ap length e.2 in
    let a = e.1.count in
    (same us' (e.1.chain k.view u), same rs' (subst (λ xs. IsStackOf xs k.view) (sym e.2) v), omega (arith, n, a))

-- the view before what was heard lately, and then the view
spread-stack : (c : client.Inside) (h : IsHeld c) (us rs : List Record) → IsStackOf us h.before → AreHeard us c.recent.items rs → IsStackOf rs c.client.view
spread-stack c h us rs s a = a.chain h.before c.client.view s h.recent

nothing-recent : (cs : List Change) (view : Doc) → cs ≡ [] → IsWay cs view view
nothing-recent cs view e = subst (λ xs. IsWay xs view view) (sym e) refl

pub held-undone : (c c' : client.Inside) (us rs : List Record) (r : Result (Option Change) NoMemory) → IsHeld c
    → AreHeard c.undos.records.items c.recent.items us → AreHeard c.redos.records.items c.recent.items rs → c'.recent.items ≡ []
    → IfOk r (λ o. Makes c.client (stood us []) (stood rs []) o c'.client (stood c'.undos.records.items []) (stood c'.redos.records.items []))
    → OnOk r (IsStackOf c'.undos.records.items c'.client.view × IsStackOf c'.redos.records.items c'.client.view)
    → OnErr r ((c'.client ≡ c.client) × AreAlike us c'.undos.records.items × (c'.redos.records.items ≡ rs)) → IsHeld c'
held-undone c c' us rs r h a b n m k e =
    let f = top-facts c.client c'.client us rs c'.undos.records.items c'.redos.records.items r (spread-stack c h _ us h.undos a) (spread-stack c h _ rs h.redos b) m k e in
    let p = a.count in
    let q = b.count in
    let s = f.2 in
    let t = h.short in
    record { before = c'.client.view; recent = nothing-recent c'.recent.items c'.client.view n; undos = f.0; redos = f.1; short = omega (arith, p, q, s, t) }

pub held-redone : (c c' : client.Inside) (us rs : List Record) (r : Result (Option Change) NoMemory) → IsHeld c
    → AreHeard c.undos.records.items c.recent.items us → AreHeard c.redos.records.items c.recent.items rs → c'.recent.items ≡ []
    → IfOk r (λ o. Makes c.client (stood rs []) (stood us []) o c'.client (stood c'.redos.records.items []) (stood c'.undos.records.items []))
    → OnOk r (IsStackOf c'.redos.records.items c'.client.view × IsStackOf c'.undos.records.items c'.client.view)
    → OnErr r ((c'.client ≡ c.client) × AreAlike rs c'.redos.records.items × (c'.undos.records.items ≡ us)) → IsHeld c'
held-redone c c' us rs r h a b n m k e =
    let f = top-facts c.client c'.client rs us c'.redos.records.items c'.undos.records.items r (spread-stack c h _ rs h.redos b) (spread-stack c h _ us h.undos a) m k e in
    let p = a.count in
    let q = b.count in
    let s = f.2 in
    let t = h.short in
    record { before = c'.client.view; recent = nothing-recent c'.recent.items c'.client.view n; undos = f.1; redos = f.0; short = omega (arith, p, q, s, t) }

-- ---- an edit

-- one that alters nothing
pub held-nothing : (c c' : client.Inside) (e : Edit) (r : Result Unit ClientBad) → IsHeld c → is_identity e ≡ true → length c.client.view ≡ length e.places
    → OnOk r (c'.client ≡ kept_edited e c.client) → OnErr r (c'.client ≡ c.client)
    → c'.undos ≡ c.undos → c'.redos ≡ c.redos → c'.recent ≡ c.recent → IsHeld c'
held-nothing c c' e r h i n m k u v w = held-same c c' h (view r m k) u v (ap (λ x. x.items) w)
  where
    view : (r : Result Unit ClientBad) → OnOk r (c'.client ≡ kept_edited e c.client) → OnErr r (c'.client ≡ c.client) → c'.client.view ≡ c.client.view
    view (Ok x) m k = ap (λ (q : KeptClient). q.view) m ∙ nothing-edited e c.client.view i n
    view (Err x) m k = ap (λ (q : KeptClient). q.view) k

-- one that alters something
pub held-edited : (c c' : client.Inside) (e : Edit) (back : Change) (us pushed : List Record) → IsHeld c → AreHeard c.undos.records.items c.recent.items us → c'.recent.items ≡ []
    → c'.client ≡ kept_edited e c.client → Fits back (apply e c.client.view) → apply back.edit (apply e c.client.view) ≡ c.client.view
    → ((view : Doc) → Fits back view → IsStackOf us (apply back.edit view) → IsStackOf pushed view)
    → ((view : Doc) → IsStackOf pushed view → IsStackOf c'.undos.records.items view) → length c'.undos.records.items ≤ 100 → c'.redos.records.items ≡ [] → IsHeld c'
held-edited c c' e back us pushed h a n k f b p q s v =
    let view : c'.client.view ≡ apply e c.client.view = ap (λ (x : KeptClient). x.view) k in
    let top = p (apply e c.client.view) f (subst (IsStackOf us) (sym b) (spread-stack c h _ us h.undos a)) in
    record {
      before = c'.client.view;
      recent = nothing-recent c'.recent.items c'.client.view n;
      undos = subst (IsStackOf c'.undos.records.items) (sym view) (q (apply e c.client.view) top);
      redos = subst (λ rs. IsStackOf rs c'.client.view) (sym v) (c'.client.view, refl);
      short = let z : length c'.redos.records.items ≡ 0 = ap length v in omega (arith, z, s);
    }

-- ---- what is heard

hears-waits : (c : client.Inside) (h : Heard) (k : KeptClient) (d : Change) (cs : List Change) → told_of h c.client ≡ told.News → k ≡ kept_hears h c.client → d.edit ≡ view_change h c.client
    → Waits told.News c.undos.records.items c.redos.records.items c.recent.items d cs
    → state k (all_down (edits_of cs) (stood c.undos.records.items [])) (all_down (edits_of cs) (stood c.redos.records.items [])) ≡ undo_hears h (held c)
hears-waits c h k d cs t m e w =
    let g = waits-down c.undos.records.items c.redos.records.items c.recent.items cs d w in
    (λ i. state (m i) (g.0 i) (g.1 i)) ∙ hears-news h (held c) d.edit t e

hears-nothing : (c : client.Inside) (h : Heard) (k : KeptClient) (cs : List Change) → told_of h c.client ≡ told.Commit → k ≡ kept_hears h c.client → cs ≡ c.recent.items
    → state k (all_down (edits_of cs) (stood c.undos.records.items [])) (all_down (edits_of cs) (stood c.redos.records.items [])) ≡ undo_hears h (held c)
hears-nothing c h k cs t m n =
    (λ i. state (m i) (all_down (edits_of (n i)) (stood c.undos.records.items [])) (all_down (edits_of (n i)) (stood c.redos.records.items []))) ∙ hears-own h (held c) t

-- what is heard, and what waits of it, makes the step
pub hears-made : (c : client.Inside) (h : Heard) (t : Told) (k : KeptClient) (d : Change) (cs : List Change) → t ≡ told_of h c.client → k ≡ kept_hears h c.client → d.edit ≡ view_change h c.client
    → Waits t c.undos.records.items c.redos.records.items c.recent.items d cs
    → state k (all_down (edits_of cs) (stood c.undos.records.items [])) (all_down (edits_of cs) (stood c.redos.records.items [])) ≡ undo_hears h (held c)
hears-made c h told.Commit k d cs t m e w = hears-nothing c h k cs (sym t) m w
hears-made c h told.News k d cs t m e w = hears-waits c h k d cs (sym t) m e w

-- ---- an edit that isn't taken back by itself

pub held-beside : (c c' : client.Inside) (d : Change) → IsHeld c → Fits d c.client.view → c'.client ≡ kept_edited d.edit c.client → c'.undos ≡ c.undos → c'.redos ≡ c.redos
    → Waits told.News c.undos.records.items c.redos.records.items c.recent.items d c'.recent.items → IsHeld c'
held-beside c c' d h f m u r w = held-waits c c' d h f (ap (λ (k : KeptClient). k.view) m) u r w

pub beside-made : (c : client.Inside) (k : KeptClient) (d : Change) (cs : List Change) → k ≡ kept_edited d.edit c.client
    → Waits told.News c.undos.records.items c.redos.records.items c.recent.items d cs
    → state k (all_down (edits_of cs) (stood c.undos.records.items [])) (all_down (edits_of cs) (stood c.redos.records.items [])) ≡ edited_beside d.edit (held c)
beside-made c k d cs m w =
    let g = waits-down c.undos.records.items c.redos.records.items c.recent.items cs d w in
    λ i. state (m i) (g.0 i) (g.1 i)

-- ---- a copy

pub held-copy : (c c' : client.Inside) → IsHeld c → c'.client ≡ c.client → AreAlike c.undos.records.items c'.undos.records.items
    → AreAlike c.redos.records.items c'.redos.records.items → c'.recent.items ≡ c.recent.items → IsHeld c'
held-copy c c' h k a b r = record {
  before = h.before;
  recent = subst (IsWay c'.recent.items h.before) (sym (ap (λ (q : KeptClient). q.view) k)) (subst (λ cs. IsWay cs h.before c.client.view) (sym r) h.recent);
  undos = a.chain h.before h.undos;
  redos = b.chain h.before h.redos;
  short = let p = a.count in let q = b.count in let s = h.short in omega (arith, p, q, s);
}

pub copy-held : (c c' : client.Inside) → c'.client ≡ c.client → AreAlike c.undos.records.items c'.undos.records.items
    → AreAlike c.redos.records.items c'.redos.records.items → c'.recent.items ≡ c.recent.items → held c' ≡ held c
copy-held c c' k a b r =
    λ i. state (k i) (all_down (edits_of (r i)) (a.edits i)) (all_down (edits_of (r i)) (b.edits i))
