-- An edit goes behind what was heard, one change after the other.
use Rattle.std.proofs.Common.{◌≡◌, ℕ, zero, suc, ◌+◌, ◌<◌, true, false, get_or, arith, List, [], ◌∷◌, ◌++◌, length, take, drop, sym, ap, ap₂, ◌∙◌, subst}
use Rattle.ep_cs.specs.Change.{Change}
use Rattle.ep_cs.specs.Doc.{Doc}
use Rattle.ep_cs.specs.Edit.{Edit, apply}
use Rattle.ep_cs.specs.Fits.{Fits}
use Rattle.ep_cs.specs.Follow.{follow}
use Rattle.ep_cs.specs.declared.bad.First.TheVariants as first
use Rattle.ep_follow.specs.Follows.{Follows}
use Rattle.ep_client.proofs.Keeping.{meet}
use Rattle.ep_undo.specs.Undo.{down}
use Rattle.ep_undo.specs.Stacks.{edits_of, all_down, IsWay, IsSettled, IsSettling}
use Rattle.ep_undo.specs.declared.stack.Record.{Record}
use Rattle.ep_undo.proofs.Stacks.{way-append, all_down-append, edits-append}

-- nothing was passed yet
pub settling-start : (r : Record) (change : Change) (heard : List Change) → change ≡ r.change → heard ≡ [] → IsSettling r [] r.heard.items change heard
settling-start r change heard e n = record {
  fits = λ base view f w. (
    base,
    subst (λ (c : Change). Fits c base) (sym e) f,
    w,
    subst (λ cs. IsWay cs (apply r.change.edit base) (apply change.edit base)) (sym n) (ap (λ (c : Change). apply c.edit base) (sym e)),
  );
  down = λ us. ap₂ (λ (c : Change) (cs : List Change). c.edit ∷ all_down (edits_of cs) us) (sym e) (sym n);
}

-- one more is passed
pub settling-next : (r : Record) (before left : List Change) (next change behind further : Change) (heard heard' : List Change) (doc : Doc)
    → Fits next doc → Fits change doc
    → Follows first.A next change behind → ((d : Doc) → Fits next d → Fits change d → Fits behind (apply next.edit d))
    → Follows first.B change next further → ((d : Doc) → Fits change d → Fits next d → Fits further (apply change.edit d))
    → heard' ≡ heard ++ further ∷ []
    → IsSettling r before (next ∷ left) change heard → IsSettling r (before ++ next ∷ []) left behind heard'
settling-next r before left next change behind further heard heard' doc fn fc ba bf fa ff h s =
    let edit = λ (c : Change). c.edit in
    let b : behind.edit ≡ follow true next.edit change.edit = ap edit (ba doc fn fc) in
    let g : further.edit ≡ follow false change.edit next.edit = ap edit (fa doc fc fn) in
    record {
      fits = λ base view f w.
          let q = s.fits base view f w in
          let mid = q.0 in
          let here = q.2.0 in
          let same : apply further.edit (apply change.edit mid) ≡ apply behind.edit (apply next.edit mid) =
          ap (λ (x : Edit). apply x (apply change.edit mid)) g ∙ meet false change.edit next.edit mid q.1.length here.length ∙ ap (λ (x : Edit). apply x (apply next.edit mid)) (sym b) in (
            apply next.edit mid,
            bf mid here q.1,
            q.2.1,
            subst (λ cs. IsWay cs (apply r.change.edit base) (apply behind.edit (apply next.edit mid))) (sym h)
                (way-append heard (further ∷ []) (apply r.change.edit base) (apply change.edit mid) (apply behind.edit (apply next.edit mid)) q.3 (ff mid q.1 here, same)),
          );
      down = λ us.
          ap (λ ds. all_down ds (r.change.edit ∷ us)) (edits-append before (next ∷ []))
          ∙ all_down-append (edits_of before) (next.edit ∷ []) (r.change.edit ∷ us)
          ∙ ap (down next.edit) (s.down us)
          ∙ ap₂ (λ (x y : Edit). x ∷ down y (all_down (edits_of heard) us)) (sym b) (sym g)
          ∙ ap (λ vs. behind.edit ∷ vs) (sym (all_down-append (edits_of heard) (further.edit ∷ []) us) ∙ ap (λ ds. all_down ds us) (sym (edits-append heard (further ∷ []))) ∙ ap (λ cs. all_down (edits_of cs) us) (sym h));
    }

-- all were passed
pub settled-all : (r : Record) (before left : List Change) (change : Change) (heard : List Change) → before ≡ r.heard.items → left ≡ []
    → IsSettling r before left change heard → IsSettled r change heard
settled-all r before left change heard e n s = record {
  fits = λ base view f w.
      let q = s.fits base view f w in
      let there : q.0 ≡ view = subst (λ cs. IsWay cs q.0 view) n q.2 in
      (subst (λ d. Fits change d) there q.1, subst (λ (d : Doc). IsWay heard (apply r.change.edit base) (apply change.edit d)) there q.3);
  down = λ us. ap (λ cs. all_down (edits_of cs) (r.change.edit ∷ us)) (sym e) ∙ s.down us;
}

-- the next of a list
pub next-of : (cs : List Change) (k : ℕ) (next : Change) → k < length cs → next ≡ get_or cs k next → (drop k cs ≡ next ∷ drop (k + 1) cs) × (take (k + 1) cs ≡ take k cs ++ next ∷ [])
next-of [] k next h e = absurd (omega (arith, h))
next-of (c ∷ cs) zero next h e = (ap (λ (x : Change). x ∷ cs) (sym e), ap (λ (x : Change). x ∷ []) (sym e))
next-of (c ∷ cs) (suc k) next h e =
    let r = next-of cs k next (omega (arith, h)) e in
    let m : suc k + 1 ≡ suc (k + 1) = omega arith in
    (r.0 ∙ ap (λ n. next ∷ drop n (c ∷ cs)) (sym m), ap (λ n. take n (c ∷ cs)) m ∙ ap (λ xs. c ∷ xs) r.1)

-- one more of those that a record heard is passed
pub settling-over : (r : Record) (k : ℕ) (next change behind further : Change) (heard heard' : List Change)
    → ((base : Doc) × ((view : Doc) × (Fits r.change base × IsWay r.heard.items base view)))
    → k < length r.heard.items → next ≡ get_or r.heard.items k next
    → Follows first.A next change behind → ((d : Doc) → Fits next d → Fits change d → Fits behind (apply next.edit d))
    → Follows first.B change next further → ((d : Doc) → Fits change d → Fits next d → Fits further (apply change.edit d))
    → heard' ≡ heard ++ further ∷ []
    → IsSettling r (take k r.heard.items) (drop k r.heard.items) change heard
    → IsSettling r (take (k + 1) r.heard.items) (drop (k + 1) r.heard.items) behind heard'
settling-over r k next change behind further heard heard' some short is ba bf fa ff h s =
    let n = next-of r.heard.items k next short is in
    let t = subst (λ left. IsSettling r (take k r.heard.items) left change heard) n.0 s in
    let q = t.fits some.0 some.1.0 some.1.1.0 some.1.1.1 in
    subst (λ before. IsSettling r before (drop (k + 1) r.heard.items) behind heard') (sym n.1)
    (settling-next r (take k r.heard.items) (drop (k + 1) r.heard.items) next change behind further heard heard' q.0 q.2.0 q.1 ba bf fa ff h t)
