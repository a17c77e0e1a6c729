-- What follows each record.
use Rattle.std.proofs.Common.{◌≡◌, ℕ, suc, ◌≤◌, Bool, true, false, [], ◌∷◌, Option, Some, None, refl, sym, ap, ◌∙◌, subst, true≢false, arith}
use Rattle.std.specs.Prelude.{◌↔◌, ◌&&◌, not, nat_lt, IsNone, IsSome, IsTrue}
use Rattle.std.proofs.lemmas.Bool.Decides.{nat_tests}
use Rattle.ep_units.specs.Text.{Text, text_eq}
use Rattle.ep_units.specs.declared.session.Session.{Session}
use Rattle.ep_attr.proofs.Maps.{exact_test}
use Rattle.ep_attr.proofs.SameMap.{itself}
use Rattle.ep_cs.specs.Change.{Change}
use Rattle.ep_history.specs.History.{head, head_doc, nop_by, step_revs}
use Rattle.ep_history.specs.Pad.{PadState, create, delete, newest, reopened, set_public}
use Rattle.ep_history.specs.declared.record.Record.TheVariants as record_of
use Rattle.ep_history.proofs.Births.{length-more, nops-count, revs-count}
use Rattle.ep_pad_state.proofs.Telling.{is-absent}
use Rattle.ep_move.specs.Born.{HasFirst, IsBorn}
use Rattle.ep_move.specs.Reread.{IsLast, IsReread, MayFollow}
use Rattle.ep_move.specs.declared.last.Last.{Last}
use Rattle.ep_move.specs.declared.rereading.Reread.{Reread}
use Rattle.ep_move.proofs.Births.{last_noted, last_same, there_born}

some_present : (o : Option Last) (p : PadState) → IsLast o p → IsSome o → p.present ≡ true
some_present (Some l) p h s = h.present
some_present None p h s = absurd (true≢false (sym s))

present_some : (o : Option Last) (p : PadState) → IsLast o p → p.present ≡ true → IsSome o
present_some (Some l) p h n = refl
present_some None p h n = absurd (true≢false (sym n ∙ h))

none_absent : (o : Option Last) (p : PadState) → IsLast o p → IsNone o → p.present ≡ false
none_absent (Some l) p h n = absurd (true≢false n)
none_absent None p h n = h

absent_none : (o : Option Last) (p : PadState) → IsLast o p → p.present ≡ false → IsNone o
absent_none (Some l) p h n = absurd (true≢false (sym h.present ∙ n))
absent_none None p h n = refl

absent_told : (n : ℕ) (b : Bool) → (nat_lt 0 n && not b) ≡ true → (1 ≤ n) × (b ≡ false)
absent_told n b h = go (nat_lt 0 n) b refl h
  where
    go : (t c : Bool) → nat_lt 0 n ≡ t → (t && not c) ≡ true → (1 ≤ n) × (c ≡ false)
    go true true e h = absurd (true≢false (sym h))
    go true false e h = (grind (arith, nat_tests), refl)
    go false c e h = absurd (true≢false (sym h))

-- equal texts are one
pub told_text : (r : Bool) (a b : Text) → r ≡ text_eq a b → (IsTrue r → a ≡ b) × (a ≡ b → IsTrue r)
told_text r a b e = (λ t. exact_test a b (sym e ∙ t), λ h. e ∙ (ap (λ (c : Text). text_eq a c) (sym h) ∙ itself a))

pub open_next : (k new : Reread) (p : PadState) (e : ℕ) (b : Bool) → IsReread k p → IsTrue b ↔ (e ≡ suc k.epoch) → (IsTrue b → new ≡ record k { epoch = e }) → MayFollow IsReread p (record_of.Open e) new b
open_next k new p e true h goes is =
    let n = goes.0 refl in (
      n ∙ ap suc (sym h.epoch),
      subst (λ (x : Reread). IsReread x (reopened p)) (sym (is refl)) (record {
        epoch = ap suc h.epoch ∙ sym n;
        births = h.births;
        public = h.public;
        last = last_same k.last p (reopened p) refl refl h.last;
      }),
    )
open_next k new p e false h goes is = λ n. true≢false (sym (goes.1 (n ∙ ap suc h.epoch)))

pub delete_next : (k new : Reread) (p : PadState) (time : ℕ) (b : Bool) → IsReread k p → IsTrue b ↔ IsSome k.last → new ≡ record k { last = None } → MayFollow IsReread p (record_of.Delete time) new b
delete_next k new p time true h goes is = (
  some_present k.last p h.last (goes.0 refl),
  subst (λ (x : Reread). IsReread x (delete p)) (sym is) (record { epoch = h.epoch; births = h.births; public = h.public; last = refl }),
)
delete_next k new p time false h goes is = λ n. true≢false (sym (goes.1 (present_some k.last p h.last n)))

pub public_next : (k new : Reread) (p : PadState) (on b : Bool) → IsReread k p → IsTrue b ↔ IsSome k.last → new ≡ record k { public = on } → MayFollow IsReread p (record_of.Public on) new b
public_next k new p on true h goes is = (
  some_present k.last p h.last (goes.0 refl),
  subst (λ (x : Reread). IsReread x (set_public p on)) (sym is) (record {
    epoch = h.epoch;
    births = h.births;
    public = refl;
    last = last_same k.last p (set_public p on) refl refl h.last;
  }),
)
public_next k new p on false h goes is = λ n. true≢false (sym (goes.1 (present_some k.last p h.last n)))

pub nop_next : (k : Reread) (p : PadState) (s : Session) (time : ℕ) (b : Bool) → IsReread k p → IsTrue b ↔ IsSome k.last → MayFollow IsReread p (record_of.Nop s time) k b
nop_next k p s time true h goes =
    let xs = nop_by (record { author = []; session = s; time = time }) (head (newest p)) ∷ [] in (
      some_present k.last p h.last (goes.0 refl),
      record { epoch = h.epoch; births = nops-count p xs ∙ h.births; public = h.public; last = last_noted k.last p xs h.last },
    )
nop_next k p s time false h goes = λ n. true≢false (sym (goes.1 (present_some k.last p h.last n)))

pub rev_next : (k new : Reread) (p : PadState) (s : Session) (time : ℕ) (author : Text) (fixed : Bool) (c : Change) (b : Bool) → IsReread k p → new ≡ record k { last = new.last }
    → MayFollow IsLast p (record_of.Rev s time author fixed c) new.last b → MayFollow IsReread p (record_of.Rev s time author fixed c) new b
rev_next k new p s time author fixed c true h stays m =
    let vs = step_revs (record { author = author; session = s; time = time }) c.edit (head_doc (newest p)) in (
      m.0,
      record {
        epoch = h.epoch ∙ sym (ap (λ (x : Reread). x.epoch) stays);
        births = revs-count p vs ∙ (h.births ∙ sym (ap (λ (x : Reread). x.births) stays));
        public = h.public ∙ sym (ap (λ (x : Reread). x.public) stays);
        last = m.1;
      },
    )
rev_next k new p s time author fixed c false h stays m = m

born_last : (new : Reread) (p : PadState) (time : ℕ) (text : Text) → HasFirst new time text → IsLast new.last (create p time text)
born_last new p time text f = subst (λ (o : Option Last). IsLast o (create p time text)) (sym f.is) (there_born f.last p time text f.revs f.doc)

pub create_next : (k new : Reread) (p : PadState) (birth time : ℕ) (text : Text) (b : Bool) → IsReread k p → IsBorn k new birth time text b → MayFollow IsReread p (record_of.Create birth time text) new b
create_next k new p birth time text true h m =
    let may = m.0 in
    let next = may.2 ∙ ap suc (sym h.births) in (
      (is-absent p.epoch p.present (subst (λ (n : ℕ). 1 ≤ n) (sym h.epoch) may.0) (none_absent k.last p h.last may.1), next, m.1, m.2),
      record {
        epoch = h.epoch ∙ sym m.3;
        births = length-more p.births _ ∙ (sym next ∙ sym m.4);
        public = sym m.5;
        last = born_last new p time text m.6;
      },
    )
create_next k new p birth time text false h m =
    λ n. let a = absent_told p.epoch p.present n.0 in m (subst (λ (e : ℕ). 1 ≤ e) h.epoch a.0, absent_none k.last p h.last a.1, n.1 ∙ ap suc h.births) n.2 n.3
