-- The walk as a loop takes it, by the number of the run.
use Rattle.std.proofs.Common.{◌≡◌, ℕ, ◌+◌, ◌<◌, ◌≤◌, List, [], ◌∷◌, length, drop, get_or, sym, ap, ◌∙◌, subst}
use Rattle.std.proofs.lemmas.List.{drop_more, drop_all}
use Rattle.ep_units.specs.Text.{Text}
use Rattle.ep_cs.specs.Steps.{passed}
use Rattle.ep_cs.specs.Change.{Change, bank_of}
use Rattle.ep_cs.specs.Spelling.{new_len}
use Rattle.ep_cs.specs.NormalRuns.{IsNormal}
use Rattle.ep_cs.specs.Runs.{inserted}
use Rattle.ep_cs.specs.Draft.{Draft, blank}
use Rattle.ep_cs.specs.declared.op.Op.{Op}
use Rattle.ep_sign.specs.Writing.{left, kept_run}
use Rattle.ep_sign.proofs.Walk.{left_with, IsSigning, starts, room, goes_on}

-- with some units of those that are inserted left, the rest of these runs is left
pub record IsAt (author : Text) (c : Change) (out : Draft) (ops : List Op) : Type 0 where
  pub bank : Text
  pub signs : IsSigning author c out (left_with c ops bank)

pub begin : (author : Text) (c : Change) (out : Draft) (ops : List Op) (n : ℕ) → IsNormal c → n ≡ new_len c.edit → out ≡ blank n → ops ≡ c.runs → IsAt author c out ops
begin author c out ops n is e b r = record {
  bank = bank_of c.edit;
  signs = subst (λ (x : Draft × List Op). IsSigning author c x.0 (left_with c x.1 (bank_of c.edit))) (λ i. (sym b i, sym r i)) (starts author c n is e);
}

first_left : (ops : List Op) (i : ℕ) (o : Op) → i < length ops → o ≡ get_or ops i o → drop i ops ≡ o ∷ drop (i + 1) ops
first_left ops i o h e = drop_more ops i o h ∙ ap (λ (p : Op). p ∷ drop (i + 1) ops) (sym e)

at_first : (author : Text) (c : Change) (out : Draft) (ops : List Op) (i : ℕ) (o : Op) → (w : IsAt author c out (drop i ops)) → i < length ops → o ≡ get_or ops i o → IsSigning author c out (left_with c (o ∷ drop (i + 1) ops) w.bank)
at_first author c out ops i o w h e = subst (λ (os : List Op). IsSigning author c out (left_with c os w.bank)) (first_left ops i o h e) w.signs

pub room_at : (author : Text) (c : Change) (out : Draft) (ops : List Op) (i : ℕ) (o : Op) → IsNormal c → IsAt author c out (drop i ops) → i < length ops → o ≡ get_or ops i o
    → (passed out.steps + left o.kind o.units ≤ out.old) × (o.lines ≤ o.units)
room_at author c out ops i o n w h e = room author c out o (drop (i + 1) ops) w.bank n (at_first author c out ops i o w h e)

pub next : (author : Text) (c : Change) (out out' : Draft) (ops : List Op) (i : ℕ) (o : Op) → IsAt author c out (drop i ops) → i < length ops → o ≡ get_or ops i o
    → out' ≡ kept_run author o.kind o.units o.lines o.attrs out → IsAt author c out' (drop (i + 1) ops)
next author c out out' ops i o w h e k = record {
  bank = drop (inserted o.kind o.units) w.bank;
  signs = subst (λ (d : Draft). IsSigning author c d (left_with c (drop (i + 1) ops) (drop (inserted o.kind o.units) w.bank))) (sym k)
      (goes_on author c out o (drop (i + 1) ops) w.bank (at_first author c out ops i o w h e));
}

pub all_done : (author : Text) (c : Change) (out : Draft) (ops : List Op) (i : ℕ) → IsAt author c out (drop i ops) → length ops ≤ i → IsAt author c out []
all_done author c out ops i w h = subst (λ (os : List Op). IsAt author c out os) (drop_all i ops h) w
