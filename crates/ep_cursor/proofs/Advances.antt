-- What is left behind a part of the first run.
use Rattle.std.proofs.Common.{◌≡◌, ℕ, ◌<◌, ◌≤◌, ◌∷◌, ◌++◌, take, drop, sym, ap, ◌∙◌, subst}
use Rattle.ep_units.specs.Text.{Text}
use Rattle.ep_cs.specs.declared.op.Kind.{Kind}
use Rattle.ep_cs.specs.declared.op.Op.{Op}
use Rattle.ep_cs.specs.Runs.{inserted, passed, run_steps, steps_of, rest_kept}
use Rattle.ep_cursor.specs.declared.cursor.Head.{Head}
use Rattle.ep_cursor.specs.Heads.{IsHead}
use Rattle.ep_cursor.specs.Left.{Left, steps_left, first_units, first_lines, first_inserted, cut, advanced}
use Rattle.ep_cursor.specs.Said.{AreSaid, IsRest}
use Rattle.ep_cursor.proofs.Lefts.{left_cut, left_said, first_is}

-- of the first run, which is o, so many units and newlines are left out
pub record IsTaken (l l' : Left) (o : Op) (k lines : ℕ) : Type 0 where
  pub first : l.ops ≡ o ∷ drop 1 l.ops
  pub is : l' ≡ advanced k lines l
  pub within : k ≤ o.units

pub taken_steps : (l l' : Left) (o : Op) (k lines : ℕ) → IsTaken l l' o k lines → steps_left l ≡ run_steps o.kind k o.attrs (take (inserted o.kind k) l.bank) ++ steps_left l'
taken_steps l l' o k lines t =
    left_cut l o (drop 1 l.ops) k lines t.first t.within
    ∙ ap (λ x. run_steps o.kind k o.attrs (take (inserted o.kind k) l.bank) ++ steps_left x) (sym t.is)

pub taken_said : (l l' : Left) (o : Op) (k lines : ℕ) (us : Text) → IsTaken l l' o k lines → (k < o.units → IsRest o l.bank us k lines) → AreSaid l.ops l.bank us → AreSaid l'.ops l'.bank (drop (passed o.kind k) us)
taken_said l l' o k lines us t rest said = subst (λ x. AreSaid x.ops x.bank (drop (passed o.kind k) us)) (sym t.is) (left_said l o (drop 1 l.ops) us k lines t.first t.within said rest)

pub taken_bank : (l l' : Left) (o : Op) (k lines : ℕ) → IsTaken l l' o k lines → l'.bank ≡ drop (inserted o.kind k) l.bank
taken_bank l l' o k lines t = ap (λ (x : Left). x.bank) t.is ∙ ap (λ ops. drop (first_inserted k ops) l.bank) t.first

-- the run of a head, of a kind that is known
abbrev pub as_kind : Kind → Head → Op
as_kind k h = record { kind = k; units = h.units; lines = h.lines; attrs = h.attrs.now }

pub head_first : (k : Kind) (h : Head) (l : Left) → IsHead h l → h.kind ≡ k → l.ops ≡ as_kind k h ∷ drop 1 l.ops
head_first k h l is e = first_is h l k is e

pub head_units : (h : Head) (l : Left) → IsHead h l → (first_units l.ops ≡ h.units) × (first_lines l.ops ≡ h.lines)
head_units h l is = (ap first_units is.first, ap first_lines is.first)
