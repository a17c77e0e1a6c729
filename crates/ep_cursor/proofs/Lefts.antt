-- What is left of a change behind a part of its first run, or of the places that are kept after its runs.
use Rattle.std.proofs.Common.{◌≡◌, ℕ, ◌+◌, ◌-◌, ◌<◌, ◌≤◌, List, [], ◌∷◌, ◌++◌, length, take, drop, replicate, refl, sym, ap, ◌∙◌, subst, arith}
use Rattle.ep_units.specs.Text.{Text}
use Rattle.ep_attr.specs.AttrMap.{none}
use Rattle.ep_cs.specs.Edit.{Step}
use Rattle.ep_cs.specs.Edit.Fate.{Keep}
use Rattle.ep_cs.specs.Edit.Step.{Pass}
use Rattle.ep_cs.specs.Runs.{inserted, passed, run_steps, steps_of, rest_kept}
use Rattle.ep_cs.specs.Written.{IsWritten, AreWritten}
use Rattle.ep_cs.specs.declared.op.Kind.{Kind}
use Rattle.ep_cs.specs.declared.op.Op.{Op}
use Rattle.ep_cursor.specs.declared.cursor.Head.{Head}
use Rattle.ep_cursor.specs.Left.{Left, steps_left, first_inserted, cut, advanced, skipped}
use Rattle.ep_cursor.specs.Heads.{IsHead}
use Rattle.ep_cursor.specs.Said.{source, IsSaid, AreSaid, IsRest}
use Rattle.ep_cursor.proofs.Cuts.{cut_steps, said_cut, times_parts}

-- the first run, of which the kind is known
pub first_is : (h : Head) (l : Left) (k : Kind) → IsHead h l → h.kind ≡ k → l.ops ≡ record { kind = k; units = h.units; lines = h.lines; attrs = h.attrs.now } ∷ drop 1 l.ops
first_is h l k is e = is.first ∙ (λ i. record { kind = e i; units = h.units; lines = h.lines; attrs = h.attrs.now } ∷ drop 1 l.ops)

pub left_cut : (l : Left) (o : Op) (os : List Op) (k j : ℕ) → l.ops ≡ o ∷ os → k ≤ o.units → steps_left l ≡ run_steps o.kind k o.attrs (take (inserted o.kind k) l.bank) ++ steps_left (advanced k j l)
left_cut l o os k j e h =
    subst (λ (ops : List Op). steps_of ops l.bank ++ rest_kept l.rest ≡ run_steps o.kind k o.attrs (take (inserted o.kind k) l.bank) ++ (steps_of (cut k j ops) (drop (first_inserted k ops) l.bank) ++ rest_kept l.rest)) (sym e) (cut_steps o os l.bank l.rest k j h)

pub left_said : (l : Left) (o : Op) (os : List Op) (us : Text) (k j : ℕ) → l.ops ≡ o ∷ os → k ≤ o.units → AreSaid l.ops l.bank us → (k < o.units → IsRest o l.bank us k j) → AreSaid (advanced k j l).ops (advanced k j l).bank (drop (passed o.kind k) us)
left_said l o os us k j e h said rest =
    subst (λ (ops : List Op). AreSaid (cut k j ops) (drop (first_inserted k ops) l.bank) (drop (passed o.kind k) us)) (sym e) (said_cut o os l.bank us k j (subst (λ (ops : List Op). AreSaid ops l.bank us) e said) h rest)

pub first_said : (l : Left) (o : Op) (os : List Op) (us : Text) → l.ops ≡ o ∷ os → AreSaid l.ops l.bank us → IsSaid o.units o.lines (source o.kind l.bank us)
first_said l o os us e said = (subst (λ (ops : List Op). AreSaid ops l.bank us) e said).0

pub first_written : (l : Left) (o : Op) (os : List Op) → l.ops ≡ o ∷ os → AreWritten l.ops l.bank → IsWritten o.kind o.units o.attrs (take (inserted o.kind o.units) l.bank)
first_written l o os e h = (subst (λ (ops : List Op). AreWritten ops l.bank) e h).0

-- no run is left
pub rest_left : (l : Left) → l.ops ≡ [] → steps_left l ≡ rest_kept l.rest
rest_left l e = ap (λ (ops : List Op). steps_of ops l.bank ++ rest_kept l.rest) e

pub rest_cut : (l : Left) (k : ℕ) → l.ops ≡ [] → k ≤ l.rest → steps_left l ≡ replicate k (Pass (Keep none)) ++ steps_left (skipped k l)
rest_cut l k e h = rest_left l e ∙ times_parts k l.rest (Keep none) h ∙ ap (λ s. replicate k (Pass (Keep none)) ++ s) (sym (rest_left (skipped k l) e))

pub rest_said : (l : Left) (us : Text) → l.ops ≡ [] → AreSaid l.ops l.bank us
rest_said l us e = subst (λ (ops : List Op). AreSaid ops l.bank us) (sym e) tt
