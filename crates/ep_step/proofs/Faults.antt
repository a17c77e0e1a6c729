-- Why an edit is refused, one reason after another.
use Rattle.std.proofs.Common.{◌≡◌, ℕ, zero, suc, ◌<◌, ◌≤◌, Bool, true, false, nat_lt, List, [], ◌∷◌, length, take, drop, Option, Some, None, Result, refl, sym, ap, ◌∙◌, subst, arith}
use Rattle.std.proofs.lemmas.Bool.Decides.{nat_tests}
use Rattle.std.proofs.lemmas.List.{take_all}
use Rattle.ep_cs.specs.Doc.{Doc}
use Rattle.ep_cs.specs.Edit.{Edit}
use Rattle.ep_cs.specs.Change.{Change}
use Rattle.ep_cs.specs.Fitting.{fit_bad}
use Rattle.ep_cs.specs.declared.bad.FitBad.{FitBad}
use Rattle.ep_history.specs.declared.rev.Rev.{Rev}
use Rattle.ep_history.specs.declared.seat.Seat.{Seat}
use Rattle.ep_history.specs.declared.pad_bad.PadBad.{PadBad}
use Rattle.ep_history.specs.declared.pad_bad.PadBad.TheVariants.{ReadOnly, NoBase, Author, Fit, TooLong}
use Rattle.ep_history.specs.Accept.{at_head, author_fault, edit_faults, first_other, fit_fault, units_after}
use Rattle.ep_history.specs.History.{doc_at, head, head_doc, rebased}
use Rattle.ep_history.specs.Pad.{PadState, newest}
use Rattle.ep_history.specs.Refusals.{fault_if, first_fault}
use Rattle.ep_history.proofs.Refused.{if-not, less-not}
use Rattle.ep_step.specs.Answers.{units_fault}

pub skip : (f : Option PadBad) (fs : List (Option PadBad)) → f ≡ None → first_fault (f ∷ fs) ≡ first_fault fs
skip f fs e = ap (λ f. first_fault (f ∷ fs)) e

hit : (f : Option PadBad) (fs : List (Option PadBad)) (bad : PadBad) → f ≡ Some bad → first_fault (f ∷ fs) ≡ Some bad
hit f fs bad e = ap (λ f. first_fault (f ∷ fs)) e

pub one : (f : Option PadBad) → first_fault (f ∷ []) ≡ f
one None = refl
one (Some bad) = refl

-- the first of the front is the first of all
pub first-take : (k : ℕ) (fs : List (Option PadBad)) (bad : PadBad) → first_fault (take k fs) ≡ Some bad → first_fault fs ≡ Some bad
first-take zero fs bad e = absurd cc
first-take (suc k) [] bad e = absurd cc
first-take (suc k) (None ∷ fs) bad e = first-take k fs bad e
first-take (suc k) (Some why ∷ fs) bad e = e

module _ (pad : PadState) (seat : Seat) (r : ℕ) (c : Change) (writes : seat.read_only ≡ false) where
  writing : fault_if seat.read_only ReadOnly ≡ None
  writing = if-not seat.read_only ReadOnly writes

  pub by_base : head (newest pad) < r → first_fault (take 4 (edit_faults pad seat r c)) ≡ Some (NoBase (head (newest pad)))
  by_base h = skip _ _ writing ∙ hit _ _ _ (ap (λ b. fault_if b (NoBase (head (newest pad)))) (less (head (newest pad)) r h))
    where
      less : (a b : ℕ) → a < b → nat_lt a b ≡ true
      less a b h = grind (arith, nat_tests)

  module _ (there : r ≤ head (newest pad)) where
    based : fault_if (nat_lt (head (newest pad)) r) (NoBase (head (newest pad))) ≡ None
    based = if-not (nat_lt (head (newest pad)) r) (NoBase (head (newest pad))) (less-not (head (newest pad)) r there)

    pub by_author : (i : ℕ) → first_other seat.author 0 c.runs ≡ Some i → first_fault (take 4 (edit_faults pad seat r c)) ≡ Some (Author i)
    by_author i e = skip _ _ writing ∙ skip _ _ based ∙ hit _ _ _ (ap author_fault e)

    module _ (own : first_other seat.author 0 c.runs ≡ None) where
      pub by_fit : (why : FitBad) → fit_bad c (doc_at (newest pad) r) ≡ Some why → first_fault (take 4 (edit_faults pad seat r c)) ≡ Some (Fit why)
      by_fit why e = skip _ _ writing ∙ skip _ _ based ∙ skip _ _ (ap author_fault own) ∙ hit _ _ _ (ap fit_fault e)

      module _ (fits : fit_bad c (doc_at (newest pad) r) ≡ None) where
        pub by_none : first_fault (take 4 (edit_faults pad seat r c)) ≡ None
        by_none = skip _ _ writing ∙ skip _ _ based ∙ skip _ _ (ap author_fault own) ∙ skip _ _ (ap fit_fault fits)

        pub by_units : first_fault (edit_faults pad seat r c) ≡ units_fault pad.limits.units (at_head pad r c.edit) (head_doc (newest pad))
        by_units = skip _ _ writing ∙ skip _ _ based ∙ skip _ _ (ap author_fault own) ∙ skip _ _ (ap fit_fault fits) ∙ one _

-- an edit behind the revisions since its base is at the head
pub brought : (pad : PadState) (r : ℕ) (since : List Rev) (e : Edit) → since ≡ drop r (newest pad).later → rebased since e ≡ at_head pad r e
brought pad r since e h = let later = (newest pad).later in ap (λ vs. rebased vs e) (h ∙ ap (drop r) (sym (take_all (length later) later (omega arith))))
