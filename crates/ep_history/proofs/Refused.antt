-- What is not refused is admissible, and the other way round.
use Rattle.std.proofs.Common.{◌≡◌, ℕ, ◌≤◌, Bool, true, false, ◌&&◌, ◌==◌, if◌then◌else◌, List, [], ◌∷◌, length, Option, Some, None, refl, sym, ap, ◌∙◌, arith}
use Rattle.std.specs.Prelude.{nat_lt}
use Rattle.std.proofs.lemmas.Bool.Decides.{nat_tests}
use Rattle.ep_units.specs.declared.session.Session.{Session}
use Rattle.ep_cs.specs.Change.{Change}
use Rattle.ep_cs.specs.declared.bad.FitBad.{FitBad}
use Rattle.ep_attr.proofs.SameMap.{both_true}
use Rattle.ep_cs.specs.Doc.{Doc, text_of}
use Rattle.ep_cs.specs.Fits.{keeps_pairs}
use Rattle.ep_cs.specs.declared.bad.FitBad.TheVariants.{OldLen}
use Rattle.ep_cs.specs.EditFits.{is_edit}
use Rattle.ep_cs.proofs.EditFits.{IsFit, fits_true}
use Rattle.ep_cs.specs.Fitting.{fit_bad, first_untrue, first_cut, untrue_or, cuts}
use Rattle.ep_cs.proofs.Refusals.{fitting, not_refused, pairs_of}
use Rattle.ep_history.specs.History.{head, doc_at}
use Rattle.ep_history.specs.Pad.{PadState, newest, seat_of}
use Rattle.ep_history.specs.declared.pad_bad.PadBad.{PadBad}
use Rattle.ep_history.specs.Refusals.{first_fault, fault_if}
use Rattle.ep_history.specs.declared.pad_bad.PadBad.TheVariants.{ReadOnly, NoBase, TooLong}
use Rattle.ep_history.specs.Accept.{first_other, author_fault, fit_fault, units_after, edit_faults, live_fault, seat_fault, refusal}
use Rattle.ep_history.specs.Admissible.{IsAdmissible, TakesAdmissible}
use Rattle.ep_history.proofs.Lists.{none_some}
use Rattle.ep_history.specs.declared.seat.Seat.{Seat}
use Rattle.ep_history.specs.declared.seat.Why.{Why}

abbrev pub AreNone : List (Option PadBad) → Type 0
AreNone [] = Unit {0}
AreNone (f ∷ fs) = (f ≡ None) × AreNone fs

pub none-of : (fs : List (Option PadBad)) → first_fault fs ≡ None → AreNone fs
none-of [] e = tt
none-of (None ∷ fs) e = (refl, none-of fs e)
none-of (Some bad ∷ fs) e = none_some (sym e)

pub of-none : (fs : List (Option PadBad)) → AreNone fs → first_fault fs ≡ None
of-none [] h = refl
of-none (None ∷ fs) h = of-none fs h.1
of-none (Some bad ∷ fs) h = none_some (sym h.0)

pub not-if : (t : Bool) (bad : PadBad) → fault_if t bad ≡ None → t ≡ false
not-if true bad e = none_some (sym e)
not-if false bad e = refl

pub if-not : (t : Bool) (bad : PadBad) → t ≡ false → fault_if t bad ≡ None
if-not t bad e = ap (λ b. fault_if b bad) e

pub not-less : (a b : ℕ) → nat_lt a b ≡ false → b ≤ a
not-less a b e = grind (arith, nat_tests)

pub less-not : (a b : ℕ) → b ≤ a → nat_lt a b ≡ false
less-not a b h = go (nat_lt a b) refl
  where
    go : (t : Bool) → nat_lt a b ≡ t → nat_lt a b ≡ false
    go true e = absurd (grind (arith, nat_tests))
    go false e = e

no-author : (o : Option ℕ) → author_fault o ≡ None → o ≡ None
no-author None e = refl
no-author (Some i) e = none_some (sym e)

pub no-bad : (o : Option FitBad) → fit_fault o ≡ None → o ≡ None
no-bad None e = refl
no-bad (Some why) e = none_some (sym e)

-- an edit whose change is not refused fits
pub unrefused : (c : Change) (doc : Doc) → fit_bad c doc ≡ None → is_edit c.edit ≡ true → IsFit c.edit doc
unrefused c doc e is = fits_true c.edit doc (go (length doc == length c.edit.places) (first_untrue 0 c.runs (text_of doc)) (first_cut 0 c.edit.places (text_of doc)) refl e)
  where
    uncut : (o : Option ℕ) → cuts o ≡ None → o ≡ None
    uncut None e = refl
    uncut (Some at) e = none_some (sym e)

    go : (b : Bool) (u k : Option ℕ) → first_cut 0 c.edit.places (text_of doc) ≡ k → (if b then untrue_or u (cuts k) else Some (OldLen (length doc) (length c.edit.places))) ≡ None
        → (b && (keeps_pairs c.edit.places (text_of doc) && is_edit c.edit)) ≡ true
    go true None k f e = both_true _ _ (pairs_of c.edit.places (text_of doc) 0 (f ∙ uncut k e)) is
    go true (Some i) k f e = none_some (sym e)
    go false u k f e = none_some (sym e)

-- what is not refused is of a live session
pub refusal-live : (pad : PadState) (s : Session) (base : ℕ) (c : Change) → refusal pad s base c ≡ None
    → (l : Seat) × (seat_of pad s ≡ Some l) × (l.end ≡ None) × AreNone (edit_faults pad l base c)
refusal-live pad s base c h = seat (seat_of pad s) refl h
  where
    end : (l : Seat) → seat_of pad s ≡ Some l → (o : Option Why) → l.end ≡ o → live_fault pad l o base c ≡ None
        → (l : Seat) × (seat_of pad s ≡ Some l) × (l.end ≡ None) × AreNone (edit_faults pad l base c)
    end l f None d h = (l, f, d, none-of (edit_faults pad l base c) h)
    end l f (Some why) d h = none_some (sym h)

    seat : (o : Option Seat) → seat_of pad s ≡ o → seat_fault pad o base c ≡ None → (l : Seat) × (seat_of pad s ≡ Some l) × (l.end ≡ None) × AreNone (edit_faults pad l base c)
    seat None f h = none_some (sym h)
    seat (Some l) f h = end l f l.end refl h

pub taken : TakesAdmissible
taken pad s base c normal = (not-refused, admissible)
  where
    not-refused : IsAdmissible pad s base c → refusal pad s base c ≡ None
    not-refused a =
        ap (λ o. seat_fault pad o base c) a.found
        ∙ ap (λ o. live_fault pad a.seat o base c) a.live
        ∙ of-none (edit_faults pad a.seat base c) (
          if-not a.seat.read_only ReadOnly a.writes,
          (
            if-not (nat_lt (head (newest pad)) base) (NoBase (head (newest pad))) (less-not (head (newest pad)) base a.base_there),
            (
              ap author_fault a.author,
              (
                ap fit_fault (not_refused c (doc_at (newest pad) base) a.fitting),
                (
                  if-not (nat_lt pad.limits.units (units_after pad base c.edit)) (TooLong (units_after pad base c.edit)) (less-not pad.limits.units (units_after pad base c.edit) a.units),
                  tt,
                ),
              ),
            ),
          ),
        )

    admissible : refusal pad s base c ≡ None → IsAdmissible pad s base c
    admissible h =
        let l = refusal-live pad s base c h in
        let f : AreNone (edit_faults pad l.0 base c) = l.3 in
        record {
          seat = l.0;
          found = l.1;
          live = l.2;
          writes = not-if l.0.read_only ReadOnly f.0;
          base_there = not-less (head (newest pad)) base (not-if (nat_lt (head (newest pad)) base) (NoBase (head (newest pad))) f.1.0);
          author = no-author (first_other l.0.author 0 c.runs) f.1.1.0;
          fitting = fitting c (doc_at (newest pad) base) normal (no-bad (fit_bad c (doc_at (newest pad) base)) f.1.1.1.0);
          units = not-less pad.limits.units (units_after pad base c.edit) (not-if (nat_lt pad.limits.units (units_after pad base c.edit)) (TooLong (units_after pad base c.edit)) f.1.1.1.1.0);
        }
