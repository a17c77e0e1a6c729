-- A change is refused exactly where it doesn't fit.
use Rattle.std.proofs.Common.{◌≡◌, ℕ, ◌+◌, ◌≤◌, Bool, true, false, cond, not, ◌&&◌, ◌||◌, ◌==◌, ◌⊎◌, inl, inr, List, [], ◌∷◌, length, take, drop, Option, Some, None, Result, IsOk, ◌↔◌, if◌then◌else◌, refl, sym, ap, ap₂, ◌∙◌, subst, arith, length-drop, length-take-le}
use Rattle.std.proofs.lemmas.Bool.Decides.{nat_tests}
use Rattle.std.proofs.lemmas.List.{length-map}
use Rattle.ep_units.specs.Text.{Text, is_high, is_newline}
use Rattle.ep_cs.specs.Doc.{Cell, Doc, text_of}
use Rattle.ep_cs.specs.Edit.{Place}
use Rattle.ep_cs.specs.Fits.{Fits, keeps_pairs, goes_on}
use Rattle.ep_cs.specs.Fitting.{answer, holds, is_true, first_untrue, first_cut, cuts, untrue_or, fit_bad}
use Rattle.ep_cs.specs.Lines.{count_lines, is_whole_lines}
use Rattle.ep_cs.specs.Change.{Change, change_of, stamped, newlines, bank_of}
use Rattle.ep_cs.specs.NormalRuns.{IsLined, IsRun, AreNormal, IsTrueRun, AreTrue, IsNormal}
use Rattle.ep_cs.specs.Runs.{inserted, passed, all_passed}
use Rattle.ep_cs.specs.declared.op.Kind.{Kind}
use Rattle.ep_cs.specs.declared.op.Kind.TheVariants as kind
use Rattle.ep_cs.specs.declared.op.Op.{Op}
use Rattle.ep_cs.specs.declared.bad.FitBad.{FitBad}
use Rattle.ep_cs.specs.declared.bad.FitBad.TheVariants.{OldLen}
use Rattle.ep_cs.proofs.Stretches.{lined_stretch}
use Rattle.ep_cs.proofs.Truth.{true_change}
use Rattle.ep_cs.proofs.TrueRuns.{stamped_true}

-- ---- newlines

same_number : (a b : ℕ) → (a == b) ≡ true → a ≡ b
same_number a b e = grind (arith, nat_tests)

number_itself : (a : ℕ) → (a == a) ≡ true
number_itself a = grind (arith, nat_tests)

both : (a b : Bool) → (a && b) ≡ true → (a ≡ true) × (b ≡ true)
both true b e = (refl, e)
both false b e = absurd cc

either : (a b : Bool) → (a || b) ≡ true → (a ≡ true) ⊎ (b ≡ true)
either true b e = inl refl
either false b e = inr e

lined_of : (l : ℕ) (us : Text) → 1 ≤ length us → holds l us ≡ true → IsLined l (newlines us)
lined_of l us h e =
    let parts = both (count_lines us == l) ((l == 0) || is_whole_lines us) e in
    let count : count_lines us ≡ l = same_number (count_lines us) l parts.0 in
    let stretch = elim (either (l == 0) (is_whole_lines us) parts.1) as (λ _. (count_lines us ≡ 0) ⊎ (is_whole_lines us ≡ true)) [ inl z ↦ inl (count ∙ same_number l 0 z) | inr w ↦ inr w ] in
    subst (λ (k : ℕ). IsLined k (newlines us)) count (lined_stretch us h stretch)

lined_lines : (us : Text) (l : ℕ) → IsLined l (newlines us) → (count_lines us ≡ l) × ((l ≡ 0) ⊎ (is_whole_lines us ≡ true))
lined_lines [] l is = absurd is
lined_lines (u ∷ []) l is = (omega (arith, is), one (is_newline u) refl)
  where
    one : (b : Bool) → is_newline u ≡ b → (l ≡ 0) ⊎ (is_newline u ≡ true)
    one true e = inr e
    one false e = inl (is ∙ ap (λ (b : Bool). cond b 1 0) e)
lined_lines (u ∷ (v ∷ us)) l is =
    let rest = lined_lines (v ∷ us) is.0 is.3 in (
      omega (arith, rest.0, is.1),
      elim rest.1 as (λ _. (l ≡ 0) ⊎ (is_whole_lines (v ∷ us) ≡ true)) [
        | inl z ↦ elim is.2 as (λ _. (l ≡ 0) ⊎ (is_whole_lines (v ∷ us) ≡ true)) [ inl m ↦ inl (omega (arith, is.1, z, m)) | inr k ↦ absurd (omega (arith, z, k)) ]
        | inr w ↦ inr w
      ],
    )

holds_of : (l : ℕ) (us : Text) → IsLined l (newlines us) → holds l us ≡ true
holds_of l us is =
    let parts = lined_lines us l is in
    let a : (count_lines us == l) ≡ true = ap (λ (k : ℕ). k == l) parts.0 ∙ number_itself l in
    let b : ((l == 0) || is_whole_lines us) ≡ true = elim parts.1 as (λ _. ((l == 0) || is_whole_lines us) ≡ true) [ inl z ↦ ap (λ (k : ℕ). (k == 0) || is_whole_lines us) z | inr w ↦ ap (λ b. (l == 0) || b) w ∙ or_true (l == 0) ] in
    λ i. a i && b i
  where
    or_true : (b : Bool) → (b || true) ≡ true
    or_true true = refl
    or_true false = refl

only_then : (b : Bool) (i : ℕ) (later : Option ℕ) → (if b then later else Some i) ≡ None → (b ≡ true) × (later ≡ None)
only_then true i later e = (refl, e)
only_then false i later e = absurd cc

-- where no run is untrue, all are true, and the other way round
pub trues_of : (ops : List Op) (bank us : Text) (i : ℕ) → AreNormal ops bank → all_passed ops ≤ length us → first_untrue i ops us ≡ None → AreTrue ops us
trues_of [] bank us i normal h e = tt
trues_of (o ∷ os) bank us i normal h e =
    let parts = only_then (is_true o.kind o.lines (take (passed o.kind o.units) us)) i (first_untrue (i + 1) os (drop (passed o.kind o.units) us)) e in
    (go o.kind normal.0 h parts.0, trues_of os (drop (inserted o.kind o.units) bank) (drop (passed o.kind o.units) us) (i + 1) normal.2 (omega (arith, h, length-drop (passed o.kind o.units) us)) parts.1)
  where
    go : (k : Kind) → IsRun k o.units o.lines o.attrs (take (inserted k o.units) bank) → passed k o.units + all_passed os ≤ length us → is_true k o.lines (take (passed k o.units) us) ≡ true → IsTrueRun k o.units o.lines (take (passed k o.units) us)
    go kind.Keep is h e = (is, lined_of o.lines (take o.units us) (omega (arith, is, length-take-le o.units us (omega (arith, h)))) e)
    go kind.Drop is h e = (is.0, lined_of o.lines (take o.units us) (omega (arith, is.0, length-take-le o.units us (omega (arith, h)))) e)
    go kind.Insert is h e = tt

none_untrue : (ops : List Op) (us : Text) (i : ℕ) → AreTrue ops us → first_untrue i ops us ≡ None
none_untrue [] us i trues = refl
none_untrue (o ∷ os) us i trues =
    ap (λ b. if b then first_untrue (i + 1) os (drop (passed o.kind o.units) us) else Some i) (go o.kind trues.0) ∙ none_untrue os (drop (passed o.kind o.units) us) (i + 1) trues.1
  where
    go : (k : Kind) → IsTrueRun k o.units o.lines (take (passed k o.units) us) → is_true k o.lines (take (passed k o.units) us) ≡ true
    go kind.Keep is = holds_of o.lines (take o.units us) is.1
    go kind.Drop is = holds_of o.lines (take o.units us) is.1
    go kind.Insert is = refl

-- ---- pairs

pub pairs_of : (ps : List Place) (us : Text) (at : ℕ) → first_cut at ps us ≡ None → keeps_pairs ps us ≡ true
pairs_of [] us at e = refl
pairs_of (p ∷ ps) [] at e = refl
pairs_of (p ∷ ps) (u ∷ us) at e = go (is_high u) (goes_on p.fate ps) (λ e. pairs_of ps us (at + 1) e) e
  where
    go : (h g : Bool) → (first_cut (at + 1) ps us ≡ None → keeps_pairs ps us ≡ true) → (if h && not g then Some (at + 1) else first_cut (at + 1) ps us) ≡ None → ((not h || g) && keeps_pairs ps us) ≡ true
    go true true again e = again e
    go true false again e = absurd cc
    go false true again e = again e
    go false false again e = again e

none_cut : (ps : List Place) (us : Text) (at : ℕ) → keeps_pairs ps us ≡ true → first_cut at ps us ≡ None
none_cut [] us at e = refl
none_cut (p ∷ ps) [] at e = refl
none_cut (p ∷ ps) (u ∷ us) at e = go (is_high u) (goes_on p.fate ps) (λ e. none_cut ps us (at + 1) e) e
  where
    go : (h g : Bool) → (keeps_pairs ps us ≡ true → first_cut (at + 1) ps us ≡ None) → ((not h || g) && keeps_pairs ps us) ≡ true → (if h && not g then Some (at + 1) else first_cut (at + 1) ps us) ≡ None
    go true true again e = again e
    go true false again e = absurd cc
    go false true again e = again e
    go false false again e = again e

-- ---- the three together

pub length_text : (doc : Doc) → length (text_of doc) ≡ length doc
length_text doc = length-map doc (λ (c : Cell). c.unit)

pub same_change : (c : Change) (n : ℕ) → IsNormal c → n ≡ length c.edit.places → c ≡ change_of n c.runs (bank_of c.edit)
same_change c n normal e = normal.is ∙ ap (λ (k : ℕ). change_of k c.runs (bank_of c.edit)) (sym e)

pub inside : (c : Change) (doc : Doc) → IsNormal c → length doc ≡ length c.edit.places → all_passed c.runs ≤ length (text_of doc)
inside c doc normal e = omega (arith, normal.inside, e, length_text doc)

pub fitting : (c : Change) (doc : Doc) → IsNormal c → fit_bad c doc ≡ None → Fits c doc
fitting c doc normal e = go (length doc == length c.edit.places) refl e
  where
    rest : length doc ≡ length c.edit.places → (o : Option ℕ) → first_untrue 0 c.runs (text_of doc) ≡ o → untrue_or o (cuts (first_cut 0 c.edit.places (text_of doc))) ≡ None → Fits c doc
    rest l (Some i) u e = absurd cc
    rest l None u e =
        let n = length (text_of doc) in
        let same = same_change c n normal (length_text doc ∙ l) in
        let trues = trues_of c.runs (bank_of c.edit) (text_of doc) 0 normal.normal (inside c doc normal l) u in
        let stamp = true_change c.runs (bank_of c.edit) (text_of doc) trues (inside c doc normal l) in
        record {
          length = l;
          runs = ap (λ (x : Change). x.runs) (same ∙ stamp) ∙ ap (λ (x : Change). (stamped x.edit (text_of doc)).runs) (sym same);
          pairs = pairs_of c.edit.places (text_of doc) 0 (uncut (first_cut 0 c.edit.places (text_of doc)) e);
        }
      where
        uncut : (o : Option ℕ) → cuts o ≡ None → o ≡ None
        uncut None e = refl
        uncut (Some at) e = absurd cc

    go : (b : Bool) → (length doc == length c.edit.places) ≡ b → (if b then untrue_or (first_untrue 0 c.runs (text_of doc)) (cuts (first_cut 0 c.edit.places (text_of doc))) else Some (OldLen (length doc) (length c.edit.places))) ≡ None → Fits c doc
    go true b e = rest (same_number (length doc) (length c.edit.places) b) (first_untrue 0 c.runs (text_of doc)) refl e
    go false b e = absurd cc

pub not_refused : (c : Change) (doc : Doc) → Fits c doc → fit_bad c doc ≡ None
not_refused c doc f =
    let l : (length doc == length c.edit.places) ≡ true = ap (λ (k : ℕ). k == length c.edit.places) f.length ∙ number_itself (length c.edit.places) in
    let trues = subst (λ os. AreTrue os (text_of doc)) (sym f.runs) (stamped_true c.edit.places c.edit.last (text_of doc) (omega (arith, f.length, length_text doc))) in
    ap (λ b. if b then untrue_or (first_untrue 0 c.runs (text_of doc)) (cuts (first_cut 0 c.edit.places (text_of doc))) else Some (OldLen (length doc) (length c.edit.places))) l
    ∙ ap₂ (λ (u p : Option ℕ). untrue_or u (cuts p)) (none_untrue c.runs (text_of doc) 0 trues) (none_cut c.edit.places (text_of doc) 0 f.pairs)

pub at_length : (c : Change) (doc : Doc) → length doc ≡ length c.edit.places → fit_bad c doc ≡ untrue_or (first_untrue 0 c.runs (text_of doc)) (cuts (first_cut 0 c.edit.places (text_of doc)))
at_length c doc l =
    let same : (length doc == length c.edit.places) ≡ true = ap (λ (k : ℕ). k == length c.edit.places) l ∙ number_itself (length c.edit.places) in
    ap (λ b. if b then untrue_or (first_untrue 0 c.runs (text_of doc)) (cuts (first_cut 0 c.edit.places (text_of doc))) else Some (OldLen (length doc) (length c.edit.places))) same

pub refused_not : (c : Change) (doc : Doc) (why : FitBad) → fit_bad c doc ≡ Some why → Fits c doc → ⊥
refused_not c doc why e f = no (sym e ∙ not_refused c doc f)
  where
    no : Some why ≡ None → ⊥
    no e = cc

pub answer_fits : (c : Change) (doc : Doc) (r : Result (Unit {0}) FitBad) → IsNormal c → r ≡ answer (fit_bad c doc) → IsOk r ↔ Fits c doc
answer_fits c doc r n e = go (fit_bad c doc) refl e
  where
    go : (w : Option FitBad) → fit_bad c doc ≡ w → r ≡ answer w → IsOk r ↔ Fits c doc
    go None f e = (λ _. fitting c doc n f, λ _. subst (λ (r : Result (Unit {0}) FitBad). IsOk r) (sym e) refl)
    go (Some why) f e = (λ ok. absurd (no why (subst (λ (r : Result (Unit {0}) FitBad). IsOk r) e ok)), λ fit. absurd (refused_not c doc why f fit))
      where
        no : (why : FitBad) → IsOk (answer (Some why)) → ⊥
        no why h = cc
