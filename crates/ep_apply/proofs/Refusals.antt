-- Pairs that are cut, seen run by run: why a change doesn't fit.
use Rattle.std.proofs.Common.{◌≡◌, ℕ, ◌-◌, inl, List, [], length, Option, Some, None, refl, sym, ap, ◌∙◌, arith}
use Rattle.ep_units.specs.Text.{Text}
use Rattle.ep_cs.specs.Doc.{Doc, text_of}
use Rattle.ep_cs.specs.Fitting.{first_untrue, first_cut, cuts, untrue_or, fit_bad}
use Rattle.ep_cs.specs.Change.{Change, bank_of}
use Rattle.ep_cs.specs.NormalRuns.{IsNormal}
use Rattle.ep_cs.specs.Runs.{all_passed}
use Rattle.ep_cs.specs.declared.op.Op.{Op}
use Rattle.ep_cs.proofs.Refusals.{length_text, same_change, inside, trues_of, at_length}
use Rattle.ep_apply.specs.PairEnds.{first_end, runs_bad}
use Rattle.ep_apply.proofs.Ends.{ends_are}

pub cut_is : (c : Change) (doc : Doc) → IsNormal c → length doc ≡ length c.edit.places → first_untrue 0 c.runs (text_of doc) ≡ None → first_cut 0 c.edit.places (text_of doc) ≡ first_end 0 c.runs (text_of doc)
cut_is c doc normal e none =
    let n = length doc in
    let trues = trues_of c.runs (bank_of c.edit) (text_of doc) 0 normal.normal (inside c doc normal e) none in
    ap (λ (x : Change). first_cut 0 x.edit.places (text_of doc)) (same_change c n normal e)
    ∙ ends_are c.runs (bank_of c.edit) [] 0 (n - all_passed c.runs) (text_of doc) normal.normal trues (omega (arith, inside c doc normal e, length_text doc)) (inl refl)

-- what runs say of the text is why the change doesn't fit
pub runs_are : (c : Change) (doc : Doc) (ops : List Op) (us : Text) → IsNormal c → length doc ≡ length c.edit.places → ops ≡ c.runs → us ≡ text_of doc → runs_bad ops us ≡ fit_bad c doc
runs_are c doc ops us n l o t = (λ j. runs_bad (o j) (t j)) ∙ go (first_untrue 0 c.runs (text_of doc)) refl ∙ sym (at_length c doc l)
  where
    go : (f : Option ℕ) → first_untrue 0 c.runs (text_of doc) ≡ f
        → untrue_or (first_untrue 0 c.runs (text_of doc)) (cuts (first_end 0 c.runs (text_of doc))) ≡ untrue_or (first_untrue 0 c.runs (text_of doc)) (cuts (first_cut 0 c.edit.places (text_of doc)))
    go None e = ap (λ (p : Option ℕ). untrue_or (first_untrue 0 c.runs (text_of doc)) (cuts p)) (sym (cut_is c doc n l e))
    go (Some i) e =
        ap (λ (f : Option ℕ). untrue_or f (cuts (first_end 0 c.runs (text_of doc)))) e
        ∙ sym (ap (λ (f : Option ℕ). untrue_or f (cuts (first_cut 0 c.edit.places (text_of doc)))) e)
