use Rattle.std.proofs.Common.{◌≡◌, ◌∷◌, ◌++◌, ap, List, ℕ, suc, sym, ◌∙◌, subst, arith, Option}
use Rattle.std.specs.Prelude.{IsTrue, All}
use Rattle.ep_outside.specs.Disk.{Contents}
use Rattle.ep_outside.specs.Shelf.{rises, Holds}
use Rattle.ep_verify.specs.Files.{names_in}
use Rattle.ep_verify.specs.Refusals.{IsCause}
use Rattle.ep_verify.proofs.Causes.{cause_then, risen_since, err_then}
use Rattle.ep_verify.proofs.Naming.{others_rise, others_apart, one_more_name, names-after}
use Rattle.ep_verify.proofs.verdicts.verify.Goals as goal

pub loop-name-preserved : goal.loop-name-preserved
loop-name-preserved g c =
    let h = c.loop-name.invariant in
    let split = c.in-Some.ensures.steps.0 in
    let before = names_in c.loop-name.window.verdicts.items c.loop-name.window.running.items in
    let rise : IsTrue (rises (c.in-Some.name ∷ c.next.new.self.rest.items)) = subst (λ (l : List (List ℕ)). IsTrue (rises l)) split h.rising in
    let same : All (λ (n : List ℕ). g.H.Shelf.told c.loop-name.shelf n ≡ g.H.Shelf.told c.args.shelf.now n) (c.in-Some.name ∷ c.next.new.self.rest.items) =
    subst (λ (l : List (List ℕ)). All (λ (n : List ℕ). g.H.Shelf.told c.loop-name.shelf n ≡ g.H.Shelf.told c.args.shelf.now n) l) split h.untouched in
    record {
      names = one_more_name _ _ c.loop-name.name-iterator.rest.items c.next.new.self.rest.items _ c.in-Some.name h.names split c.in_ok-take_file.ensures.names;
      told = c.in_ok-take_file.ensures.files (g.H.Shelf.told c.args.shelf.now) (sym (same 0 c.in-Some.name (omega arith))) h.told;
      untouched = λ k d lt. c.take_file.ensures.others _ (others_apart c.in-Some.name c.next.new.self.rest.items rise k d lt) ∙ same (suc k) d (omega (arith, lt));
      shelf =
          names-after (g.H.Shelf.names c.args.shelf.now) (g.H.Shelf.names c.loop-name.shelf) (g.H.Shelf.names c.take_file.new.shelf) _ before c.next.new.self.rest.items c.in-Some.name c.take_file.ensures.shelf h.shelf
          c.in_ok-names.ensures.value c.in_ok-names.ensures.sorted (ap (λ (l : List (List ℕ)). before ++ l) (sym split) ∙ (h.names ∙ c.into_iter-name-iterator.ensures.into_iter_gives.0));
      rising = others_rise c.in-Some.name c.next.new.self.rest.items rise;
      later = omega (arith, h.later, c.take_file.ensures.later);
      steady = c.take_file.ensures.steady ∙ h.steady;
    }

pub returns-in_err-take_file-clause-refused : goal.returns-in_err-take_file-clause-refused
returns-in_err-take_file-clause-refused g c =
    let h = c.loop-name.invariant in
    let split = c.in-Some.ensures.steps.0 in
    let same : All (λ (n : List ℕ). g.H.Shelf.told c.loop-name.shelf n ≡ g.H.Shelf.told c.args.shelf.now n) (c.in-Some.name ∷ c.next.new.self.rest.items) =
    subst (λ (l : List (List ℕ)). All (λ (n : List ℕ). g.H.Shelf.told c.loop-name.shelf n ≡ g.H.Shelf.told c.args.shelf.now n) l) split h.untouched in
    err_then c.from_residual-in_err-take_file.result _ _ c.from_residual-in_err-take_file.ensures.1 (λ e is.
    subst (IsCause _ _) (sym is) (cause_then c.in_err-take_file.field-0.0 _ _ _ _ c.in_err-take_file.ensures.refused
    (λ n p. (p.0, risen_since _ _ _ h.later p.1))
    (λ d q. ((c.in-Some.name, subst (λ (o : Option Contents). Holds o (g.H.D.Disk.told d)) (same 0 c.in-Some.name (omega arith)) q.0), q.2))))

pub returns-clause-judged : goal.returns-clause-judged
returns-clause-judged g c = (c.in_ok-finish_all.ensures.told (g.H.Shelf.told c.args.shelf.now) c.loop-name.invariant.told).judged

pub returns-in_err-take_file-clause-shelf : goal.returns-in_err-take_file-clause-shelf
returns-in_err-take_file-clause-shelf g c =
    let h = c.loop-name.invariant in
    let split = c.in-Some.ensures.steps.0 in
    let before = names_in c.loop-name.window.verdicts.items c.loop-name.window.running.items in
    names-after (g.H.Shelf.names c.args.shelf.now) (g.H.Shelf.names c.loop-name.shelf) (g.H.Shelf.names c.take_file.new.shelf) _ before c.next.new.self.rest.items c.in-Some.name c.take_file.ensures.shelf h.shelf
    c.in_ok-names.ensures.value c.in_ok-names.ensures.sorted (ap (λ (l : List (List ℕ)). before ++ l) (sym split) ∙ (h.names ∙ c.into_iter-name-iterator.ensures.into_iter_gives.0))
