use Rattle.std.proofs.Common.{◌≡◌, ◌++◌, [], true, None, rules, sym, ap, ◌∙◌}
use Rattle.ep_lines.proofs.Reading.{gives-on, gone-on, passed-all, passed-end}
use Rattle.ep_lines.proofs.lines.Lines.pass_over.Goals as goal

pub returns-in_err-end-clause-passes : goal.returns-in_err-end-clause-passes
returns-in_err-end-clause-passes g c =
    let r = c.pieces.invariant.reads in
    let q = c.in_err-end.ensures.reads in
    (r.0 ++ q.0, gives-on _ _ _ r.0 q.0 r.1 q.1, (λ o. search (rules, (r.2 o).1, c.if-not-self.true)), search rules)

pub pieces-preserved : goal.pieces-preserved
pieces-preserved g c =
    let r = c.pieces.invariant.reads in
    let q = c.in_ok-end.ensures.reads in
    let none : c.pieces.end ≡ None = search rules in record {
      reads = (
        r.0 ++ q.0,
        gives-on _ _ _ r.0 q.0 r.1 q.1,
        (λ o. search (rules, (r.2 o).1, c.if-not-self.true)),
        gone-on c.args.self.now c.pieces.self c.read_on.new.self r.0 q.0 r.3 (sym c.pieces.invariant.end ∙ none) (search (rules, q.2)),
      );
      end = search rules;
      over = search rules;
      most = search rules;
      later = search rules;
      steady = search rules;
      some = search rules;
    }

pub returns-in_ok-cut-in-Some-clause-passes : goal.returns-in_ok-cut-in-Some-clause-passes
returns-in_ok-cut-in-Some-clause-passes g c =
    let r = c.pieces.invariant.reads in (
      r.0,
      r.1,
      (λ o. ((r.2 o).0, c.cut.ensures.over ∙ (r.2 o).1)),
      λ more over. passed-end c.args.self.now c.pieces.self r.0 more r.3 c.cut.new.self c.in-Some.at (sym c.pieces.invariant.end ∙ c.in-Some.is) c.in_ok-cut-in-Some.ensures.rest,
    )

pub returns-in-None-clause-passes : goal.returns-in-None-clause-passes
returns-in-None-clause-passes g c =
    let r = c.pieces.invariant.reads in
    let none : c.pieces.end ≡ None = search rules in (
      r.0,
      r.1,
      (λ o. ((r.2 o).0, search (rules, (r.2 o).1))),
      λ more over. passed-all c.args.self.now c.pieces.self r.0 more r.3 (record { held = c.clear-in-None.new.self.items; is_over = c.pieces.self.is_over; most = c.pieces.self.most }) (sym c.pieces.invariant.end ∙ none) (over (search rules)) (search rules),
    )
