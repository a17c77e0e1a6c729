use Rattle.std.proofs.Common.{◌≡◌, ◌<◌, ◌++◌, [], false, true, length, take, rules, sym, ap, ◌∙◌, subst, append_assoc}
use Rattle.std.specs.Prelude.{nat_lt}
use Rattle.ep_lines.proofs.Reading.{ended, follows, gives-on, last-one, none-more, passed-over}
use Rattle.ep_lines.proofs.lines.Lines.next_line.Goals as goal

pub returns-then-at-self-clause-next : goal.returns-then-at-self-clause-next
returns-then-at-self-clause-next g c =
    let r = c.in_ok-at.ensures.reads in
    let end = sym c.in_ok-at.ensures.end ∙ c.in-Some.is in
    let long : nat_lt c.args.self.now.most c.in-Some.at ≡ true = search (rules, c.if-at-self.true, c.find.ensures.most) in (
      r.0,
      r.1,
      λ more m.
          let x = ended c.args.self.now c.cut.new.self r.0 more c.find.new.self.held r.2 c.in-Some.at end c.in_ok-cut-in-Some.ensures.rest in (
            follows c.args.self.now c.cut.new.self _ _ r.0 more r.1 (λ o. ((r.3 o).0, c.cut.ensures.over ∙ (r.3 o).1)) m,
            (
              record { bytes = take c.in-Some.at c.find.new.self.held; ended = true },
              x.0,
              ap (λ n. nat_lt c.args.self.now.most n) x.1 ∙ long,
            ),
          ),
    )

pub returns-in_err-pass_over-in-None-clause-next : goal.returns-in_err-pass_over-in-None-clause-next
returns-in_err-pass_over-in-None-clause-next g c =
    let r = c.in_ok-at.ensures.reads in
    let q = c.in_err-pass_over-in-None.ensures.passes in
    let stays : c.args.self.now.is_over ≡ true → (r.0 ++ q.0 ≡ []) × (c.pass_over.new.self.is_over ≡ true) = λ o. (
      ap (λ xs. xs ++ q.0) (r.3 o).0 ∙ (q.2 (r.3 o).1).0,
      (q.2 (r.3 o).1).1,
    ) in (
      r.0 ++ q.0,
      gives-on _ _ _ r.0 q.0 r.1 q.1,
      λ more m. (follows c.args.self.now c.pass_over.new.self _ _ (r.0 ++ q.0) more (gives-on _ _ _ r.0 q.0 r.1 q.1) stays m, search rules),
    )

pub returns-then-len-self-clause-next : goal.returns-then-len-self-clause-next
returns-then-len-self-clause-next g c =
    let r = c.in_ok-at.ensures.reads in
    let q = c.in_ok-pass_over-in-None.ensures.passes in
    let stays : c.args.self.now.is_over ≡ true → (r.0 ++ q.0 ≡ []) × (c.pass_over.new.self.is_over ≡ true) = λ o. (
      ap (λ xs. xs ++ q.0) (r.3 o).0 ∙ (q.2 (r.3 o).1).0,
      (q.2 (r.3 o).1).1,
    ) in (
      r.0 ++ q.0,
      gives-on _ _ _ r.0 q.0 r.1 q.1,
      λ more m. (
        follows c.args.self.now c.pass_over.new.self _ _ (r.0 ++ q.0) more (gives-on _ _ _ r.0 q.0 r.1 q.1) stays m,
        passed-over c.args.self.now c.find.new.self c.pass_over.new.self r.0 q.0 more r.2 c.find.ensures.most (q.3 more m.over),
      ),
    )

pub returns-in_ok-cut-in-Some-2-clause-next : goal.returns-in_ok-cut-in-Some-2-clause-next
returns-in_ok-cut-in-Some-2-clause-next g c =
    let r = c.in_ok-at.ensures.reads in
    let end = sym c.in_ok-at.ensures.end ∙ c.in-Some.is in
    let short : nat_lt c.args.self.now.most c.in-Some.at ≡ false = search (rules, c.if-at-self.false, c.find.ensures.most) in (
      r.0,
      r.1,
      λ more m.
          let x = ended c.args.self.now c.cut-in-Some.new.self r.0 more c.find.new.self.held r.2 c.in-Some.at end c.in_ok-cut-in-Some-2.ensures.rest in (
            follows c.args.self.now c.cut-in-Some.new.self _ _ r.0 more r.1 (λ o. ((r.3 o).0, c.cut-in-Some.ensures.over ∙ (r.3 o).1)) m,
            (
              record { bytes = take c.in-Some.at c.find.new.self.held; ended = true },
              x.0,
              ap (λ n. nat_lt c.args.self.now.most n) x.1 ∙ short,
              c.in_ok-cut-in-Some-2.ensures.line,
            ),
          ),
    )

pub returns-else-len-self-clause-next : goal.returns-else-len-self-clause-next
returns-else-len-self-clause-next g c =
    let r = c.in_ok-at.ensures.reads in
    let end = sym c.in_ok-at.ensures.end ∙ c.in-None.is in
    let some : 0 < length c.find.new.self.held = search rules in
    let short : nat_lt c.find.new.self.most (length c.find.new.self.held) ≡ false = search (rules, c.if-len-self.false) in (
      r.0,
      r.1,
      λ more m.
          let none = none-more c.find.new.self _ more _ (c.in_ok-at.ensures.all c.in-None.is) short (record { over = λ o. m.over (c.rest.ensures.over ∙ o); told = m.told }) in (
            follows c.args.self.now c.rest.new.self _ _ r.0 more r.1 (λ o. ((r.3 o).0, c.rest.ensures.over ∙ (r.3 o).1)) m,
            (
              record { bytes = c.find.new.self.held; ended = false },
              last-one c.args.self.now c.rest.new.self r.0 more c.find.new.self.held r.2 end some none c.rest.ensures.rest,
              ap (λ n. nat_lt n (length c.find.new.self.held)) (sym c.find.ensures.most) ∙ short,
              c.rest.ensures.line,
            ),
          ),
    )
