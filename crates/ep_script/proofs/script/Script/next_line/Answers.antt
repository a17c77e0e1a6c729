use Rattle.std.proofs.Common.{◌≡◌, ◌+◌, ◌<◌, ◌||◌, false, true, length, take, sym, ap, ◌∙◌, ◌++◌, [], rules, subst}
use Rattle.std.specs.Prelude.{nat_lt}
use Rattle.ep_script.specs.Script.{most_line, most_script}
use Rattle.ep_script.proofs.Reading.{follows, long-ended, line-ended, long-open, line-open, none-more}
use Rattle.ep_script.proofs.script.Script.next_line.Goals as goal

pub returns-then-is_long-clause-next : goal.returns-then-is_long-clause-next
returns-then-is_long-clause-next g c =
    let r = c.in_ok-at.ensures.reads in
    let end = sym c.in_ok-at.ensures.end ∙ c.in-Some.is in
    let h : (nat_lt most_line c.in-Some.at || nat_lt most_script (c.args.self.now.place + c.in-Some.at)) ≡ true = search (rules, c.is_long.ensures, c.if-is_long.true, c.in_ok-at.ensures.place) in
    (r.0, r.1, λ more m. (follows c.args.self.now c.find.new.self _ _ r.0 more r.1 r.3 m, long-ended c.args.self.now c.find.new.self r.0 more c.find.new.self.held r.2 c.in-Some.at end h))

pub returns-then-is_long-2-clause-next : goal.returns-then-is_long-2-clause-next
returns-then-is_long-2-clause-next g c =
    let r = c.in_ok-at.ensures.reads in
    let end = sym c.in_ok-at.ensures.end ∙ c.in-None.is in
    let some : 0 < length c.find.new.self.held = search rules in
    let h : (nat_lt most_line (length c.find.new.self.held) || nat_lt most_script (c.args.self.now.place + length c.find.new.self.held)) ≡ true = search (rules, c.in_ok-at.ensures.place) in
    (r.0, r.1, λ more m. (follows c.args.self.now c.find.new.self _ _ r.0 more r.1 r.3 m, long-open c.args.self.now c.find.new.self r.0 more c.find.new.self.held r.2 end some h))

pub returns-in_ok-cut-in-Some-clause-next : goal.returns-in_ok-cut-in-Some-clause-next
returns-in_ok-cut-in-Some-clause-next g c =
    let r = c.in_ok-at.ensures.reads in
    let end = sym c.in_ok-at.ensures.end ∙ c.in-Some.is in
    let h : (nat_lt most_line c.in-Some.at || nat_lt most_script (c.args.self.now.place + c.in-Some.at)) ≡ false = search (rules, c.is_long.ensures, c.in_ok-at.ensures.place) in
    let p : c.cut.new.self.place ≡ c.args.self.now.place + (c.in-Some.at + 1) = c.in_ok-cut-in-Some.ensures.place ∙ ap (λ n. n + (c.in-Some.at + 1)) c.in_ok-at.ensures.place in (
      r.0,
      r.1,
      λ more m.
          let x = line-ended c.args.self.now c.cut.new.self r.0 more c.find.new.self.held r.2 c.in-Some.at end h c.in_ok-cut-in-Some.ensures.rest p in (
            follows c.args.self.now c.cut.new.self _ _ r.0 more r.1 (λ o. ((r.3 o).0, c.cut.ensures.over ∙ (r.3 o).1)) m,
            (
              record { bytes = take c.in-Some.at c.find.new.self.held; ended = true },
              x.0,
              x.1,
              c.in_ok-cut-in-Some.ensures.line,
              x.2,
            ),
          ),
    )

pub returns-else-is_long-2-clause-next : goal.returns-else-is_long-2-clause-next
returns-else-is_long-2-clause-next g c =
    let r = c.in_ok-at.ensures.reads in
    let end = sym c.in_ok-at.ensures.end ∙ c.in-None.is in
    let some : 0 < length c.find.new.self.held = search rules in
    let h : (nat_lt most_line (length c.find.new.self.held) || nat_lt most_script (c.args.self.now.place + length c.find.new.self.held)) ≡ false = search (rules, c.in_ok-at.ensures.place) in
    let p : c.rest.new.self.place ≡ c.args.self.now.place + length c.find.new.self.held = c.rest.ensures.place ∙ ap (λ n. n + length c.find.new.self.held) c.in_ok-at.ensures.place in (
      r.0,
      r.1,
      λ more m.
          let none = none-more c.find.new.self _ more _ _ (c.in_ok-at.ensures.all c.in-None.is) h (record { over = λ o. m.over (c.rest.ensures.over ∙ o); told = m.told }) in
          let x = line-open c.args.self.now c.rest.new.self r.0 more c.find.new.self.held r.2 end some none h c.rest.ensures.rest p in (
            follows c.args.self.now c.rest.new.self _ _ r.0 more r.1 (λ o. ((r.3 o).0, c.rest.ensures.over ∙ (r.3 o).1)) m,
            (
              record { bytes = c.find.new.self.held; ended = false },
              x.0,
              x.1,
              c.rest.ensures.line,
              x.2,
            ),
          ),
    )
