use Rattle.std.proofs.Common.{Some}
use Rattle.sqlite.specs.Held.{state}
use Rattle.ep_keep_sql.proofs.Keeping.{answers, err_stays, kept_on, ok_lists, rests_turns, still_telling, tells_still, told_in_order}
use Rattle.ep_keep_sql.proofs.sql_keeper.SqlKeeper.pairs.Goals as goal

pub invariant_of-self : goal.invariant_of-self
invariant_of-self g c =
    let self = c.args.self.now in
    let k = c.pairs_with.new.conn in
    record {
      kept = kept_on g.S.Store self.first.value self.conn c.in-Some.conn k c.in-Some.is c.pairs_with.ensures.goes self.kept (λ m. m) (rests_turns (state g.S.Store c.in-Some.conn) (state g.S.Store c.pairs_with.new.conn) c.pairs_with.ensures.same);
      rising = told_in_order g.S.Store self.first.value (Some k);
      steady = self.steady;
      telling = still_telling g.S.Store self.first.value self.conn c.pairs_with.new.conn self.always.value self.steady (tells_still g.S.Store self.first.value self.conn c.in-Some.conn c.pairs_with.new.conn c.in-Some.is c.pairs_with.ensures.goes self.kept (λ m. m) (rests_turns (state g.S.Store c.in-Some.conn) (state g.S.Store c.pairs_with.new.conn) c.pairs_with.ensures.same)) self.telling;
    }

pub returns-in-Some-clause-pairs : goal.returns-in-Some-clause-pairs
returns-in-Some-clause-pairs g c =
    let self = c.args.self.now in
    ok_lists g.S.Store self.first.value self.conn c.in-Some.conn c.pairs_with.new.conn c.in-Some.is c.pairs_with.ensures.goes self.kept c.pairs_with.result c.args.prefix.now (rests_turns (state g.S.Store c.in-Some.conn) (state g.S.Store c.pairs_with.new.conn) c.pairs_with.ensures.same) c.pairs_with.ensures.pairs

pub returns-in-Some-clause-err : goal.returns-in-Some-clause-err
returns-in-Some-clause-err g c =
    let self = c.args.self.now in
    err_stays g.S.Store self.first.value self.conn c.in-Some.conn c.pairs_with.new.conn c.in-Some.is c.pairs_with.ensures.goes self.kept c.pairs_with.result (rests_turns (state g.S.Store c.in-Some.conn) (state g.S.Store c.pairs_with.new.conn) c.pairs_with.ensures.same)

pub returns-in-Some-clause-tells : goal.returns-in-Some-clause-tells
returns-in-Some-clause-tells g c =
    let self = c.args.self.now in
    tells_still g.S.Store self.first.value self.conn c.in-Some.conn c.pairs_with.new.conn c.in-Some.is c.pairs_with.ensures.goes self.kept (λ m. m) (rests_turns (state g.S.Store c.in-Some.conn) (state g.S.Store c.pairs_with.new.conn) c.pairs_with.ensures.same)

pub returns-in-Some-clause-answers : goal.returns-in-Some-clause-answers
returns-in-Some-clause-answers g c =
    let self = c.args.self.now in
    answers g.S.Store self.first.value self.conn c.in-Some.conn c.pairs_with.new.conn c.in-Some.is c.pairs_with.ensures.goes self.kept c.pairs_with.result (rests_turns (state g.S.Store c.in-Some.conn) (state g.S.Store c.pairs_with.new.conn) c.pairs_with.ensures.same) c.pairs_with.ensures.opens
