use Rattle.std.proofs.Common.{Some}
use Rattle.ep_keep_sql.proofs.Keeping.{err_none, ok_puts, put_answers, put_kept, put_tells, still_telling, told_in_order}
use Rattle.ep_keep_sql.proofs.sql_keeper.SqlKeeper.put.Goals as goal

pub invariant_of-self : goal.invariant_of-self
invariant_of-self g c =
    let self = c.args.self.now in
    record {
      kept = put_kept g.S.Store self.first.value self.conn c.in-Some.conn c.put_all.new.conn c.in-Some.is c.put_all.ensures.goes self.kept c.args.puts.now c.put_all.result c.put_all.ensures.all c.put_all.ensures.none;
      rising = told_in_order g.S.Store self.first.value (Some c.put_all.new.conn);
      steady = self.steady;
      telling = still_telling g.S.Store self.first.value self.conn c.put_all.new.conn self.always.value self.steady (put_tells g.S.Store self.first.value self.conn c.in-Some.conn c.put_all.new.conn c.in-Some.is c.put_all.ensures.goes self.kept c.args.puts.now c.put_all.result c.put_all.ensures.all c.put_all.ensures.none) self.telling;
    }

pub returns-in-Some-clause-ok : goal.returns-in-Some-clause-ok
returns-in-Some-clause-ok g c =
    let self = c.args.self.now in
    ok_puts g.S.Store self.first.value self.conn c.in-Some.conn c.put_all.new.conn c.in-Some.is c.put_all.ensures.goes self.kept c.args.puts.now c.put_all.result c.put_all.ensures.all

pub returns-in-Some-clause-err : goal.returns-in-Some-clause-err
returns-in-Some-clause-err g c =
    let self = c.args.self.now in
    err_none g.S.Store self.first.value self.conn c.in-Some.conn c.put_all.new.conn c.in-Some.is c.put_all.ensures.goes self.kept c.args.puts.now c.put_all.result c.put_all.ensures.none

pub returns-in-Some-clause-tells : goal.returns-in-Some-clause-tells
returns-in-Some-clause-tells g c =
    let self = c.args.self.now in
    put_tells g.S.Store self.first.value self.conn c.in-Some.conn c.put_all.new.conn c.in-Some.is c.put_all.ensures.goes self.kept c.args.puts.now c.put_all.result c.put_all.ensures.all c.put_all.ensures.none

pub returns-in-Some-clause-answers : goal.returns-in-Some-clause-answers
returns-in-Some-clause-answers g c =
    let self = c.args.self.now in
    put_answers g.S.Store self.first.value self.conn c.in-Some.conn c.put_all.new.conn c.in-Some.is c.put_all.ensures.goes self.kept c.args.puts.now c.put_all.result c.put_all.ensures.all c.put_all.ensures.opens
