use Rattle.std.proofs.Common.{[], Some}
use Rattle.sqlite.specs.Held.{state}
use Rattle.ep_keep_sql.specs.Keeps.{told_of}
use Rattle.ep_keep_sql.proofs.Keeping.{kept_new, new_told, no_mark, no_telling, same_told, told_in_order}
use Rattle.ep_keep_sql.proofs.sql_keeper.SqlKeeper.over.Goals as goal

pub invariant_of-result : goal.invariant_of-result
invariant_of-result g c =
    let first = c.of-first.result.value in
    let conn = Some c.make_table.new.conn in
    let always = c.of-always.result.value in
    record {
      kept = kept_new g.S.Store first conn c.of-first.ensures;
      rising = told_in_order g.S.Store first conn;
      steady = no_mark g.S.Store always c.of-always.ensures;
      telling = no_telling always (told_of g.S.Store first conn) c.of-always.ensures;
    }

pub returns-clause-empty : goal.returns-clause-empty
returns-clause-empty g c = λ none clean.
    let made = c.in_ok-make_table.ensures.made clean none in
    new_told g.S.Store c.of-first.result.value c.make_table.new.conn [] c.of-first.ensures clean made.1 made.0

pub returns-clause-found : goal.returns-clause-found
returns-clause-found g c = λ m holds clean.
    same_told g.S.Store c.of-first.result.value (state g.S.Store c.args.conn) c.make_table.new.conn m c.of-first.ensures clean (c.in_ok-make_table.ensures.again clean holds.schema) holds
