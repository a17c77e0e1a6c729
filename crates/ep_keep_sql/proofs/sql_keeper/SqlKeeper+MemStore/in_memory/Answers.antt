use Rattle.std.proofs.Common.{[], sym, subst}
use Rattle.std.specs.Prelude.{IsTrue}
use Rattle.sqlite.specs.Steps.{over_memory}
use Rattle.ep_keep_sql.specs.Keeps.{tells_where, told_of}
use Rattle.ep_keep_sql.proofs.Keeping.{memory_never_fails, telling_now, told_in_memory}
use Rattle.ep_keep_sql.proofs.sql_keeper.SqlKeeper+MemStore.in_memory.Goals as goal

pub invariant_of-keeper : goal.invariant_of-keeper
invariant_of-keeper c =
    let keeper = c.in-Ok.keeper in
    let told = told_of over_memory keeper.first.value keeper.conn in
    let here = telling_now told [] (told_in_memory keeper.first.value keeper.conn c.in-Ok.ensures.has (c.in-Ok.ensures.empty c.in_ok-conn.ensures.empty.2)) in
    record {
      kept = keeper.kept;
      rising = keeper.rising;
      steady = λ _. memory_never_fails;
      telling = subst (λ b. IsTrue (tells_where b told)) (sym c.of.ensures) here;
    }

pub returns-in-Ok-clause-told : goal.returns-in-Ok-clause-told
returns-in-Ok-clause-told c = told_in_memory c.in-Ok.keeper.first.value c.in-Ok.keeper.conn c.in-Ok.ensures.has (c.in-Ok.ensures.empty c.in_ok-conn.ensures.empty.2)
