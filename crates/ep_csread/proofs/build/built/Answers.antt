use Rattle.std.proofs.Common.{◌≡◌, ◌+◌, ◌-◌, ◌++◌, ◌∷◌, [], ◌∙◌, ℕ, length, take, drop, ap, sym, subst, arith, IfOk}
use Rattle.std.proofs.lemmas.List.{length_push}
use Rattle.std.proofs.lemmas.Iterator.Adapters.{YieldsList-from_vec}
use Rattle.std.proofs.lemmas.Iterator.Consumers.{YieldsList-turn, YieldsList-end}
use Rattle.ep_units.specs.Text.{Text}
use Rattle.ep_cs.specs.Change.{Change}
use Rattle.ep_cs.specs.Fits.{AreDocuments}
use Rattle.ep_cs.specs.Runs.{inserted}
use Rattle.ep_csread.specs.Built.{putting}
use Rattle.ep_csread.proofs.Building.{IsSoFar, goes_on, is_all, drop_end}
use Rattle.ep_csread.proofs.build.built.Goals as goal

pub loop-op-preserved : goal.loop-op-preserved
loop-op-preserved c =
    let ops = c.args.ops.items in
    let bank = c.args.bank.now in
    let n : ℕ = length c.loop-op.yielded in
    let used = c.loop-op.used in
    let o = c.in-Some.op in
    let d = c.loop-op.change in
    let gives = c.into_iter-op-iterator.ensures.into_iter_gives in
    let t = YieldsList-turn (YieldsList-from_vec {s = c.into_iter-op-iterator.result} ops gives.0 (gives.1 ∙ c.args.ops.ok.0)) c.loop-op.yielded c.loop-op.op-iterator c.loop-op.yielded_by c.next.result c.next.new.self o c.in-Some.is c.next.ensures.steps in
    let width : used + c.inserted.result - used ≡ inserted o.kind o.units = omega (arith, c.inserted.ensures.is) in
    let text : Text = take (inserted o.kind o.units) (drop used bank) in
    let put : c.put.new.change ≡ putting o.kind d o.units o.lines o.attrs text = c.in_ok-put.ensures ∙ ap (λ (k : ℕ). putting o.kind d o.units o.lines o.attrs (take k (drop used bank))) width in
    let more = goes_on c.args.old_len ops bank text n used d c.put.new.change o c.loop-op.invariant t.0 t.1 (λ i. text) put in
    let count : n + 1 ≡ length (c.loop-op.yielded ++ o ∷ []) = sym (length_push c.loop-op.yielded o) in
    let P : ℕ → ℕ → Type 0 = λ n used. IsSoFar c.args.old_len ops bank n used c.put.new.change in
    subst (λ (n : ℕ). P n (used + c.inserted.result)) count (subst (λ (k : ℕ). P (n + 1) (used + k)) (sym c.inserted.ensures.is) more)

pub finish-requires-clause-short : goal.finish-requires-clause-short
finish-requires-clause-short c =
    let ops = c.args.ops.items in
    let gives = c.into_iter-op-iterator.ensures.into_iter_gives in
    let t = YieldsList-end (YieldsList-from_vec {s = c.into_iter-op-iterator.result} ops gives.0 (gives.1 ∙ c.args.ops.ok.0)) c.loop-op.yielded c.loop-op.op-iterator c.loop-op.yielded_by c.next.result c.next.new.self c.in-None.is c.next.ensures.steps in
    let all = is_all c.args.old_len ops c.args.bank.now (length c.loop-op.yielded) c.loop-op.used c.loop-op.change c.loop-op.invariant (drop_end ops (length c.loop-op.yielded) t.1) c.requires.whole in
    omega (arith, all.new, c.requires.short)

pub finish-requires-clause-pieces : goal.finish-requires-clause-pieces
finish-requires-clause-pieces c =
    let ops = c.args.ops.items in
    let gives = c.into_iter-op-iterator.ensures.into_iter_gives in
    let t = YieldsList-end (YieldsList-from_vec {s = c.into_iter-op-iterator.result} ops gives.0 (gives.1 ∙ c.args.ops.ok.0)) c.loop-op.yielded c.loop-op.op-iterator c.loop-op.yielded_by c.next.result c.next.new.self c.in-None.is c.next.ensures.steps in
    let all = is_all c.args.old_len ops c.args.bank.now (length c.loop-op.yielded) c.loop-op.used c.loop-op.change c.loop-op.invariant (drop_end ops (length c.loop-op.yielded) t.1) c.requires.whole in
    subst (λ (c : Change). AreDocuments c.edit.places c.edit.last) (sym all.change) c.requires.pieces

pub returns : goal.returns
returns c =
    let ops = c.args.ops.items in
    let gives = c.into_iter-op-iterator.ensures.into_iter_gives in
    let t = YieldsList-end (YieldsList-from_vec {s = c.into_iter-op-iterator.result} ops gives.0 (gives.1 ∙ c.args.ops.ok.0)) c.loop-op.yielded c.loop-op.op-iterator c.loop-op.yielded_by c.next.result c.next.new.self c.in-None.is c.next.ensures.steps in
    let all = is_all c.args.old_len ops c.args.bank.now (length c.loop-op.yielded) c.loop-op.used c.loop-op.change c.loop-op.invariant (drop_end ops (length c.loop-op.yielded) t.1) c.requires.whole in
    subst (λ (d : Change). IfOk c.finish.result (λ (x : Change). x ≡ d)) all.change c.finish.ensures
