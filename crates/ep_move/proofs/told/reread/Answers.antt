use Rattle.std.proofs.Common.{◌∙◌, List, ℕ, [], length, get_or, ap, sym, subst, arith}
use Rattle.std.specs.Prelude.{IfSome}
use Rattle.ep_record.specs.Bytes.{IsEncoding}
use Rattle.ep_move.proofs.Fronts.{one_read}
use Rattle.ep_move.proofs.told.reread.Goals as goal

pub loop-i-preserved : goal.loop-i-preserved
loop-i-preserved c = λ file is.
    let found = subst (λ o. IfSome o (IsEncoding c.get.result.now)) c.in-Some.is c.in_ok-record.ensures.found in
    let enc = subst (λ (bs : List ℕ). IsEncoding bs c.in-Some.record) (c.get.ensures ∙ ap (λ (l : List (List ℕ)). get_or l c.loop-i.i []) (sym is)) found in
    one_read file c.loop-i.pad c.next.new.self c.loop-i.i c.in-Some.record c.in_ok-next.field-0 (omega (arith, c.loop-i-test.true, c.len-i-end.ensures, ap length is)) (c.loop-i.invariant file is) enc c.in_ok-next.ensures c.if-not-branch.false
