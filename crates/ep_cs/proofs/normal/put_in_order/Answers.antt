use Rattle.std.proofs.Common.{◌≡◌, ◌∙◌, ◌-◌, ◌++◌, [], List, reverse, sym, ap, ap₂, arith, append-nil, take, subst}
use Rattle.ep_cs.specs.declared.op.Op.{Op}
use Rattle.ep_cs.specs.Written.{normal_of}
use Rattle.ep_cs.specs.Written.{IsFinished}
use Rattle.ep_cs.proofs.Finished.{finished}
use Rattle.ep_cs.specs.Taken.{made, Taken}
use Rattle.ep_cs.proofs.Taking.{begins, more_taken, all_taken}
use Rattle.ep_cs.specs.NormalRuns.{AreLined}
use Rattle.ep_cs.proofs.Roomy.{roomy_taken, enough_used, lined_taken, lined_normal}
use Rattle.ep_cs.proofs.normal.put_in_order.Goals as goal

pub runs-init : goal.runs-init
runs-init c = record {
  taken = record {
    taken = [];
    whole = sym (append-nil c.args.ops.items);
    used_is = sym (begins c.args.ops.items c.args.bank.now c.requires.written);
    is = ap₂ made c.new-drops.ensures.items c.in_ok-rest.ensures.items;
  };
  room = omega arith;
}

pub overflow_sub-start : goal.overflow_sub-start
overflow_sub-start c = enough_used c.runs.left.items c.pop.new.self.items c.in-Some.op c.runs.used c.inserted.result c.runs.invariant.taken.used_is c.in-Some.ensures.items c.inserted.ensures.is

pub take-requires-clause-room : goal.take-requires-clause-room
take-requires-clause-room c =
    roomy_taken c.args.ops.items c.args.bank.now c.runs.left.items c.pop.new.self.items c.runs.drops.items c.runs.rest.items c.in-Some.op c.runs.used _ c.runs.invariant.taken c.in-Some.ensures.items (ap (λ k. c.runs.used - k) c.inserted.ensures.is) c.requires.written c.requires.lined (omega (arith, c.requires.inside)) c.requires.small

pub take-requires-clause-lines : goal.take-requires-clause-lines
take-requires-clause-lines c =
    lined_taken c.args.ops.items c.args.bank.now c.runs.left.items c.runs.drops.items c.runs.rest.items c.runs.used c.runs.invariant.taken c.requires.lined

pub runs-preserved : goal.runs-preserved
runs-preserved c = record {
  taken = more_taken c.args.ops.items c.args.bank.now c.runs.left.items c.pop.new.self.items c.runs.drops.items c.runs.rest.items c.take.new.drops.items c.take.new.rest.items c.in-Some.op c.runs.used _ c.runs.invariant.taken c.in-Some.ensures.items (ap (λ k. c.runs.used - k) c.inserted.ensures.is) c.runs.invariant.room c.in_ok-take.ensures;
  room = omega (arith, c.runs.invariant.room);
}

pub returns : goal.returns
returns c =
    let nothing : c.pop.new.self.items ≡ [] = c.in_default.ensures.rest ∙ ap (λ n. take (n - 1) c.runs.left.items) c.in_default.ensures.cases.0 in
    let left : c.runs.left.items ≡ [] = c.in_default.ensures.items ∙ ap (λ (l : List Op). l ++ []) nothing in
    let t = subst (λ (l : List Op). Taken c.args.ops.items c.args.bank.now l c.runs.drops.items c.runs.rest.items c.runs.used) left c.runs.invariant.taken in
    let e : c.reverse.new.self.items ≡ normal_of c.args.ops.items c.args.bank.now = c.reverse.ensures.items ∙ ap reverse c.in_ok-append.ensures.items ∙ all_taken c.args.ops.items c.args.bank.now c.runs.drops.items c.runs.rest.items c.runs.used t in
    record {
      finished = subst (λ (os : List Op). IsFinished c.args.old_len c.args.ops.items c.args.bank.now os) (sym e) (finished c.args.old_len c.args.ops.items c.args.bank.now c.requires.written c.requires.inside);
      lines = subst AreLined (sym e) (lined_normal c.args.ops.items c.args.bank.now c.requires.lined);
    }
