use Rattle.std.proofs.Common.{◌-◌, arith}
use Rattle.std.proofs.lemmas.Result.{IfOk-weaker}
use Rattle.ep_invert.proofs.Writes.{seen_kept, kept_room}
use Rattle.ep_invert.proofs.writing.keep_seen.Goals as goal

pub keep-requires-2-clause-inside : goal.keep-requires-2-clause-inside
keep-requires-2-clause-inside c =
    let s = c.args.seen in
    kept_room c.args.out.now c.keep.new.self (s.units - s.tail) s.lines s.tail c.args.attrs.now c.in_ok-keep.ensures.ok (omega (arith, c.requires.inside, c.requires.lined))

pub returns : goal.returns
returns c = IfOk-weaker c.keep-2.result _ _ (λ _ e us a. seen_kept c.args.out.now c.keep.new.self c.keep-2.new.self c.args.seen us c.args.attrs.now a c.in_ok-keep.ensures.ok e) c.keep-2.ensures.ok
