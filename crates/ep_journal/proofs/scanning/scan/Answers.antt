use Rattle.std.proofs.Common.{◌∙◌, sym, ap, map, Some}
use Rattle.ep_journal.proofs.Mending.{short_none}
use Rattle.ep_journal.proofs.scanning.scan.Goals as goal

pub returns-then-bytes-le9 : goal.returns-then-bytes-le9
returns-then-bytes-le9 c = ap (λ vs. Some (map (λ v. v.items) vs)) c.new.ensures.items ∙ sym (short_none c.args.bytes.now c.if-bytes-le9.true)
