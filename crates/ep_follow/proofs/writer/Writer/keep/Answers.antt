use Rattle.std.proofs.Common.{◌∙◌, inl, sym}
use Rattle.ep_attr.specs.AttrMap.{none}
use Rattle.ep_attr.proofs.SameMap.{exact_map}
use Rattle.ep_follow.proofs.writer.Writer.keep.Goals as goal

pub returns-then-is_none : goal.returns-then-is_none
returns-then-is_none c = inl (exact_map c.args.attrs.now none (sym c.is_none.ensures ∙ c.if-is_none.true), c.keep_bare.ensures)
