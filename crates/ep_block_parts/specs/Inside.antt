-- What a text in stretches, and what is left of one, stand for.
use Rattle.std.specs.Prelude.{◌≡◌, ◌<◌, ◌^◌, List, length}
use Rattle.ep_cs.specs.Doc.{Cell}
use Rattle.ep_block_parts.specs.Spans.{cells_of, all_units, AreSpans, left_of, left_units, AreLeft}
use Rattle.ep_block_parts.specs.declared.parts.Parts.TheInside as parts
use Rattle.ep_block_parts.specs.declared.within.Within.TheInside as within

abbrev pub parted : parts.Inside → List Cell
parted p = cells_of p.spans.items p.text

pub record IsParted (p : parts.Inside) : Type 0 where
  pub spans : AreSpans p.spans.items
  pub whole : all_units p.spans.items ≡ length p.text
  pub short : length p.text < 2 ^ 32

-- the cells that are left of stretches
abbrev pub left_within : within.Inside → List Cell
left_within w = left_of w.spans.now w.left w.text.now

pub record IsWithin (w : within.Inside) : Type 0 where
  pub spans : AreLeft w.spans.now w.left
  pub whole : left_units w.spans.now w.left ≡ length w.text.now
  pub short : length w.text.now < 2 ^ 32
