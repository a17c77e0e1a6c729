-- What a text in blocks, and what is read, passed and written of one, stand for.
use Rattle.std.specs.Prelude.{List, ◌++◌}
use Rattle.ep_units.specs.Text.{Text}
use Rattle.ep_cs.specs.Doc.{Cell, text_of}
use Rattle.ep_block_nodes.specs.Forms.{form_cells}
use Rattle.ep_blocks.specs.declared.body.Body.TheInside as body
use Rattle.ep_blocks.specs.declared.reading.Reading.TheInside as reading
use Rattle.ep_blocks.specs.declared.passing.Passing.TheInside as passing
use Rattle.ep_blocks.specs.declared.writer.Writer.TheInside as writer

abbrev pub body_cells : body.Inside → List Cell
body_cells b = form_cells b.form

-- the cells that are left to read
abbrev pub read_of : reading.Inside → List Cell
read_of r = r.here ++ r.ahead

-- the text that is left
abbrev pub text_left : passing.Inside → Text
text_left t = t.here.now ++ text_of t.ahead

-- the cells that are written
abbrev pub written : writer.Inside → List Cell
written w = w.pile ++ w.open
