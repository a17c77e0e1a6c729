-- What each form of a text in nodes stands for.
use Rattle.std.specs.Prelude.{List}
use Rattle.ep_cs.specs.Doc.{Cell}
use Rattle.ep_block_nodes.specs.Blocks.{all_cells}
use Rattle.ep_block_nodes.specs.declared.form.Form.{Form}
use Rattle.ep_block_nodes.specs.declared.form.Form.TheVariants.{Blocks, Groups, Pages}

abbrev pub form_cells : Form → List Cell
form_cells (Blocks bs) = all_cells bs.items
form_cells (Groups gs) = all_cells gs.items
form_cells (Pages ps) = all_cells ps.items
