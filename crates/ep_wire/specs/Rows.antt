-- Working words of private contracts: which message it is, as the code has it.
use Rattle.serde_json.specs.View.{view}
use Rattle.ep_wire.specs.declared.client_reader.ClientRow.{ClientRow}
use Rattle.ep_wire.specs.declared.client_reader.ClientRow.TheVariants as code
use Rattle.ep_wire.specs.declared.client_reader.EditMembers.{EditMembers as Members}
use Rattle.ep_wire_words.specs.Client.{EditMembers, Row, ready, edit, slide, other}

abbrev pub row_view : ClientRow → Row
row_view (code.Ready d) = ready (view d.now)
row_view (code.Edit d) = edit (view d.now)
row_view (code.Slide d) = slide (view d.now)
row_view code.Other = other

abbrev pub edit_view : Members → EditMembers
edit_view m = record { base = m.base; changeset = m.changeset.now; pool = view m.pool.now }
