-- Working words of private contracts: which of the server's messages it is, and its members, as the code has them.
use Rattle.serde_json.specs.View.{items_view, view}
use Rattle.ep_wire.specs.declared.server_reader.ServerRow.{ServerRow}
use Rattle.ep_wire.specs.declared.server_reader.ServerRow.TheVariants as code
use Rattle.ep_wire.specs.declared.server_reader.VarsMembers.{VarsMembers as CodeVars}
use Rattle.ep_wire.specs.declared.server_reader.NewsMembers.{NewsMembers as CodeNews}
use Rattle.ep_wire.specs.declared.server_reader.BackMembers.{BackMembers as CodeBack}
use Rattle.ep_wire.specs.declared.server_reader.SlidMembers.{SlidMembers as CodeSlid}
use Rattle.ep_wire_words.specs.Server.{Row, vars, accepted, news, reconnect, reconnect_none, slid, closing, VarsMembers, NewsMembers, BackMembers, SlidMembers}

abbrev pub row_view : ServerRow → Row
row_view (code.Vars d) = vars (view d.now)
row_view (code.Accepted d) = accepted (view d.now)
row_view (code.News d) = news (view d.now)
row_view (code.Reconnect d) = reconnect (view d.now)
row_view (code.ReconnectNone d) = reconnect_none (view d.now)
row_view (code.Slid d) = slid (view d.now)
row_view (code.Closing why) = closing why

abbrev pub vars_view : CodeVars → VarsMembers
vars_view m = record { birth = m.birth; pool = view m.pool.now; attribs = m.attribs.now; text = m.text.now; rev = m.rev; time = m.time; pad = m.pad.now; read_only = m.read_only; session = m.session; author = m.author.now }

abbrev pub news_view : CodeNews → NewsMembers
news_view m = record { pool = view m.pool.now; author = m.author.now; changeset = m.changeset.now; time = m.time; rev = m.rev; session = m.session; delta = m.delta }

abbrev pub back_view : CodeBack → BackMembers
back_view m = record { pool = view m.pool.now; author = m.author.now; birth = m.birth; changeset = m.changeset.now; current = m.current; time = m.time; head = m.head; rev = m.rev; session = m.session }

abbrev pub slid_view : CodeSlid → SlidMembers
slid_view m = record { reached = m.reached; pool = view m.pool.now; backward = items_view m.backward.now; forward = items_view m.forward.now; granularity = m.granularity; request = m.request; start = m.start }
