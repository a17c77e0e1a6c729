-- Working words of private contracts: how what lies in memory is seen.
use Rattle.std.specs.Prelude.{List, map}
use Rattle.serde_json.specs.View.{view}
use Rattle.ep_import.specs.declared.rows.Front as declared_front
use Rattle.ep_import.specs.declared.rows.Row as declared_row
use Rattle.ep_history.specs.declared.rev.Rev.{Rev}
use Rattle.ep_replay.specs.declared.replay.Replay.{Replay}
use Rattle.ep_import.specs.declared.history.History.{History}
use Rattle.ep_import.specs.Imported.{Front, Row, Said}

abbrev pub front_view : declared_front.Front → Front
front_view f = record { pad = view f.pad.now; attribs = f.attribs.now; text = f.text.now; head = f.head; pool = view f.pool.now }

abbrev pub row_view : declared_row.Row → Row
row_view r = record { changeset = r.changeset.now; author = r.author.now; session = r.session; time = r.time }

abbrev pub row_views : List declared_row.Row → List Row
row_views rs = map row_view rs

abbrev pub said : History → Said
said h = record { revs = h.revs.items; public = h.public }

abbrev pub revs_of : Replay → List Rev
revs_of replay = replay.revs.items
