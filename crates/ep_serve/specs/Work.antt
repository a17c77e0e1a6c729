-- What a job leaves.
use Rattle.std.specs.Prelude.{ℕ, List, Option, IfSome}
use Rattle.ep_cell.specs.Passes.{Known}
use Rattle.ep_dir_records.specs.declared.ids.Drawn.{Drawn}
use Rattle.ep_groups.specs.declared.entries.DirEntry.{DirEntry}
use Rattle.ep_groups.specs.declared.entries.DirReply.{DirReply}
use Rattle.ep_link.specs.declared.passed.Passed.{Passed}
use Rattle.ep_pad.specs.declared.wanted.Wanted.{Wanted}
use Rattle.ep_pad.specs.Halls.{Answer}
use Rattle.ep_pad.specs.declared.entries.PadEntry.{PadEntry}
use Rattle.ep_pad.specs.declared.entries.PadReply.{PadReply}
use Rattle.ep_session.specs.Drawing.{DrawsAll}
use Rattle.ep_session.specs.Passing.{own_of}
use Rattle.ep_session.specs.Served.{Served}
use Rattle.ep_session.specs.declared.session.Report.{Report}

-- a caller of pads had a session: ten numbers were drawn for it, it went as the walk says, and its passes are of these ports
pub record HasSat {Hall Desk Pass : Type 0} (hall_known : Hall → Known Wanted Answer) (desk_known : Desk → Known DirEntry DirReply) (known : Pass → Known PadEntry PadReply)
    (is_hall : Hall → Type 0) (is_desk : Desk → Type 0) (is_pass : Pass → Type 0)
    (may_show : ℕ → Type 0) (draws0 draws1 : Option (List ℕ)) (sent0 sent1 : Option (List Passed)) (report : Report Hall Pass Desk) : Type 0 where
  pub drawn : Drawn
  pub draws : DrawsAll draws0 draws1 drawn.digits
  pub served : Served may_show sent0 sent1 drawn (own_of desk_known report.desk) (own_of hall_known report.hall) (own_of known report.pass) report.session report.start report.cursor report.taken report.end
  pub hall : IfSome report.hall is_hall
  pub desk : IfSome report.desk is_desk
  pub pass : IfSome report.pass is_pass
