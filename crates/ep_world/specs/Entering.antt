-- Who was welcomed.
use Rattle.std.specs.Prelude.{None}
use Rattle.ep_history.specs.Kept.{kept_started}
use Rattle.ep_undo.specs.Undo.{undo_started}
use Rattle.ep_pad_state.specs.declared.answers.Welcome.{Welcome}
use Rattle.ep_members.specs.declared.member.Member.{Member}
use Rattle.ep_members.specs.Conns.{kept_new}

-- a client that starts at what it was welcomed with, and has nothing to take back
abbrev pub started_member : Welcome → Member
started_member w = record { client = undo_started (kept_started w.doc w.rev w.session); birth = w.birth; conn = kept_new w.session w.rev; earlier = None }
