use Rattle.std.proofs.Common.{◌≡◌, drop}
use Rattle.serde_json.specs.Data.{no_members}
use Rattle.serde_json.specs.View.{members_view}
use Rattle.ep_ask.specs.Replies.{sessions}
use Rattle.ep_ask.proofs.answer.sessions.Given as goal

-- what is put, and what is still to be put
abbrev pub invariant-loop-info : goal.invariant-loop-info
invariant-loop-info l = sessions (members_view l.members.entries) (drop l.info-index l.all) ≡ sessions no_members l.all
