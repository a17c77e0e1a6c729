-- What a client is after what it hears.
use Rattle.std.specs.Prelude.{true, false, length, if◌then◌else◌}
use Rattle.ep_units.specs.declared.session.Session.{Session}
use Rattle.ep_cs.specs.Change.{Change}
use Rattle.ep_cs.specs.Edit.{Edit, identity}
use Rattle.ep_cs.specs.Follow.{follow}
use Rattle.ep_history.specs.Kept.{KeptClient, kept_own, kept_other, kept_nop, kept_dropped, is_kept_own}
use Rattle.ep_client.specs.declared.heard.Heard.{Heard}
use Rattle.ep_client.specs.declared.heard.Heard.TheVariants as heard
use Rattle.ep_client.specs.declared.heard.Told.{Told}
use Rattle.ep_client.specs.declared.heard.Told.TheVariants as told

-- a revision of the session in which the submission was sent is the submission, any other is another's
abbrev pub kept_hears_rev : Change → Session → KeptClient → KeptClient
kept_hears_rev change session k = if is_kept_own session k.sent_in then kept_own k else kept_dropped (kept_other change.edit k)

-- the client after what it hears
abbrev pub kept_hears : Heard → KeptClient → KeptClient
kept_hears (heard.Commit rev) k = kept_own k
kept_hears (heard.Nop rev) k = kept_nop k
kept_hears (heard.Rev rev change session) k = kept_hears_rev change session k

-- whether a revision was its own
abbrev pub told_of_rev : Session → KeptClient → Told
told_of_rev session k = if is_kept_own session k.sent_in then told.Commit else told.News

-- whether what it heard was its own
abbrev pub told_of : Heard → KeptClient → Told
told_of (heard.Commit rev) k = told.Commit
told_of (heard.Nop rev) k = told.Commit
told_of (heard.Rev rev change session) k = told_of_rev session k

-- what another's revision changes of the view: it goes behind what was submitted, and then behind what was not
abbrev pub shown_change : Edit → KeptClient → Edit
shown_change b k = follow true k.local (follow false k.sent b)

-- what a revision changes of the view: nothing, where it is its own
abbrev pub view_change_rev : Change → Session → KeptClient → Edit
view_change_rev change session k = if is_kept_own session k.sent_in then identity (length k.view) else shown_change change.edit k

-- what it changes of the view
abbrev pub view_change : Heard → KeptClient → Edit
view_change (heard.Commit rev) k = identity (length k.view)
view_change (heard.Nop rev) k = identity (length k.view)
view_change (heard.Rev rev change session) k = view_change_rev change session k
