-- What a server's message is to a client.
use Rattle.std.specs.Prelude.{ℕ, ◌==◌, if◌then◌else◌, Some, None}
use Rattle.ep_client.specs.declared.heard.Heard.{Heard}
use Rattle.ep_client.specs.declared.heard.Heard.TheVariants as heard
use Rattle.ep_wire_words.specs.declared.server.ServerMsg.{ServerMsg}
use Rattle.ep_wire_words.specs.declared.server.ServerMsg.TheVariants as msg
use Rattle.ep_hearing.specs.declared.meaning.Meaning.{Meaning}
use Rattle.ep_hearing.specs.declared.meaning.Meaning.TheVariants as means
use Rattle.ep_hearing.specs.declared.meaning.News.{News}

-- a commit that names the revision that the client has heard says that its submission has become nothing
abbrev pub accepted : ℕ → ℕ → Heard
accepted at rev = if rev == at then heard.Nop rev else heard.Commit rev

-- what a client hears of news
abbrev pub heard_of : News → Heard
heard_of n = heard.Rev n.rev n.change n.session

-- what a message is to a client that has heard this revision last
abbrev pub meant : ℕ → ServerMsg → Meaning
meant at (msg.Vars pad author read_only session birth rev doc time) =
    means.Welcome (record { author = author; read_only = read_only; session = session; birth = birth; rev = rev; doc = doc })
meant at (msg.Accepted rev session) = means.Own (accepted at rev)
meant at (msg.News rev change author session time delta) = means.News (record { rev = rev; change = change; session = session; by = author })
meant at (msg.Reconnect current birth head rev change author session time) =
    means.Back (record { session = current; birth = birth; head = head }) (Some (record { rev = rev; change = change; session = session; by = author }))
meant at (msg.ReconnectNone current birth head rev) = means.Back (record { session = current; birth = birth; head = head }) None
meant at (msg.Slid start reached granularity request forward backward) =
    means.Slid (record { start = start; reached = reached; granularity = granularity; request = request; forward = forward; backward = backward })
meant at (msg.Closing word) = means.Closing word
