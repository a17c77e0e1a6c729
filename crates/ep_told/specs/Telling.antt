-- Which messages tell a birth of a pad.
use Rattle.std.specs.Prelude.{◌≡◌, ℕ, suc, ◌^◌, ◌<◌, ◌≤◌, ◌⊎◌, true, List, [], ◌∷◌, length, Some}
use Rattle.ep_units.specs.Text.{Text}
use Rattle.ep_units.specs.declared.session.Session.{Session}
use Rattle.ep_cs.specs.Change.{Change}
use Rattle.ep_history.specs.Lists.{at}
use Rattle.ep_history.specs.History.{Birth, doc_at, head, is_session}
use Rattle.ep_history.specs.Pad.{PadState, birth_at}
use Rattle.ep_history.specs.declared.rev.Rev.{Rev}
use Rattle.ep_wire_words.specs.declared.server.ServerMsg.{ServerMsg}
use Rattle.ep_wire_words.specs.declared.server.ServerMsg.TheVariants as msg
use Rattle.ep_session.specs.declared.place.Place.{Place}

-- the revision of this number stands right behind another: with this change, author, session and moment
abbrev pub IsNext : Birth → ℕ → ℕ → Change → Text → Session → ℕ → Type 0
IsNext b rev number change author session time =
    (number ≡ suc rev) × (v : Rev) × (at b.later rev ≡ Some v) × (v.change ≡ change) × (v.author ≡ author) × (v.session ≡ session) × (v.time ≡ time)

-- a session's edit is the revision of this number, right behind another; or it had become nothing, which is told with the number of that other
abbrev pub IsOwn : Birth → Session → ℕ → ℕ → Type 0
IsOwn b me rev number = ((number ≡ suc rev) × (v : Rev) × (at b.later rev ≡ Some v) × (is_session me v.session ≡ true)) ⊎ (number ≡ rev)

-- messages to a session tell a birth from behind this revision up to the cursor: the document as it stands where the session enters, and each revision in its turn
abbrev pub Tells : Birth → Session → ℕ → List ServerMsg → ℕ → Type 0
Tells b me rev [] cursor = cursor ≡ rev
Tells b me rev (msg.Vars pad author read_only session birth number doc time ∷ ms) cursor = (number ≡ rev) × (doc ≡ doc_at b rev) × Tells b me rev ms cursor
Tells b me rev (msg.Accepted number session ∷ ms) cursor = IsOwn b me rev number × Tells b me number ms cursor
Tells b me rev (msg.News number change author session time delta ∷ ms) cursor = IsNext b rev number change author session time × Tells b me number ms cursor
Tells b me rev (msg.Reconnect current birth head number change author session time ∷ ms) cursor = IsNext b rev number change author session time × Tells b me number ms cursor
Tells b me rev (m ∷ ms) cursor = Tells b me rev ms cursor

-- messages tell one birth of a pad, from the start of the session at this place to its cursor, as long as revisions have numbers of 64 bits
abbrev pub TellsHistory : PadState → Place → List ServerMsg → Type 0
TellsHistory pad place ms =
    (k : ℕ) × (k ≤ length pad.births) × (head (birth_at pad k) < 2 ^ 64 → Tells (birth_at pad k) place.me place.start ms place.rev)
