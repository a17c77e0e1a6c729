-- Which messages are read again as they were written.
use Rattle.std.specs.Prelude.{◌≡◌, ℕ, ◌<◌, ◌≤◌, ◌^◌, false, List, [], ◌∷◌, ◌++◌, length, Option, Some, None}
use Rattle.std.specs.List.{All, AllByRecursion}
use Rattle.ep_units.specs.Text.{Text}
use Rattle.ep_units.specs.declared.session.Session.{Session}
use Rattle.ep_pool.specs.Read.{AreTexts, IsText}
use Rattle.ep_cs.specs.Change.{Change, bank_of}
use Rattle.ep_cs.specs.NormalRuns.{IsNormal}
use Rattle.ep_apply.specs.Documents.{insertion}
use Rattle.ep_csread.specs.Spelling.{all_named, pairs_named}
use Rattle.ep_wire_words.specs.declared.client.Resume.{Resume}
use Rattle.ep_wire_words.specs.declared.client.ClientMsg.{ClientMsg}
use Rattle.ep_wire_words.specs.declared.client.ClientMsg.TheVariants as client
use Rattle.ep_wire_words.specs.declared.server.ServerMsg.{ServerMsg}
use Rattle.ep_wire_words.specs.declared.server.ServerMsg.TheVariants as server
use Rattle.ep_wire_words.specs.Sessions.{is_comma}

-- a number that a browser has exactly
abbrev pub IsSmall : ℕ → Type 0
IsSmall n = n ≤ 9007199254740991

abbrev pub IsSession : Session → Type 0
IsSession s = (s.epoch < 2 ^ 64) × (s.count < 2 ^ 64)

-- a change whose texts are well-formed, with pairs that a pool can number
pub record IsSent (c : Change) : Type 0 where
  pub normal : IsNormal c
  pub few : length (pairs_named c.runs) < 2 ^ 32
  pub pairs : AreTexts (pairs_named c.runs)
  pub bank : IsText (bank_of c.edit)

-- changes with one pool
pub record AreSent (cs : List Change) : Type 0 where
  pub each : AllByRecursion (λ (c : Change). IsNormal c × IsText (bank_of c.edit)) cs
  pub few : length (all_named cs) < 2 ^ 32
  pub pairs : AreTexts (all_named cs)

abbrev pub IfText : Option Text → Type 0
IfText None = Unit {0}
IfText (Some t) = IsText t

abbrev pub IfSmall : Option ℕ → Type 0
IfSmall None = Unit {0}
IfSmall (Some n) = IsSmall n

abbrev pub IsResume : Option Resume → Type 0
IsResume None = Unit {0}
IsResume (Some r) = IsSmall r.rev × IfSmall r.birth × IfText r.author

-- ids without comma, which aren't one empty id alone
abbrev pub AreIds : List Text → Type 0
AreIds ids = AllByRecursion (λ (id : Text). IsText id × All (λ u. is_comma u ≡ false) id) ids × (ids ≡ [] ∷ [] → ⊥)

abbrev pub IsSentByClient : ClientMsg → Type 0
IsSentByClient (client.Ready pad token sessions resume) = IsText pad × IsText token × AreIds sessions × IsResume resume
IsSentByClient (client.Edit base change) = IsSmall base × IsSent change
IsSentByClient (client.Slide start granularity request) = IsSmall start × IsSmall granularity × IsSmall request
IsSentByClient client.Other = Unit {0}

abbrev pub IsSentByServer : ServerMsg → Type 0
IsSentByServer (server.Vars pad author read_only s birth rev doc time) =
    IsText pad × IsText author × IsSession s × IsSmall birth × IsSmall rev × IsSmall time × IsSent (insertion doc)
IsSentByServer (server.Accepted rev s) = IsSmall rev × IsSession s
IsSentByServer (server.News rev change author s time delta) = IsSmall rev × IsSent change × IsText author × IsSession s × IsSmall time × IsSmall delta
IsSentByServer (server.Reconnect current birth head rev change author s time) =
    IsSession current × IsSmall birth × IsSmall head × IsSmall rev × IsSent change × IsText author × IsSession s × IsSmall time
IsSentByServer (server.ReconnectNone current birth head rev) = IsSession current × IsSmall birth × IsSmall head × IsSmall rev
IsSentByServer (server.Slid start reached granularity request forward backward) =
    IsSmall start × IsSmall reached × IsSmall granularity × IsSmall request × AreSent (forward ++ backward)
IsSentByServer (server.Closing why) = Unit {0}
