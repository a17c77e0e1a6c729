-- No text has two answers.
use Rattle.std.proofs.Common.{◌≡◌, ℕ, List, Result, Ok, Err, sym, ap, ◌∙◌}
use Rattle.serde_json.specs.Data.{Data}
use Rattle.ep_attr.specs.AttrMap.{Pair}
use Rattle.ep_pool.specs.declared.from_json.PoolBad.{PoolBad}
use Rattle.ep_pool.proofs.Back as pools
use Rattle.ep_wire_words.specs.declared.bad.WireBad.{WireBad}
use Rattle.ep_wire_words.specs.declared.client.ClientMsg.{ClientMsg}
use Rattle.ep_wire_words.specs.declared.server.ServerMsg.{ServerMsg}
use Rattle.ep_wire_words.specs.Answer.{Then, ◌>>=◌}
use Rattle.ep_wire_words.specs.Client as client
use Rattle.ep_wire_words.specs.Client.{json_in}
use Rattle.ep_wire_words.specs.Server as server
use Rattle.ep_wire_words.specs.Pools.{IsPoolRead, Made, WithPool, made, of_pool}

abbrev HasOne : {A : Type 0} → (Result A WireBad → Type 0) → Type 0
HasOne {A} Reads = (a b : Result A WireBad) → Reads a → Reads b → a ≡ b

pool_once : (d : Data) (r s : Result (List Pair) PoolBad) → IsPoolRead d r → IsPoolRead d s → r ≡ s
pool_once d (Ok ps) (Ok qs) h k = ap Ok (pools.one d ps qs h.0 k.0)
pool_once d (Ok ps) (Err e) h k = absurd (pools.either d ps e h.1 h.0 k)
pool_once d (Err e) (Ok qs) h k = absurd (pools.either d qs e k.1 k.0 h)
pool_once d (Err e) (Err f) h k = ap Err (pools.one_cause d e f h k)

with_once : {A : Type 0} (d : Data) (next : List Pair → Result A WireBad) → HasOne (WithPool d next)
with_once d next a b h k = h.2 ∙ ap (λ r. of_pool r >>= next) (pool_once d h.0 k.0 h.1 k.1) ∙ sym k.2

made_once : {A B : Type 0} (Reads : Result A WireBad → Type 0) (f : A → B) → HasOne Reads → HasOne (Made Reads f)
made_once Reads f once a b h k = h.2 ∙ ap (made f) (once h.0 k.0 h.1 k.1) ∙ sym k.2

then_once : {A B : Type 0} (read : Result A WireBad) (Next : A → Result B WireBad → Type 0) → ((x : A) → HasOne (Next x)) → HasOne (Then read Next)
then_once (Ok x) Next once a b h k = once x a b h k
then_once (Err why) Next once a b h k = h ∙ sym k

edit_once : (m : client.EditMembers) → HasOne (client.ReadsEdit m)
edit_once m = made_once _ _ (with_once m.pool _)

client_row_once : (row : client.Row) → HasOne (client.ReadsRow row)
client_row_once (client.ready d) a b h k = h ∙ sym k
client_row_once (client.edit d) a b h k = then_once (client.edit_members d) client.ReadsEdit edit_once a b h k
client_row_once (client.slide d) a b h k = h ∙ sym k
client_row_once client.other a b h k = h ∙ sym k

vars_once : (m : server.VarsMembers) → HasOne (server.ReadsVars m)
vars_once m = made_once _ _ (with_once m.pool _)

news_once : (m : server.NewsMembers) → HasOne (server.ReadsNews m)
news_once m = made_once _ _ (with_once m.pool _)

back_once : (m : server.BackMembers) → HasOne (server.ReadsBack m)
back_once m = made_once _ _ (with_once m.pool _)

slid_once : (m : server.SlidMembers) → HasOne (server.ReadsSlid m)
slid_once m = made_once _ _ (with_once m.pool _)

server_row_once : (row : server.Row) → HasOne (server.ReadsRow row)
server_row_once (server.vars d) a b h k = then_once (server.vars_members d) server.ReadsVars vars_once a b h k
server_row_once (server.accepted d) a b h k = h ∙ sym k
server_row_once (server.news d) a b h k = then_once (server.news_members d) server.ReadsNews news_once a b h k
server_row_once (server.reconnect d) a b h k = then_once (server.back_members d) server.ReadsBack back_once a b h k
server_row_once (server.reconnect_none d) a b h k = h ∙ sym k
server_row_once (server.slid d) a b h k = then_once (server.slid_members d) server.ReadsSlid slid_once a b h k
server_row_once (server.closing why) a b h k = h ∙ sym k

client_value_once : (d : Data) → HasOne (client.ReadsValue d)
client_value_once d = then_once (client.row_of d) client.ReadsRow client_row_once

server_value_once : (d : Data) → HasOne (server.ReadsValue d)
server_value_once d = then_once (server.row_of d) server.ReadsRow server_row_once

pub client_once : (text : List ℕ) (limit : ℕ) (a b : Result ClientMsg WireBad) → client.ReadsClient text limit a → client.ReadsClient text limit b → a ≡ b
client_once text limit = then_once (json_in text limit) client.ReadsValue client_value_once

pub server_once : (text : List ℕ) (limit : ℕ) (a b : Result ServerMsg WireBad) → server.ReadsServer text limit a → server.ReadsServer text limit b → a ≡ b
server_once text limit = then_once (json_in text limit) server.ReadsValue server_value_once
