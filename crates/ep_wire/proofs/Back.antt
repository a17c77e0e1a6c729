-- What is written of a message is read as its JSON.
use Rattle.std.proofs.Common.{◌≡◌, ℕ, ◌<◌, ◌≤◌, ◌^◌, Bool, List, [], ◌∷◌, ◌++◌, Option, Some, None, option_and_then, length, map, refl, sym, ap, ◌∙◌, arith, append-nil}
use Rattle.json.specs.Json as json
use Rattle.json.specs.Lex.{tokens}
use Rattle.json.specs.Token.{Token}
use Rattle.json.specs.Tree.{items_depth}
use Rattle.json.proofs.Printed.Trees.{value-json_tokens}
use Rattle.serde_json.specs.Data.{Data}
use Rattle.serde_json.specs.Read.{max_depth, of_items, of_json, read}
use Rattle.serde_json.specs.View.{items_of}
use Rattle.serde_json.specs.Written.{items_outline, outline}
use Rattle.serde_json.proofs.Numbers.{number_of-decimal}
use Rattle.ep_units.specs.Text.{Text}
use Rattle.ep_units.specs.declared.session.Session.{Session}
use Rattle.ep_cs.specs.Change.{Change}
use Rattle.ep_cs.specs.Doc.{Doc}
use Rattle.ep_apply.specs.Documents.{insertion}
use Rattle.ep_csread.specs.Spelling.{all_named, pairs_named, printed}
use Rattle.ep_wire_words.specs.declared.client.Resume.{Resume}
use Rattle.ep_wire_words.specs.declared.client.ClientMsg.TheVariants as client
use Rattle.ep_wire_words.specs.declared.server.ServerMsg.TheVariants as server
use Rattle.ep_wire_words.specs.declared.server.Word.{Word}
use Rattle.ep_wire_words.specs.declared.server.Word.TheVariants as word
use Rattle.ep_wire_words.specs.ClientJson.{client_json}
use Rattle.ep_wire_words.specs.Json.{text}
use Rattle.ep_wire_words.specs.ServerJson.{server_json}
use Rattle.ep_wire.specs.Tokens.{Fits, IfFits, IsBack, said}
use Rattle.ep_wire.proofs.Rising.{entries_low, pool_read}

-- the value that is the whole of what was read
abbrev whole : Option (json.Json × List Token) → Option Data
whole o = option_and_then of_json (option_and_then (λ p. json.if_last p.0 p.1) o)

pub said_read : (d : Data) (bytes : List ℕ) → tokens bytes ≡ said d → IsBack d → read bytes ≡ Some d
said_read d bytes same back =
    ap whole (ap (json.value max_depth) (same ∙ sym (append-nil (said d))) ∙ value-json_tokens (outline d) max_depth [] (omega (arith, back.1))) ∙ back.0

pub accepted_back : (rev : ℕ) (s : Session) → rev < 2 ^ 64 → IsBack (server_json (server.Accepted rev s))
accepted_back rev s r = (rw (number_of-decimal rev r), omega arith)

pub news_back : (rev : ℕ) (change : Change) (author : Text) (s : Session) (time delta : ℕ) → length (pairs_named change.runs) < 2 ^ 64 → rev < 2 ^ 64 → time < 2 ^ 64 → delta < 2 ^ 64
    → IsBack (server_json (server.News rev change author s time delta))
news_back rev change author s time delta few r t d =
    (rw (pool_read (pairs_named change.runs) few, number_of-decimal time t, number_of-decimal rev r, number_of-decimal delta d), omega (arith, entries_low (pairs_named change.runs)))

pub reconnect_back : (current : Session) (birth head rev : ℕ) (change : Change) (author : Text) (s : Session) (time : ℕ) → length (pairs_named change.runs) < 2 ^ 64 → birth < 2 ^ 64 → head < 2 ^ 64 → rev < 2 ^ 64 → time < 2 ^ 64
    → IsBack (server_json (server.Reconnect current birth head rev change author s time))
reconnect_back current birth head rev change author s time few b h r t =
    (rw (pool_read (pairs_named change.runs) few, number_of-decimal birth b, number_of-decimal time t, number_of-decimal head h, number_of-decimal rev r), omega (arith, entries_low (pairs_named change.runs)))

pub none_back : (current : Session) (birth head rev : ℕ) → birth < 2 ^ 64 → head < 2 ^ 64 → rev < 2 ^ 64 → IsBack (server_json (server.ReconnectNone current birth head rev))
none_back current birth head rev b h r = (rw (number_of-decimal birth b, number_of-decimal head h, number_of-decimal rev r), omega arith)

pub vars_back : (pad author : Text) (read_only : Bool) (s : Session) (birth rev : ℕ) (doc : Doc) (time : ℕ) → length (pairs_named (insertion doc).runs) < 2 ^ 64 → birth < 2 ^ 64 → rev < 2 ^ 64 → time < 2 ^ 64
    → IsBack (server_json (server.Vars pad author read_only s birth rev doc time))
vars_back pad author read_only s birth rev doc time few b r t =
    (rw (pool_read (pairs_named (insertion doc).runs) few, number_of-decimal birth b, number_of-decimal rev r, number_of-decimal time t), omega (arith, entries_low (pairs_named (insertion doc).runs)))

texts_read : (ts : List Text) → of_items (items_outline (items_of (map text ts))) ≡ Some (items_of (map text ts))
texts_read [] = refl
texts_read (t ∷ ts) = rw (texts_read ts)

texts_low : (ts : List Text) → items_depth (items_outline (items_of (map text ts))) ≤ 0
texts_low [] = omega arith
texts_low (t ∷ ts) = omega (arith, texts_low ts)

pub slid_back : (start reached granularity request : ℕ) (forward backward : List Change) → length (all_named (forward ++ backward)) < 2 ^ 64 → start < 2 ^ 64 → reached < 2 ^ 64 → granularity < 2 ^ 64 → request < 2 ^ 64
    → IsBack (server_json (server.Slid start reached granularity request forward backward))
slid_back start reached granularity request forward backward few s e g q =
    let all = all_named (forward ++ backward) in (
      rw (pool_read all few, texts_read (map (printed all) backward), texts_read (map (printed all) forward), number_of-decimal reached e, number_of-decimal granularity g, number_of-decimal request q, number_of-decimal start s),
      omega (arith, entries_low all, texts_low (map (printed all) backward), texts_low (map (printed all) forward)),
    )

pub closing_back : (why : Word) → IsBack (server_json (server.Closing why))
closing_back word.UserDup = (refl, omega arith)
closing_back word.Deleted = (refl, omega arith)
closing_back word.BadChangeset = (refl, omega arith)
closing_back word.BadMessage = (refl, omega arith)
closing_back word.Deny = (refl, omega arith)
closing_back word.Full = (refl, omega arith)
closing_back word.Store = (refl, omega arith)

pub edit_back : (base : ℕ) (change : Change) → length (pairs_named change.runs) < 2 ^ 64 → base < 2 ^ 64 → IsBack (client_json (client.Edit base change))
edit_back base change few b = (rw (pool_read (pairs_named change.runs) few, number_of-decimal base b), omega (arith, entries_low (pairs_named change.runs)))

pub slide_back : (start granularity request : ℕ) → start < 2 ^ 64 → granularity < 2 ^ 64 → request < 2 ^ 64 → IsBack (client_json (client.Slide start granularity request))
slide_back start granularity request s g q = (rw (number_of-decimal granularity g, number_of-decimal request q, number_of-decimal start s), omega arith)

pub ready_back : (pad token : Text) (ids : List Text) (resume : Option Resume) → Fits resume → IsBack (client_json (client.Ready pad token ids resume))
ready_back pad token [] None fit = (refl, omega arith)
ready_back pad token (first ∷ rest) None fit = (refl, omega arith)
ready_back pad token ids (Some r) fit = by ids r.birth r.author fit.1
  where
    rev : ℕ
    rev = r.rev

    by : (xs : List Text) (birth : Option ℕ) (author : Option Text) → IfFits birth → IsBack (client_json (client.Ready pad token xs (Some (record { rev = rev; birth = birth; author = author }))))
    by [] None None b = (rw (number_of-decimal rev fit.0), omega arith)
    by [] None (Some x) b = (rw (number_of-decimal rev fit.0), omega arith)
    by [] (Some n) None b = (rw (number_of-decimal n b, number_of-decimal rev fit.0), omega arith)
    by [] (Some n) (Some x) b = (rw (number_of-decimal n b, number_of-decimal rev fit.0), omega arith)
    by (first ∷ rest) None None b = (rw (number_of-decimal rev fit.0), omega arith)
    by (first ∷ rest) None (Some x) b = (rw (number_of-decimal rev fit.0), omega arith)
    by (first ∷ rest) (Some n) None b = (rw (number_of-decimal n b, number_of-decimal rev fit.0), omega arith)
    by (first ∷ rest) (Some n) (Some x) b = (rw (number_of-decimal n b, number_of-decimal rev fit.0), omega arith)
