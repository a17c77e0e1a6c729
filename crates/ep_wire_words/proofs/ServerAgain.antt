-- What the server writes is read again.
use Rattle.std.proofs.Common.{◌≡◌, ℕ, ◌<◌, ◌≤◌, ◌^◌, Bool, true, false, nat_le, nat_lt, List, [], ◌∷◌, ◌++◌, length, Some, Result, Ok, map, ◌&&◌, refl, sym, ap, ap₂, ◌∙◌, arith}
use Rattle.serde_json.specs.Data.{Data}
use Rattle.serde_json.specs.Read.{read}
use Rattle.serde_json.specs.View.{items_of}
use Rattle.std.specs.List.{AllByRecursion, flat_map, list_all}
use Rattle.ep_units.specs.Text.{Text}
use Rattle.ep_units.specs.Utf8.{units_of, utf8_of}
use Rattle.ep_units.specs.declared.session.Session.{Session}
use Rattle.ep_units.proofs.Back.{units_of-utf8_of}
use Rattle.ep_attr.specs.AttrMap.{Pair}
use Rattle.ep_pool.specs.Json.{pool_json}
use Rattle.ep_pool.specs.Read.{IsText, most_number}
use Rattle.ep_wire_words.proofs.Units.{both}
use Rattle.ep_pool.proofs.Back as pools
use Rattle.ep_cs.specs.Change.{Change, bank_of}
use Rattle.ep_cs.specs.Doc.{Doc, text_of}
use Rattle.ep_cs.specs.Edit.{apply}
use Rattle.ep_cs.specs.NormalRuns.{IsNormal}
use Rattle.ep_apply.specs.Documents.{insertion}
use Rattle.ep_apply.proofs.Again.{inserted_again}
use Rattle.ep_csread.specs.declared.bad.ReadBad.{ReadBad}
use Rattle.ep_csread.specs.Reading.{reading, reading_attribs}
use Rattle.ep_csread.specs.Spelling.{all_named, has_pairs, ops_text, pairs_named, printed}
use Rattle.ep_csread.proofs.Printed.{attribs_read, printed_read}
use Rattle.ep_csread.proofs.WirePool.{all_named_there, named_there}
use Rattle.ep_wire_words.specs.declared.bad.WireBad.{WireBad}
use Rattle.ep_wire_words.specs.declared.server.ServerMsg.{ServerMsg}
use Rattle.ep_wire_words.specs.declared.server.ServerMsg.TheVariants as msg
use Rattle.ep_wire_words.specs.declared.server.Word.{Word}
use Rattle.ep_wire_words.specs.declared.server.Word.TheVariants as word
use Rattle.ep_wire_words.specs.Client.{json_in}
use Rattle.ep_wire_words.specs.Members.{are_texts}
use Rattle.ep_wire_words.specs.Answer.{◌>>=◌}
use Rattle.ep_wire_words.specs.Json.{text}
use Rattle.ep_wire_words.specs.Pools.{ReadsChange, ReadsDoc, ReadsSteps, all_read, of_changeset}
use Rattle.ep_wire_words.specs.Sent.{AreSent, IsSent, IsSentByServer, IsSession, IsSmall}
use Rattle.ep_wire_words.specs.Server.{ReadsServer, ReadsValue}
use Rattle.ep_wire_words.specs.ServerJson.{server_json}
use Rattle.ep_wire_words.specs.Sessions.{session_in, session_text}
use Rattle.ep_wire_words.proofs.Ascii.{ops_are_text, printed_is_text}
use Rattle.ep_wire_words.proofs.Distinct.{named_distinct}
use Rattle.ep_wire_words.proofs.Refused.{behind}
use Rattle.ep_wire_words.proofs.SessionTexts.{session_again}

pub text_back : (us : Text) → IsText us → units_of (utf8_of us) ≡ us
text_back us is = units_of-utf8_of us is.0 is.1

pub small_back : (n : ℕ) → IsSmall n → nat_le n 9007199254740991 ≡ true
small_back n is = grind (arith, is)

pub session_back : (s : Session) → IsSession s → session_in (session_text s) ≡ Some s
session_back s is = session_again s is.0 is.1

pub json_again : (text : List ℕ) (limit : ℕ) (d : Data) → length text ≤ limit → read text ≡ Some d → json_in text limit ≡ Ok d
json_again text limit d short is = let e : nat_lt limit (length text) ≡ false = grind (arith, short) in rw (e, is)

few_enough : (n : ℕ) → n < 2 ^ 32 → n ≤ most_number
few_enough n few = omega (arith, few)

-- a change is read through its pool's JSON
pub change_back : (c : Change) → IsSent c → ReadsChange (pool_json (pairs_named c.runs)) (utf8_of (printed (pairs_named c.runs) c)) (Ok c)
change_back c is =
    let pairs = pairs_named c.runs in
    let read_again : reading pairs (printed pairs c) ≡ Ok c = printed_read pairs c is.few (named_there pairs c.runs c.runs refl refl) is.normal in
    let back : units_of (utf8_of (printed pairs c)) ≡ printed pairs c = text_back (printed pairs c) (printed_is_text pairs c is.bank) in
    (Ok pairs, (pools.back pairs (few_enough (length pairs) is.few) is.pairs, named_distinct c.runs), sym (ap of_changeset (ap (reading pairs) back ∙ read_again)))

accepted_back : (rev : ℕ) (s : Session) → IsSmall rev → IsSession s → ReadsValue (server_json (msg.Accepted rev s)) (Ok (msg.Accepted rev s))
accepted_back rev s r is = rw (small_back rev r, session_back s is)

none_back : (current : Session) (birth head rev : ℕ) → IsSession current → IsSmall birth → IsSmall head → IsSmall rev
    → ReadsValue (server_json (msg.ReconnectNone current birth head rev)) (Ok (msg.ReconnectNone current birth head rev))
none_back current birth head rev s b h r = rw (small_back birth b, session_back current s, small_back head h, small_back rev r)

closing_back : (why : Word) → ReadsValue (server_json (msg.Closing why)) (Ok (msg.Closing why))
closing_back word.UserDup = refl
closing_back word.Deleted = refl
closing_back word.BadChangeset = refl
closing_back word.BadMessage = refl
closing_back word.Deny = refl
closing_back word.Full = refl
closing_back word.Store = refl

news_back : (rev : ℕ) (change : Change) (author : Text) (s : Session) (time delta : ℕ) → IsSmall rev → IsSent change → IsText author → IsSession s → IsSmall time → IsSmall delta
    → ReadsValue (server_json (msg.News rev change author s time delta)) (Ok (msg.News rev change author s time delta))
news_back rev change author s time delta r sent a is t d =
    rw (small_back time t, small_back rev r, session_back s is, small_back delta d) (
      Ok change,
      change_back change sent,
      ap (λ x. Ok (msg.News rev change x s time delta)) (sym (text_back author a)),
    )

reconnect_back : (current : Session) (birth head rev : ℕ) (change : Change) (author : Text) (s : Session) (time : ℕ)
    → IsSession current → IsSmall birth → IsSmall head → IsSmall rev → IsSent change → IsText author → IsSession s → IsSmall time
    → ReadsValue (server_json (msg.Reconnect current birth head rev change author s time)) (Ok (msg.Reconnect current birth head rev change author s time))
reconnect_back current birth head rev change author s time c b h r sent a is t =
    rw (small_back birth b, session_back current c, small_back time t, small_back head h, small_back rev r, session_back s is) (
      Ok change,
      change_back change sent,
      ap (λ x. Ok (msg.Reconnect current birth head rev change x s time)) (sym (text_back author a)),
    )

-- a document is read through the pool of its insertion
pub doc_back : (doc : Doc) → IsSent (insertion doc)
    → ReadsDoc (pool_json (pairs_named (insertion doc).runs)) (utf8_of (text_of doc)) (utf8_of (ops_text (pairs_named (insertion doc).runs) (insertion doc).runs)) (Ok doc)
doc_back doc is =
    let c = insertion doc in
    let pairs = pairs_named c.runs in
    let read_again : reading_attribs pairs (text_of doc) (ops_text pairs c.runs) ≡ Ok c = attribs_read pairs c is.few (named_there pairs c.runs c.runs refl refl) is.normal refl in
    let text : units_of (utf8_of (text_of doc)) ≡ text_of doc = text_back (text_of doc) is.bank in
    let ops : units_of (utf8_of (ops_text pairs c.runs)) ≡ ops_text pairs c.runs = text_back (ops_text pairs c.runs) (ops_are_text pairs c.runs) in
    let there : reading_attribs pairs (units_of (utf8_of (text_of doc))) (units_of (utf8_of (ops_text pairs c.runs))) ≡ Ok c = ap₂ (reading_attribs pairs) text ops ∙ read_again in
    (Ok pairs, (pools.back pairs (few_enough (length pairs) is.few) is.pairs, named_distinct c.runs), sym (ap (λ (r : Result Change ReadBad). of_changeset r >>= λ x. Ok (apply x.edit [])) there ∙ ap Ok (inserted_again doc)))

vars_back : (pad author : Text) (read_only : Bool) (s : Session) (birth rev : ℕ) (doc : Doc) (time : ℕ) → IsText pad → IsText author → IsSession s → IsSmall birth → IsSmall rev → IsSmall time → IsSent (insertion doc)
    → ReadsValue (server_json (msg.Vars pad author read_only s birth rev doc time)) (Ok (msg.Vars pad author read_only s birth rev doc time))
vars_back pad author read_only s birth rev doc time p a is b r t sent =
    rw (small_back birth b, small_back rev r, small_back time t, session_back s is) (
      Ok doc,
      doc_back doc sent,
      ap₂ (λ x y. Ok (msg.Vars x y read_only s birth rev doc time)) (sym (text_back pad p)) (sym (text_back author a)),
    )

-- texts in an array
texts_there : (ts : List Text) → are_texts (items_of (map text ts)) ≡ true
texts_there [] = refl
texts_there (t ∷ ts) = texts_there ts

abbrev AreSafe : List Pair → List Change → Type 0
AreSafe pairs cs = AllByRecursion (λ (c : Change). IsNormal c × IsText (bank_of c.edit)) cs × (list_all (λ (c : Change). has_pairs pairs c.runs) cs ≡ true)

one_read : (pairs : List Pair) (c : Change) → length pairs < 2 ^ 32 → IsNormal c → IsText (bank_of c.edit) → has_pairs pairs c.runs ≡ true → reading pairs (units_of (utf8_of (printed pairs c))) ≡ Ok c
one_read pairs c few normal bank has = ap (reading pairs) (text_back (printed pairs c) (printed_is_text pairs c bank)) ∙ printed_read pairs c few has normal

all_back : (pairs : List Pair) (cs : List Change) → length pairs < 2 ^ 32 → AreSafe pairs cs → all_read pairs (items_of (map text (map (printed pairs) cs))) ≡ Ok cs
all_back pairs [] few safe = refl
all_back pairs (c ∷ cs) few safe =
    let has = both (has_pairs pairs c.runs) (list_all (λ (x : Change). has_pairs pairs x.runs) cs) safe.1 in
    let first = one_read pairs c few safe.0.0.0 safe.0.0.1 has.0 in
    let rest = all_back pairs cs few (safe.0.1, has.1) in
    ap (λ (r : Result Change ReadBad). of_changeset r >>= λ x. all_read pairs (items_of (map text (map (printed pairs) cs))) >>= λ xs. Ok (x ∷ xs)) first
    ∙ ap (λ (r : Result (List Change) WireBad). r >>= λ xs. Ok (c ∷ xs)) rest

parts_safe : (pairs : List Pair) (cs ds : List Change) → AreSafe pairs (cs ++ ds) → AreSafe pairs cs × AreSafe pairs ds
parts_safe pairs [] ds safe = ((tt, refl), safe)
parts_safe pairs (c ∷ cs) ds safe =
    let has = both (has_pairs pairs c.runs) (list_all (λ (x : Change). has_pairs pairs x.runs) (cs ++ ds)) safe.1 in
    let rest = parts_safe pairs cs ds (safe.0.1, has.1) in
    (((safe.0.0, rest.0.0), ap₂ (λ a b. a && b) has.0 rest.0.1), rest.1)

steps_back : (forward backward : List Change) → AreSent (forward ++ backward)
    → ReadsSteps (pool_json (all_named (forward ++ backward))) (items_of (map text (map (printed (all_named (forward ++ backward))) backward))) (items_of (map text (map (printed (all_named (forward ++ backward))) forward)))
    (Ok (backward, forward))
steps_back forward backward is =
    let all = forward ++ backward in
    let pairs = all_named all in
    let safe = parts_safe pairs forward backward (is.each, all_named_there pairs all refl) in
    let back = all_back pairs backward is.few safe.1 in
    let fore = all_back pairs forward is.few safe.0 in (
      Ok pairs,
      (pools.back pairs (few_enough (length pairs) is.few) is.pairs, named_distinct (flat_map (λ (c : Change). c.runs) all)),
      sym
          (ap (λ (r : Result (List Change) WireBad). r >>= λ cs. all_read pairs (items_of (map text (map (printed pairs) forward))) >>= λ ds. Ok (cs, ds)) back
          ∙ ap (λ (r : Result (List Change) WireBad). r >>= λ ds. Ok (backward, ds)) fore),
    )

slid_back : (start reached granularity request : ℕ) (forward backward : List Change) → IsSmall start → IsSmall reached → IsSmall granularity → IsSmall request → AreSent (forward ++ backward)
    → ReadsValue (server_json (msg.Slid start reached granularity request forward backward)) (Ok (msg.Slid start reached granularity request forward backward))
slid_back start reached granularity request forward backward s r g q sent =
    let all = all_named (forward ++ backward) in
    rw (small_back reached r, texts_there (map (printed all) backward), texts_there (map (printed all) forward), small_back granularity g, small_back request q, small_back start s) (
      Ok (backward, forward),
      steps_back forward backward sent,
      refl,
    )

value_back : (m : ServerMsg) → IsSentByServer m → ReadsValue (server_json m) (Ok m)
value_back (msg.Vars pad author read_only s birth rev doc time) h = vars_back pad author read_only s birth rev doc time h.0 h.1 h.2 h.3 h.4 h.5 h.6
value_back (msg.Accepted rev s) h = accepted_back rev s h.0 h.1
value_back (msg.News rev change author s time delta) h = news_back rev change author s time delta h.0 h.1 h.2 h.3 h.4 h.5
value_back (msg.Reconnect current birth head rev change author s time) h = reconnect_back current birth head rev change author s time h.0 h.1 h.2 h.3 h.4 h.5 h.6 h.7
value_back (msg.ReconnectNone current birth head rev) h = none_back current birth head rev h.0 h.1 h.2 h.3
value_back (msg.Slid start reached granularity request forward backward) h = slid_back start reached granularity request forward backward h.0 h.1 h.2 h.3 h.4
value_back (msg.Closing why) h = closing_back why

pub server_again : (m : ServerMsg) (bytes : List ℕ) (limit : ℕ) → IsSentByServer m → read bytes ≡ Some (server_json m) → length bytes ≤ limit → ReadsServer bytes limit (Ok m)
server_again m bytes limit sent is short = behind (json_in bytes limit) ReadsValue (server_json m) (Ok m) (json_again bytes limit (server_json m) short is) (value_back m sent)
