-- What a client writes is read again.
use Rattle.std.proofs.Common.{◌≡◌, ℕ, ◌≤◌, false, List, [], ◌∷◌, length, Option, Some, None, Ok, refl, ap, ◌∙◌, append-nil}
use Rattle.std.specs.List.{All, AllByRecursion, flat_map, slice_split}
use Rattle.std.proofs.lemmas.List.Splits.{slice_split_at, slice_split_none}
use Rattle.serde_json.specs.Read.{read}
use Rattle.ep_units.specs.Text.{Text}
use Rattle.ep_units.specs.Utf8.{units_of, utf8_of}
use Rattle.ep_pool.specs.Read.{IsText}
use Rattle.ep_cs.specs.Change.{Change}
use Rattle.ep_wire_words.specs.declared.client.Resume.{Resume}
use Rattle.ep_wire_words.specs.declared.client.ClientMsg.{ClientMsg}
use Rattle.ep_wire_words.specs.declared.client.ClientMsg.TheVariants as msg
use Rattle.ep_wire_words.specs.Client.{ReadsClient, ReadsValue, json_in}
use Rattle.ep_wire_words.specs.ClientJson.{client_json, joined}
use Rattle.ep_wire_words.specs.Sent.{AreIds, IfSmall, IfText, IsResume, IsSent, IsSentByClient, IsSmall}
use Rattle.ep_wire_words.specs.Sessions.{ids_in, is_comma}
use Rattle.ep_wire_words.proofs.Joined.{comma, nothing, text_appended}
use Rattle.ep_wire_words.proofs.Refused.{behind}
use Rattle.ep_wire_words.proofs.ServerAgain.{change_back, json_again, small_back, text_back}

abbrev AreTexts : List Text → Type 0
AreTexts ids = AllByRecursion (λ (id : Text). IsText id × All (λ u. is_comma u ≡ false) id) ids

rest_text : (rest : List Text) → AreTexts rest → IsText (flat_map (λ (t : Text). 44 ∷ t) rest)
rest_text [] all = nothing
rest_text (id ∷ rest) all = text_appended (44 ∷ id) (flat_map (λ (t : Text). 44 ∷ t) rest) (text_appended (44 ∷ []) id comma all.0.0) (rest_text rest all.1)

joined_text : (first : Text) (rest : List Text) → AreTexts (first ∷ rest) → IsText (joined first rest)
joined_text first rest all = text_appended first (flat_map (λ (t : Text). 44 ∷ t) rest) all.0.0 (rest_text rest all.1)

split_back : (first : Text) (rest : List Text) → AreTexts (first ∷ rest) → slice_split is_comma (joined first rest) ≡ first ∷ rest
split_back first [] all = ap (slice_split is_comma) (append-nil first) ∙ slice_split_none is_comma first all.0.1
split_back first (id ∷ rest) all = slice_split_at is_comma first 44 (joined id rest) all.0.1 refl ∙ ap (λ ids. first ∷ ids) (split_back id rest all.1)

by_units : (text : Text) (ids : List Text) → (text ≡ [] → ⊥) → slice_split is_comma text ≡ ids → ids_in text ≡ ids
by_units [] ids some is = absurd (some refl)
by_units (u ∷ us) ids some is = is

some_units : (first : Text) (rest : List Text) → (first ∷ rest ≡ [] ∷ [] → ⊥) → joined first rest ≡ [] → ⊥
some_units [] [] other none = other refl
some_units [] (id ∷ rest) other none = absurd (cc)
some_units (u ∷ us) rest other none = absurd (cc)

ids_back : (first : Text) (rest : List Text) → AreIds (first ∷ rest) → ids_in (units_of (utf8_of (joined first rest))) ≡ first ∷ rest
ids_back first rest is =
    ap ids_in (text_back (joined first rest) (joined_text first rest is.0)) ∙ by_units (joined first rest) (first ∷ rest) (some_units first rest is.1) (split_back first rest is.0)

edit_back : (base : ℕ) (change : Change) → IsSmall base → IsSent change → ReadsValue (client_json (msg.Edit base change)) (Ok (msg.Edit base change))
edit_back base change b sent = rw (small_back base b) (Ok change, change_back change sent, refl)

slide_back : (start granularity request : ℕ) → IsSmall start → IsSmall granularity → IsSmall request → ReadsValue (client_json (msg.Slide start granularity request)) (Ok (msg.Slide start granularity request))
slide_back start granularity request s g r = rw (small_back start s, small_back granularity g, small_back request r)

ready_back : (pad token : Text) (sessions : List Text) (resume : Option Resume) → IsText pad → IsText token → AreIds sessions → IsResume resume
    → ReadsValue (client_json (msg.Ready pad token sessions resume)) (Ok (msg.Ready pad token sessions resume))
ready_back pad token sessions None p t ids r = by sessions ids
  where
    by : (xs : List Text) → AreIds xs → ReadsValue (client_json (msg.Ready pad token xs None)) (Ok (msg.Ready pad token xs None))
    by [] h = rw (text_back pad p, text_back token t)
    by (first ∷ rest) h = rw (text_back pad p, text_back token t, ids_back first rest h)
ready_back pad token sessions (Some resume) p t ids r = by sessions resume.birth resume.author ids r.1 r.2
  where
    rev : ℕ
    rev = resume.rev

    by : (xs : List Text) (birth : Option ℕ) (author : Option Text) → AreIds xs → IfSmall birth → IfText author
        → ReadsValue (client_json (msg.Ready pad token xs (Some (record { rev = rev; birth = birth; author = author })))) (Ok (msg.Ready pad token xs (Some (record { rev = rev; birth = birth; author = author }))))
    by [] None None h b a = rw (text_back pad p, text_back token t, small_back rev r.0)
    by [] None (Some x) h b a = rw (text_back pad p, text_back token t, small_back rev r.0, text_back x a)
    by [] (Some n) None h b a = rw (text_back pad p, text_back token t, small_back rev r.0, small_back n b)
    by [] (Some n) (Some x) h b a = rw (text_back pad p, text_back token t, small_back rev r.0, small_back n b, text_back x a)
    by (first ∷ rest) None None h b a = rw (text_back pad p, text_back token t, ids_back first rest h, small_back rev r.0)
    by (first ∷ rest) None (Some x) h b a = rw (text_back pad p, text_back token t, ids_back first rest h, small_back rev r.0, text_back x a)
    by (first ∷ rest) (Some n) None h b a = rw (text_back pad p, text_back token t, ids_back first rest h, small_back rev r.0, small_back n b)
    by (first ∷ rest) (Some n) (Some x) h b a = rw (text_back pad p, text_back token t, ids_back first rest h, small_back rev r.0, small_back n b, text_back x a)

value_back : (m : ClientMsg) → IsSentByClient m → ReadsValue (client_json m) (Ok m)
value_back (msg.Ready pad token sessions resume) h = ready_back pad token sessions resume h.0 h.1 h.2 h.3
value_back (msg.Edit base change) h = edit_back base change h.0 h.1
value_back (msg.Slide start granularity request) h = slide_back start granularity request h.0 h.1 h.2
value_back msg.Other h = refl

pub client_again : (m : ClientMsg) (bytes : List ℕ) (limit : ℕ) → IsSentByClient m → read bytes ≡ Some (client_json m) → length bytes ≤ limit → ReadsClient bytes limit (Ok m)
client_again m bytes limit sent is short = behind (json_in bytes limit) ReadsValue (client_json m) (Ok m) (json_again bytes limit (client_json m) short is) (value_back m sent)
