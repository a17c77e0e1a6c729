-- No reply has a number that is no whole one.
use Rattle.std.proofs.Common.{◌≡◌, ℕ, Bool, true, false, ◌||◌, List, [], ◌∷◌, map, refl, Result, Ok, Err}
use Rattle.std.specs.declared.cmp.Ordering.{Ordering}
use Rattle.std.specs.declared.cmp.Ordering.TheVariants.{Less, Equal, Greater}
use Rattle.std.specs.Ordering.{nat_cmp, match_ordering}
use Rattle.std.specs.Cmp.Lexicographic.{slice_cmp}
use Rattle.serde_json.specs.Data as json
use Rattle.serde_json.specs.Data.{Members, no_members, member, put}
use Rattle.serde_json.specs.View.{items_of}
use Rattle.serde_json.specs.Written.{has_float, items_have_float, members_have_float}
use Rattle.ep_units.specs.Text.{Text}
use Rattle.ep_units.specs.Utf8.{utf8_of}
use Rattle.ep_dir_records.specs.declared.values.SessionInfo.{SessionInfo}
use Rattle.ep_ask.specs.Replies.{data_json, reply_json, session, sessions, text}
use Rattle.ep_ask.specs.declared.bad.ApiBad.{ApiBad}
use Rattle.ep_ask.specs.declared.answer.Data.{Data}
use Rattle.ep_ask.specs.declared.answer.Data.TheVariants as answer

either : (a b : Bool) → a ≡ false → b ≡ false → (a || b) ≡ false
either a b p q = rw (p, q)

first : (a b : Bool) → (a || b) ≡ false → a ≡ false
first false b h = refl
first true b h = h

second : (a b : Bool) → (a || b) ≡ false → b ≡ false
second false b h = h
second true b h = cc

texts-no_float : (ts : List Text) → items_have_float (items_of (map text ts)) ≡ false
texts-no_float [] = refl
texts-no_float (t ∷ ts) = texts-no_float ts

put-no_float : (k : List ℕ) (d : json.Data) (ms : Members) → has_float d ≡ false → members_have_float ms ≡ false → members_have_float (put k d ms) ≡ false
put-no_float k d no_members hd h = either _ _ hd refl
put-no_float k d (member l e ms) hd h =
    let one = first (has_float e) (members_have_float ms) h in
    let rest = second (has_float e) (members_have_float ms) h in
    elim (slice_cmp nat_cmp k l) as (λ o. members_have_float (match_ordering o (member k d (member l e ms)) (member l d ms) (member l e (put k d ms))) ≡ false) [
      | Less ↦ either _ _ hd h
      | Equal ↦ either _ _ hd rest
      | Greater ↦ either _ _ one (put-no_float k d ms hd rest)
    ]

sessions-no_float : (ms : Members) (ss : List SessionInfo) → members_have_float ms ≡ false → members_have_float (sessions ms ss) ≡ false
sessions-no_float ms [] h = h
sessions-no_float ms (s ∷ ss) h = sessions-no_float (put (utf8_of s.id) (session s) ms) ss (put-no_float (utf8_of s.id) (session s) ms refl h)

data-no_float : (d : Data) → has_float (data_json d) ≡ false
data-no_float answer.Nothing = refl
data-no_float (answer.Group id) = refl
data-no_float (answer.Groups ids) = either _ _ (texts-no_float ids) refl
data-no_float (answer.Pad id) = refl
data-no_float (answer.Pads ids) = either _ _ (texts-no_float ids) refl
data-no_float (answer.Author id) = refl
data-no_float (answer.AuthorName name) = refl
data-no_float (answer.Session id) = refl
data-no_float (answer.Info s) = refl
data-no_float (answer.Infos ss) = sessions-no_float no_members ss refl
data-no_float (answer.Text t) = refl
data-no_float (answer.Revisions n) = refl
data-no_float (answer.LastEdited n) = refl
data-no_float (answer.Users n) = refl
data-no_float (answer.ReadOnly id) = refl
data-no_float (answer.Public on) = refl

pub reply-no_float : (o : Result Data ApiBad) → has_float (reply_json o) ≡ false
reply-no_float (Ok d) = either _ _ (data-no_float d) refl
reply-no_float (Err why) = refl
