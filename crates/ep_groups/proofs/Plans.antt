-- What the calls plan over a map that a directory alone has written.
use Rattle.std.proofs.Common.{◌≡◌, ℕ, zero, suc, arith, slice_index, ◌<◌, ◌^◌, Bool, true, false, nat_le, List, [], ◌∷◌, ◌++◌, map, Option, Some, None, is_some, Result, Ok, Err, if◌then◌else◌, refl}
use Rattle.ep_units.specs.Text.{Text}
use Rattle.ep_units.specs.Utf8.{units_of, utf8_of}
use Rattle.ep_units.specs.PadId.{is_own_id, group_of}
use Rattle.ep_outside.specs.declared.keeper.Pair.{Pair}
use Rattle.ep_outside.specs.declared.keeper.Put.{Put}
use Rattle.ep_dir_records.specs.Keys.{key, put, gone, count_put}
use Rattle.ep_dir_records.specs.Values.{only_if, empty_in, id_in, is_id, own, pad_in, session_in}
use Rattle.ep_dir_records.specs.declared.ids.IdKind.{IdKind}
use Rattle.ep_dir_records.specs.declared.ids.IdKind.TheVariants as id
use Rattle.ep_dir_records.specs.declared.keys.Kind.TheVariants as kind
use Rattle.ep_dir_records.specs.declared.values.SessionInfo.{SessionInfo}
use Rattle.ep_dir_records.specs.Answers.{only}
use Rattle.ep_dir_records.specs.Readings.{in_group, name_of, needed, new_id, not_past, of_author, of_group, pads_of, read, session, sessions, there}
use Rattle.ep_dir_records.specs.declared.dir_bad.DirBad.{DirBad}
use Rattle.ep_dir_records.specs.declared.dir_bad.DirBad.TheVariants.{Past, BadName, Denied}
use Rattle.ep_groups.specs.Directory.{made, old_or, create_group, group_put, live_group, mapped_group, mapped_group_put, group_for, group_gone, delete_group, pad_named, add_group_pad, listed_pad_gone, dropped, drop_group_pad, group_pads, author_put, create_author, renamed, mapped_author_put, old_author_or, author_for, session_put, create_session, delete_session, sessions_of_group, sessions_of_author, read_only_put, read_only}
use Rattle.ep_groups.specs.Policy.{is_read_only_id, pad_behind, own_pad, pad_asked, is_member, member_or, member, member_of, token_put, token_author, granted, grant}
use Rattle.ep_groups.specs.Ours.{AreOurs}
use Rattle.ep_groups.specs.Calls.{AreUnits, IsDrawn, IsPad}
use Rattle.ep_groups.proofs.Texts.{IsIdOf, some_if, own_again, session_is_read}
use Rattle.ep_groups.proofs.Pairs.{PutsAreOurs, pair_is_ours, count_put_is_ours, puts_append, gone_are_ours}
use Rattle.ep_groups.proofs.Fine.{Fine, Any, If, fine_then, fine_any, fine_if, fine_there}
use Rattle.ep_groups.proofs.Found.{IsNew, read_id_fine, group_fine, in_group_fine, name_fine, read_session_fine, session_fine, read_pad_fine, read_listed_fine, new_id_fine, sessions_fine, pads_fine}

-- what is put is the directory's own
abbrev pub Plans : {A : Type 0} → A × List Put → Type 0
Plans planned = PutsAreOurs planned.1

pub only_fine : {A : Type 0} (f : List Pair → Result A DirBad) (m : List Pair) → Fine Any (f m) → Fine Plans (only f m)
only_fine f m h = fine_then Any Plans (f m) (λ x. Ok (x, [])) h (λ x _. tt)

id_there : (i : IdKind) (text : Text) → IsIdOf i text → is_some (id_in i (utf8_of text)) ≡ true
id_there i text h = some_if (is_id i (utf8_of text)) (units_of (utf8_of text)) h

-- a new id of this kind, with puts that are the directory's own
made_fine : (i : IdKind) (drawn : List ℕ) (puts : Text → List Put) (m : List Pair) → IsDrawn drawn → AreOurs m → ((text : Text) → IsIdOf i text → PutsAreOurs (puts text)) → Fine Plans (made i drawn puts m)
made_fine i drawn puts m d ours own =
    fine_then (IsNew i) Plans (new_id i drawn m) (λ n. Ok (n.0, count_put n.1 ∷ puts n.0)) (new_id_fine i drawn m d ours)
    (λ n h. count_put_is_ours n.1 (puts n.0) h.1 (own n.0 h.0))

old_or_fine : (old : Option Text) (new : Result (Text × List Put) DirBad) → Fine Plans new → Fine Plans (old_or old new)
old_or_fine (Some old) new h = tt
old_or_fine None new h = h

-- GROUPS
group_put_ours : (text : Text) → IsIdOf id.Group text → PutsAreOurs (group_put text)
group_put_ours text h = (pair_is_ours kind.Group (utf8_of text) [] h, tt)

pub create_group_fine : (drawn : List ℕ) (m : List Pair) → IsDrawn drawn → AreOurs m → Fine Plans (create_group drawn m)
create_group_fine drawn m d ours = made_fine id.Group drawn group_put m d ours group_put_ours

live_group_fine : (group : Option Text) (m : List Pair) → AreOurs m → Fine Any (live_group group m)
live_group_fine None m ours = tt
live_group_fine (Some group) m ours =
    fine_then (If (λ _. IsIdOf id.Group group)) Any (read empty_in (key kind.Group group) m) (λ x. Ok (if is_some x then Some group else None)) (group_fine group m ours) (λ x _. tt)

mapped_group_fine : (mapper : Text) (m : List Pair) → AreOurs m → Fine Any (mapped_group mapper m)
mapped_group_fine mapper m ours =
    fine_then (If (IsIdOf id.Group)) Any (read (id_in id.Group) (key kind.GroupMapper mapper) m) (λ old. live_group old m)
    (read_id_fine id.Group kind.GroupMapper mapper (λ value h. h) m ours) (λ old _. live_group_fine old m ours)

mapped_group_put_ours : (mapper text : Text) → IsIdOf id.Group text → PutsAreOurs (mapped_group_put mapper text)
mapped_group_put_ours mapper text h = (pair_is_ours kind.Group (utf8_of text) [] h, (pair_is_ours kind.GroupMapper (utf8_of mapper) (utf8_of text) (id_there id.Group text h), tt))

pub group_for_fine : (mapper : Text) (drawn : List ℕ) (m : List Pair) → IsDrawn drawn → AreOurs m → Fine Plans (group_for mapper drawn m)
group_for_fine mapper drawn m d ours =
    fine_then Any Plans (mapped_group mapper m) (λ old. old_or old (made id.Group drawn (mapped_group_put mapper) m)) (mapped_group_fine mapper m ours)
    (λ old _. old_or_fine old (made id.Group drawn (mapped_group_put mapper) m) (made_fine id.Group drawn (mapped_group_put mapper) m d ours (mapped_group_put_ours mapper)))

group_gone_ours : (group : Text) (is : List SessionInfo) (pads : List Text) → PutsAreOurs (group_gone group is pads)
group_gone_ours group is pads =
    (tt, puts_append (map (λ i. gone (key kind.Session i.id)) is) (map (λ p. gone (key kind.GroupPad p)) pads) (gone_are_ours (λ (i : SessionInfo). key kind.Session i.id) is) (gone_are_ours (λ (p : Text). key kind.GroupPad p) pads))

pub delete_group_fine : (group : Text) (m : List Pair) → AreOurs m → Fine Plans (delete_group group m)
delete_group_fine group m ours =
    fine_then (λ _. IsIdOf id.Group group) Plans (in_group group m) _ (in_group_fine group m ours) (λ u _.
    fine_then Any Plans (sessions m) _ (sessions_fine m ours) (λ is _.
    fine_then Any Plans (pads_of group m) _ (pads_fine group m ours) (λ pads _.
    group_gone_ours group (of_group group is) pads)))

-- PADS OF GROUPS
own_fine : (bad : DirBad) (text : Text) → (P : Text → Type 0) → Fine P (Err bad) → (is_own_id text ≡ true → P text) → Fine P (there bad (own text))
own_fine bad text P plain is = go (is_own_id text) refl
  where
    go : (b : Bool) → is_own_id text ≡ b → Fine P (there bad (only_if b text))
    go true e = is e
    go false e = plain

abbrev IsKeptPad : Text → Type 0
IsKeptPad pad = is_own_id (units_of (utf8_of pad)) ≡ true

units_append : (us vs : Text) → AreUnits us → AreUnits vs → (k : ℕ) → slice_index (us ++ vs) k < 2 ^ 16
units_append [] vs a b k = b k
units_append (u ∷ us) vs a b zero = a 0
units_append (u ∷ us) vs a b (suc k) = units_append us vs (λ j. a (suc j)) b k

units_dollar : (k : ℕ) → slice_index (36 ∷ []) k < 2 ^ 16
units_dollar zero = omega arith
units_dollar (suc k) = omega arith

pad_named_fine : (group name : Text) → AreUnits group → AreUnits name → Fine IsKeptPad (pad_named group name)
pad_named_fine group name g n =
    let text = (group ++ 36 ∷ []) ++ name in
    own_fine BadName text IsKeptPad (λ z. z) (own_again text (units_append (group ++ 36 ∷ []) name (units_append group (36 ∷ []) g units_dollar) n))

pub add_group_pad_fine : (group name : Text) (m : List Pair) → AreUnits group → AreUnits name → AreOurs m → Fine Plans (add_group_pad group name m)
add_group_pad_fine group name m g n ours =
    fine_then (λ _. IsIdOf id.Group group) Plans (in_group group m) _ (in_group_fine group m ours) (λ u _.
    fine_then IsKeptPad Plans (pad_named group name) (λ pad. Ok (pad, put (key kind.GroupPad pad) [] ∷ [])) (pad_named_fine group name g n) (λ pad h.
    (pair_is_ours kind.GroupPad (utf8_of pad) [] h, tt)))

listed_pad_gone_ours : (pad : Text) (mark : Option (Unit {0})) → PutsAreOurs (listed_pad_gone pad mark)
listed_pad_gone_ours pad None = tt
listed_pad_gone_ours pad (Some u) = (tt, tt)

dropped_fine : (group : Option Text) (pad : Text) (m : List Pair) → AreOurs m → Fine Plans (dropped group pad m)
dropped_fine None pad m ours = tt
dropped_fine (Some group) pad m ours =
    fine_then (If Any) Plans (read empty_in (key kind.GroupPad pad) m) (λ mark. Ok (tt, listed_pad_gone pad mark)) (read_listed_fine pad m ours) (λ mark _. listed_pad_gone_ours pad mark)

pub drop_group_pad_fine : (pad : Text) (m : List Pair) → AreOurs m → Fine Plans (drop_group_pad pad m)
drop_group_pad_fine pad m ours = dropped_fine (group_of pad) pad m ours

pub group_pads_fine : (group : Text) (m : List Pair) → AreOurs m → Fine Any (group_pads group m)
group_pads_fine group m ours =
    fine_then (λ _. IsIdOf id.Group group) Any (in_group group m) (λ _. pads_of group m) (in_group_fine group m ours) (λ u _. pads_fine group m ours)

-- AUTHORS
author_put_ours : (name text : Text) → IsIdOf id.Author text → PutsAreOurs (author_put name text)
author_put_ours name text h = (pair_is_ours kind.Author (utf8_of text) (utf8_of name) h, tt)

pub create_author_fine : (name : Text) (drawn : List ℕ) (m : List Pair) → IsDrawn drawn → AreOurs m → Fine Plans (create_author name drawn m)
create_author_fine name drawn m d ours = made_fine id.Author drawn (author_put name) m d ours (author_put_ours name)

renamed_ours : (text : Text) (name : Option Text) → IsIdOf id.Author text → PutsAreOurs (renamed text name)
renamed_ours text None h = tt
renamed_ours text (Some name) h = author_put_ours name text h

mapped_author_put_ours : (mapper : Text) (name : Option Text) (text : Text) → IsIdOf id.Author text → PutsAreOurs (mapped_author_put mapper name text)
mapped_author_put_ours mapper name text h = (pair_is_ours kind.Author (utf8_of text) _ h, (pair_is_ours kind.AuthorMapper (utf8_of mapper) (utf8_of text) (id_there id.Author text h), tt))

old_author_fine : (old name : Option Text) (new : Result (Text × List Put) DirBad) → If (IsIdOf id.Author) old → Fine Plans new → Fine Plans (old_author_or old name new)
old_author_fine (Some text) name new h k = renamed_ours text name h
old_author_fine None name new h k = k

pub author_for_fine : (mapper : Text) (name : Option Text) (drawn : List ℕ) (m : List Pair) → IsDrawn drawn → AreOurs m → Fine Plans (author_for mapper name drawn m)
author_for_fine mapper name drawn m d ours =
    fine_then (If (IsIdOf id.Author)) Plans (read (id_in id.Author) (key kind.AuthorMapper mapper) m) (λ old. old_author_or old name (made id.Author drawn (mapped_author_put mapper name) m))
    (read_id_fine id.Author kind.AuthorMapper mapper (λ value h. h) m ours)
    (λ old h. old_author_fine old name _ h (made_fine id.Author drawn (mapped_author_put mapper name) m d ours (mapped_author_put_ours mapper name)))

pub author_name_fine : (author : Text) (m : List Pair) → AreOurs m → Fine Any (name_of author m)
author_name_fine author m ours = fine_any (λ _. IsIdOf id.Author author) (name_of author m) (name_fine author m ours)

-- SESSIONS
not_past_fine : (until now : ℕ) → Fine Any (not_past until now)
not_past_fine until now = fine_if Any (nat_le until now) (Err (Past now)) (Ok tt) (λ z. z) tt

session_put_ours : (group author : Text) (until : ℕ) (text : Text) → IsIdOf id.Group group → IsIdOf id.Author author → until < 2 ^ 64 → PutsAreOurs (session_put group author until text)
session_put_ours group author until text g a l = (pair_is_ours kind.Session (utf8_of text) _ (session_is_read (units_of (utf8_of text)) group author until g a l), tt)

pub create_session_fine : (group author : Text) (until now : ℕ) (drawn : List ℕ) (m : List Pair) → until < 2 ^ 64 → IsDrawn drawn → AreOurs m → Fine Plans (create_session group author until now drawn m)
create_session_fine group author until now drawn m l d ours =
    fine_then (λ _. IsIdOf id.Group group) Plans (in_group group m) _ (in_group_fine group m ours) (λ u g.
    fine_then (λ _. IsIdOf id.Author author) Plans (name_of author m) _ (name_fine author m ours) (λ name a.
    fine_then Any Plans (not_past until now) _ (not_past_fine until now) (λ v _.
    made_fine id.Session drawn (session_put group author until) m d ours (λ text h. session_put_ours group author until text g a l))))

pub delete_session_fine : (s : Text) (m : List Pair) → AreOurs m → Fine Plans (delete_session s m)
delete_session_fine s m ours = fine_then Any Plans (session s m) (λ _. Ok (tt, gone (key kind.Session s) ∷ [])) (session_fine s m ours) (λ i _. (tt, tt))

pub sessions_of_group_fine : (group : Text) (m : List Pair) → AreOurs m → Fine Any (sessions_of_group group m)
sessions_of_group_fine group m ours =
    fine_then (λ _. IsIdOf id.Group group) Any (in_group group m) _ (in_group_fine group m ours) (λ u _.
    fine_then Any Any (sessions m) (λ is. Ok (of_group group is)) (sessions_fine m ours) (λ is _. tt))

pub sessions_of_author_fine : (author : Text) (m : List Pair) → AreOurs m → Fine Any (sessions_of_author author m)
sessions_of_author_fine author m ours =
    fine_then (λ _. IsIdOf id.Author author) Any (name_of author m) _ (name_fine author m ours) (λ u _.
    fine_then Any Any (sessions m) (λ is. Ok (of_author author is)) (sessions_fine m ours) (λ is _. tt))

-- READ-ONLY IDS
read_only_put_ours : (pad text : Text) → IsPad pad → IsIdOf id.ReadOnly text → PutsAreOurs (read_only_put pad text)
read_only_put_ours pad text p h =
    (pair_is_ours kind.Pad (utf8_of pad) (utf8_of text) (id_there id.ReadOnly text h), (pair_is_ours kind.ReadOnly (utf8_of text) (utf8_of pad) (some_if _ _ (own_again pad p.0 p.1)), tt))

pub read_only_fine : (pad : Text) (drawn : List ℕ) (m : List Pair) → IsPad pad → IsDrawn drawn → AreOurs m → Fine Plans (read_only pad drawn m)
read_only_fine pad drawn m p d ours =
    fine_then (If (IsIdOf id.ReadOnly)) Plans (read (id_in id.ReadOnly) (key kind.Pad pad) m) (λ old. old_or old (made id.ReadOnly drawn (read_only_put pad) m))
    (read_id_fine id.ReadOnly kind.Pad pad (λ value h. h) m ours)
    (λ old _. old_or_fine old _ (made_fine id.ReadOnly drawn (read_only_put pad) m d ours (λ text h. read_only_put_ours pad text p h)))

-- GRANTS
pad_behind_fine : (asked : Text) (m : List Pair) → AreOurs m → Fine Any (pad_behind asked m)
pad_behind_fine asked m ours =
    fine_then Any Any (needed pad_in (key kind.ReadOnly asked) (Denied 2) m) (λ pad. Ok (pad, true))
    (fine_then (If Any) Any (read pad_in (key kind.ReadOnly asked) m) (λ x. there (Denied 2) x) (read_pad_fine asked m ours) (λ o h. fine_there Any (Denied 2) o (λ z. z) h))
    (λ pad _. tt)

own_pad_fine : (asked : Text) → Fine Any (own_pad asked)
own_pad_fine asked = fine_then Any Any (there (Denied 1) (own asked)) (λ pad. Ok (pad, false)) (own_fine (Denied 1) asked Any (λ z. z) (λ e. tt)) (λ pad _. tt)

pad_asked_fine : (asked : Text) (m : List Pair) → AreOurs m → Fine Any (pad_asked asked m)
pad_asked_fine asked m ours = fine_if Any (is_read_only_id asked) (pad_behind asked m) (own_pad asked) (pad_behind_fine asked m ours) (own_pad_fine asked)

member_or_fine : (group : Text) (now : ℕ) (info : Option SessionInfo) (rest : Result (Option Text) DirBad) → Fine Any rest → Fine Any (member_or group now info rest)
member_or_fine group now None rest h = h
member_or_fine group now (Some i) rest h = fine_if Any (is_member group now i) (Ok (Some i.author)) rest tt h

member_fine : (group : Text) (now : ℕ) (ss : List Text) (m : List Pair) → AreOurs m → Fine Any (member group now ss m)
member_fine group now [] m ours = tt
member_fine group now (s ∷ ss) m ours =
    fine_then (If Any) Any (read (session_in s) (key kind.Session s) m) (λ i. member_or group now i (member group now ss m)) (read_session_fine s m ours)
    (λ i _. member_or_fine group now i (member group now ss m) (member_fine group now ss m ours))

member_of_fine : (group : Option Text) (now : ℕ) (ss : List Text) (m : List Pair) → AreOurs m → Fine Any (member_of group now ss m)
member_of_fine None now ss m ours = tt
member_of_fine (Some group) now ss m ours = member_fine group now ss m ours

token_put_ours : (token text : Text) → IsIdOf id.Author text → PutsAreOurs (token_put token text)
token_put_ours token text h = (pair_is_ours kind.Author (utf8_of text) [] h, (pair_is_ours kind.Token (utf8_of token) (utf8_of text) (id_there id.Author text h), tt))

token_author_fine : (token : Text) (drawn : List ℕ) (m : List Pair) → IsDrawn drawn → AreOurs m → Fine Plans (token_author token drawn m)
token_author_fine token drawn m d ours =
    fine_then (If (IsIdOf id.Author)) Plans (read (id_in id.Author) (key kind.Token token) m) (λ old. old_or old (made id.Author drawn (token_put token) m))
    (read_id_fine id.Author kind.Token token (λ value h. h) m ours)
    (λ old _. old_or_fine old _ (made_fine id.Author drawn (token_put token) m d ours (token_put_ours token)))

pub grant_fine : (asked : Text) (ss : List Text) (token : Text) (now : ℕ) (drawn : List ℕ) (m : List Pair) → IsDrawn drawn → AreOurs m → Fine Plans (grant asked ss token now drawn m)
grant_fine asked ss token now drawn m d ours =
    fine_then Any Plans (pad_asked asked m) _ (pad_asked_fine asked m ours) (λ pad _.
    fine_then Any Plans (member_of (group_of pad.0) now ss m) _ (member_of_fine (group_of pad.0) now ss m ours) (λ found _.
    fine_then Plans Plans (token_author token drawn m) (λ author. Ok (granted asked pad found author.0, author.1)) (token_author_fine token drawn m d ours) (λ author h. h)))
