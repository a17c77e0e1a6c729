-- Readings of a map that a directory alone has written.
use Rattle.std.proofs.Common.{◌≡◌, ℕ, ◌+◌, ◌≤◌, Bool, true, false, nat_lt, List, [], ◌∷◌, ◌++◌, codes, Option, Some, None, is_some, IsTrue, unwrap_or, Ok, Err, if◌then◌else◌, refl, ap, ◌∙◌, subst, arith}
use Rattle.std.proofs.lemmas.Bool.{false≢true, and_parts, ltb-true}
use Rattle.ep_units.specs.Text.{Text}
use Rattle.ep_units.specs.Utf8.{units_of, utf8_of}
use Rattle.ep_units.specs.PadId.{is_own_id}
use Rattle.ep_outside.specs.declared.keeper.Pair.{Pair}
use Rattle.ep_outside.specs.Kept.{listed}
use Rattle.ep_dir_records.specs.Ids.{id_of, most_ids}
use Rattle.ep_dir_records.specs.Keys.{key, prefix, name_of_key}
use Rattle.ep_dir_records.specs.Values.{only_if, count_in, empty_in, id_in, is_id, name_in, own, pad_in, session_in}
use Rattle.ep_dir_records.specs.declared.ids.IdKind.{IdKind}
use Rattle.ep_dir_records.specs.declared.ids.IdKind.TheVariants as id
use Rattle.ep_dir_records.specs.declared.keys.Kind.{Kind}
use Rattle.ep_dir_records.specs.declared.keys.Kind.TheVariants as kind
use Rattle.ep_dir_records.specs.Answers.{◌>>=◌}
use Rattle.ep_dir_records.specs.Readings.{formed, group_at, groups, if_there, in_group, name_of, new_id, numbered, pad_at, pads_of, read, session, session_at, sessions, there}
use Rattle.ep_dir_records.specs.declared.dir_bad.DirBad.TheVariants.{NoGroup, NoAuthor, NoSession, IdsSpent}
use Rattle.ep_groups.specs.Ours.{has_form, IsOurs, AreOurs}
use Rattle.ep_groups.specs.Calls.{IsDrawn}
use Rattle.ep_groups.proofs.Texts.{IsIdOf, id_is_read, id_is_made, session_any}
use Rattle.ep_groups.proofs.Pairs.{pair_of, at_key, listed_ours}
use Rattle.ep_groups.proofs.Fine.{Fine, Any, If, fine_then, fine_there, fine_each}

formed_fine : {A : Type 0} (P : A → Type 0) (k : List ℕ) (o : Option A) → is_some o ≡ true → ((x : A) → o ≡ Some x → P x) → Fine (If P) (◌>>=◌ (formed k o) (λ x. Ok (Some x)))
formed_fine P k None there is = absurd (false≢true there)
formed_fine P k (Some x) there is = is x refl

pub read_fine : {A : Type 0} (P : A → Type 0) (form : List ℕ → Option A) (k : List ℕ)
    → ((value : List ℕ) → IsOurs (pair_of k value) → is_some (form value) ≡ true) → ((value : List ℕ) (x : A) → IsOurs (pair_of k value) → form value ≡ Some x → P x)
    → (m : List Pair) → AreOurs m → Fine (If P) (read form k m)
read_fine P form k there is m ours =
    at_key (λ o. Fine (If P) (if_there form k o)) k tt (λ value o. formed_fine P k (form value) (there value o) (λ x e. is value x o e)) m ours

only_some : {A : Type 0} (b : Bool) (x y : A) → only_if b x ≡ Some y → (b ≡ true) × (x ≡ y)
only_some true x y e = (refl, cc e)
only_some false x y e = absurd (cc e)

-- ids
id_of_value : (i : IdKind) (value : List ℕ) (x : Text) → id_in i value ≡ Some x → IsIdOf i x
id_of_value i value x e =
    let parts = only_some (is_id i value) (units_of value) x e in
    subst (IsIdOf i) parts.1 (id_is_read i value parts.0)

pub read_id_fine : (i : IdKind) (k : Kind) (name : Text) → ((value : List ℕ) → IsTrue (has_form k (utf8_of name) value) → is_some (id_in i value) ≡ true) → (m : List Pair) → AreOurs m → Fine (If (IsIdOf i)) (read (id_in i) (key k name) m)
read_id_fine i k name form m ours = read_fine (IsIdOf i) (id_in i) (key k name) (λ value o. form value (o.form k (utf8_of name) refl)) (λ value x o e. id_of_value i value x e) m ours

-- single records
pub group_fine : (group : Text) (m : List Pair) → AreOurs m → Fine (If (λ _. IsIdOf id.Group group)) (read empty_in (key kind.Group group) m)
group_fine group m ours =
    read_fine (λ _. IsIdOf id.Group group) empty_in (key kind.Group group)
    (λ value o. (and_parts (is_some (empty_in value)) (is_id id.Group (utf8_of group)) (o.form kind.Group (utf8_of group) refl)).0)
    (λ value x o e. (and_parts (is_some (empty_in value)) (is_id id.Group (utf8_of group)) (o.form kind.Group (utf8_of group) refl)).1)
    m ours

pub in_group_fine : (group : Text) (m : List Pair) → AreOurs m → Fine (λ _. IsIdOf id.Group group) (in_group group m)
in_group_fine group m ours =
    let P : Unit {0} → Type 0 = λ _. IsIdOf id.Group group in
    fine_then (If P) P (read empty_in (key kind.Group group) m) (λ x. there NoGroup x) (group_fine group m ours) (λ o h. fine_there P NoGroup o (λ z. z) h)

pub name_fine : (author : Text) (m : List Pair) → AreOurs m → Fine (λ _. IsIdOf id.Author author) (name_of author m)
name_fine author m ours =
    let P : Text → Type 0 = λ _. IsIdOf id.Author author in
    fine_then (If P) P (read name_in (key kind.Author author) m) (λ x. there NoAuthor x)
    (read_fine P name_in (key kind.Author author) (λ value o. refl) (λ value x o e. o.form kind.Author (utf8_of author) refl) m ours)
    (λ o h. fine_there P NoAuthor o (λ z. z) h)

pub read_session_fine : (s : Text) (m : List Pair) → AreOurs m → Fine (If Any) (read (session_in s) (key kind.Session s) m)
read_session_fine s m ours =
    read_fine Any (session_in s) (key kind.Session s)
    (λ value o. session_any s (units_of (utf8_of s)) value ∙ o.form kind.Session (utf8_of s) refl)
    (λ value x o e. tt) m ours

pub session_fine : (s : Text) (m : List Pair) → AreOurs m → Fine Any (session s m)
session_fine s m ours =
    fine_then (If Any) Any (read (session_in s) (key kind.Session s) m) (λ x. there NoSession x) (read_session_fine s m ours) (λ o h. fine_there Any NoSession o (λ z. z) h)

pub read_pad_fine : (asked : Text) (m : List Pair) → AreOurs m → Fine (If Any) (read pad_in (key kind.ReadOnly asked) m)
read_pad_fine asked m ours = read_fine Any pad_in (key kind.ReadOnly asked) (λ value o. o.form kind.ReadOnly (utf8_of asked) refl) (λ value x o e. tt) m ours

pub read_listed_fine : (pad : Text) (m : List Pair) → AreOurs m → Fine (If Any) (read empty_in (key kind.GroupPad pad) m)
read_listed_fine pad m ours =
    read_fine Any empty_in (key kind.GroupPad pad)
    (λ value o. (and_parts (is_some (empty_in value)) (is_own_id (units_of (utf8_of pad))) (o.form kind.GroupPad (utf8_of pad) refl)).0)
    (λ value x o e. tt) m ours

-- a new id
abbrev pub IsNew : IdKind → Text × ℕ → Type 0
IsNew i new = IsIdOf i new.0 × (new.1 ≤ most_ids)

numbered_fine : (i : IdKind) (drawn : List ℕ) (n : ℕ) → IsDrawn drawn → Fine (IsNew i) (numbered i drawn n)
numbered_fine i drawn n d = go (nat_lt n most_ids) refl
  where
    go : (b : Bool) → nat_lt n most_ids ≡ b → Fine (IsNew i) (if b then Ok (id_of i drawn n, n + 1) else Err IdsSpent)
    go true e = let below = ltb-true n most_ids e in (id_is_made i drawn n d, omega (arith, below))
    go false e = λ z. z

pub new_id_fine : (i : IdKind) (drawn : List ℕ) (m : List Pair) → IsDrawn drawn → AreOurs m → Fine (IsNew i) (new_id i drawn m)
new_id_fine i drawn m d ours =
    fine_then (If Any) (IsNew i) (read count_in (codes "n") m) (λ n. numbered i drawn (unwrap_or n 0))
    (read_fine Any count_in (codes "n") (λ value o. o.count refl) (λ value x o e. tt) m ours)
    (λ n _. numbered_fine i drawn (unwrap_or n 0) d)

-- lists
formed_any : {A : Type 0} (k : List ℕ) (o : Option A) → is_some o ≡ true → Fine Any (formed k o)
formed_any k None there = absurd (false≢true there)
formed_any k (Some x) there = tt

abbrev IsListed : List ℕ → Pair → Type 0
IsListed start p = IsOurs p × ((rest : List ℕ) × (p.key ≡ start ++ rest))

group_at_fine : (p : Pair) → IsListed (prefix kind.Group) p → Fine Any (group_at p)
group_at_fine p h =
    let form = and_parts _ _ (h.0.form kind.Group h.1.0 h.1.1) in
    fine_then Any Any (formed p.key (empty_in p.value)) (λ _. Ok (name_of_key p.key)) (formed_any p.key (empty_in p.value) form.0) (λ x _. tt)

session_at_fine : (p : Pair) → IsListed (prefix kind.Session) p → Fine Any (session_at p)
session_at_fine p h =
    formed_any p.key (session_in (name_of_key p.key) p.value) (session_any (name_of_key p.key) (units_of h.1.0) p.value ∙ h.0.form kind.Session h.1.0 h.1.1)

own_there : (o : Text) → is_own_id o ≡ true → is_some (own o) ≡ true
own_there o h = go (is_own_id o) h
  where
    go : (b : Bool) → b ≡ true → is_some (only_if b o) ≡ true
    go true e = refl
    go false e = absurd (false≢true e)

pad_at_fine : (start : List ℕ) (p : Pair) → IsListed (prefix kind.GroupPad ++ start) p → Fine Any (pad_at p)
pad_at_fine start p h =
    let at : p.key ≡ prefix kind.GroupPad ++ (start ++ h.1.0) = h.1.1 in
    let form = and_parts _ _ (h.0.form kind.GroupPad (start ++ h.1.0) at) in
    let name : name_of_key p.key ≡ units_of (start ++ h.1.0) = ap name_of_key at in
    fine_then Any Any (formed p.key (empty_in p.value)) (λ _. formed p.key (own (name_of_key p.key))) (formed_any p.key (empty_in p.value) form.0)
    (λ x _. formed_any p.key (own (name_of_key p.key)) (own_there (name_of_key p.key) (ap is_own_id name ∙ form.1)))

pub groups_fine : (m : List Pair) → AreOurs m → Fine Any (groups m)
groups_fine m ours = fine_each (IsListed (prefix kind.Group)) group_at group_at_fine (listed m (prefix kind.Group)) (listed_ours m (prefix kind.Group) ours)

pub sessions_fine : (m : List Pair) → AreOurs m → Fine Any (sessions m)
sessions_fine m ours = fine_each (IsListed (prefix kind.Session)) session_at session_at_fine (listed m (prefix kind.Session)) (listed_ours m (prefix kind.Session) ours)

pub pads_fine : (group : Text) (m : List Pair) → AreOurs m → Fine Any (pads_of group m)
pads_fine group m ours =
    let start = key kind.GroupPad (group ++ 36 ∷ []) in
    fine_each (IsListed start) pad_at (pad_at_fine (utf8_of (group ++ 36 ∷ []))) (listed m start) (listed_ours m start ours)
