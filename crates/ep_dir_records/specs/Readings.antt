-- What the directory's records are, read from the map.
use Rattle.std.specs.Prelude.{ℕ, ◌+◌, nat_lt, nat_le, List, [], ◌∷◌, ◌++◌, codes, filter, if◌then◌else◌, Option, Some, None, unwrap_or, Result, Ok, Err}
use Rattle.ep_units.specs.Text.{Text, text_eq}
use Rattle.ep_units.specs.Utf8.{units_of}
use Rattle.ep_outside.specs.declared.keeper.Pair.{Pair}
use Rattle.ep_outside.specs.Kept.{value_at, listed}
use Rattle.ep_dir_records.specs.Ids.{id_of, most_ids}
use Rattle.ep_dir_records.specs.Keys.{key, prefix, name_of_key}
use Rattle.ep_dir_records.specs.Values.{empty_in, count_in, name_in, own, session_in}
use Rattle.ep_dir_records.specs.declared.ids.IdKind.{IdKind}
use Rattle.ep_dir_records.specs.declared.keys.Kind.TheVariants as kind
use Rattle.ep_dir_records.specs.declared.values.SessionInfo.{SessionInfo}
use Rattle.ep_dir_records.specs.declared.dir_bad.DirBad.{DirBad}
use Rattle.ep_dir_records.specs.declared.dir_bad.DirBad.TheVariants.{NoGroup, NoAuthor, NoSession, Past, IdsSpent, Kept}
use Rattle.ep_dir_records.specs.Answers.{◌>>=◌, ◌>>◌}

-- a value that has not its key's form is refused with the key
abbrev pub formed : {A : Type 0} → List ℕ → Option A → Result A DirBad
formed k None = Err (Kept (units_of k))
formed k (Some x) = Ok x

-- a value in its form, where there is one
abbrev pub if_there : {A : Type 0} → (List ℕ → Option A) → List ℕ → Option (List ℕ) → Result (Option A) DirBad
if_there form k None = Ok None
if_there form k (Some value) = do
  x ← formed k (form value)
  Ok (Some x)

-- what stands under a key
abbrev pub read : {A : Type 0} → (List ℕ → Option A) → List ℕ → List Pair → Result (Option A) DirBad
read form k m = if_there form k (value_at m k)

-- what is there, or this refusal
abbrev pub there : {A : Type 0} → DirBad → Option A → Result A DirBad
there bad None = Err bad
there bad (Some x) = Ok x

-- what has to stand under a key
abbrev pub needed : {A : Type 0} → (List ℕ → Option A) → List ℕ → DirBad → List Pair → Result A DirBad
needed form k bad m = do
  x ← read form k m
  there bad x

-- what each of some pairs is, up to the first that has another form
abbrev pub each : {A : Type 0} → (Pair → Result A DirBad) → List Pair → Result (List A) DirBad
each f [] = Ok []
each f (p ∷ ps) = do
  x ← f p
  xs ← each f ps
  Ok (x ∷ xs)

-- the next id behind n of them, and how many are given with it
abbrev pub numbered : IdKind → List ℕ → ℕ → Result (Text × ℕ) DirBad
numbered kind drawn n = if nat_lt n most_ids then Ok (id_of kind drawn n, n + 1) else Err IdsSpent

-- a new id, and how many are given with it
abbrev pub new_id : IdKind → List ℕ → List Pair → Result (Text × ℕ) DirBad
new_id kind drawn m = do
  n ← read count_in (codes "n") m
  numbered kind drawn (unwrap_or n 0)

-- the group has to be there
abbrev pub in_group : Text → List Pair → Result (Unit {0}) DirBad
in_group group m = needed empty_in (key kind.Group group) NoGroup m

-- the author's name: the author has to be there
abbrev pub name_of : Text → List Pair → Result Text DirBad
name_of author m = needed name_in (key kind.Author author) NoAuthor m

-- the session has to be there
abbrev pub session : Text → List Pair → Result SessionInfo DirBad
session id m = needed (session_in id) (key kind.Session id) NoSession m

-- the group that a mark stands for
abbrev pub group_at : Pair → Result Text DirBad
group_at p = do
  formed p.key (empty_in p.value)
  Ok (name_of_key p.key)

-- the session of a pair
abbrev pub session_at : Pair → Result SessionInfo DirBad
session_at p = formed p.key (session_in (name_of_key p.key) p.value)

-- the pad that a mark stands for
abbrev pub pad_at : Pair → Result Text DirBad
pad_at p = do
  formed p.key (empty_in p.value)
  formed p.key (own (name_of_key p.key))

-- all groups
abbrev pub groups : List Pair → Result (List Text) DirBad
groups m = each group_at (listed m (prefix kind.Group))

-- all sessions
abbrev pub sessions : List Pair → Result (List SessionInfo) DirBad
sessions m = each session_at (listed m (prefix kind.Session))

-- the pads of a group
abbrev pub pads_of : Text → List Pair → Result (List Text) DirBad
pads_of group m = each pad_at (listed m (key kind.GroupPad (group ++ codes "$")))

-- those of a group
abbrev pub of_group : Text → List SessionInfo → List SessionInfo
of_group group is = filter (λ i. text_eq i.group group) is

-- those of an author
abbrev pub of_author : Text → List SessionInfo → List SessionInfo
of_author author is = filter (λ i. text_eq i.author author) is

-- an end that is not past
abbrev pub not_past : ℕ → ℕ → Result (Unit {0}) DirBad
not_past until now = if nat_le until now then Err (Past now) else Ok tt
