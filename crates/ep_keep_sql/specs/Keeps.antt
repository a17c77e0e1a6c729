-- What a keeper over a connection tells, and what its calls keep true.
use Rattle.std.specs.Prelude.{◌≡◌, ◌≤◌, ◌⊎◌, ◌==◌, ◌&&◌, ℕ, Bool, true, false, IsTrue, List, Option, None, Some, is_some, if◌then◌else◌}
use Rattle.std.proofs.Common.{true≢false, sym}
use base.Stored.{Gv, gnil, gnum, gcons}
use Rattle.std.specs.Coded.{Coded-set, Unit-prop, coded_bool, coded_ℕ, ×_prop, Π_prop}
use Rattle.sqlite.specs.View.{doubt}
use Rattle.sqlite.specs.Disk.{MoreFaults}
use Rattle.sqlite.specs.State.{State, HasCleanDisk}
use Rattle.sqlite.specs.Held.{Held, state}
use Rattle.sqlite.specs.Schema.{Schema}
use Rattle.sqlite.specs.Store.{Ghosts}
use Rattle.sqlite_schema.specs.contracts.schema.Schema.{the_row}
use Rattle.ep_outside.specs.declared.keeper.Pair.{Pair}
use Rattle.ep_outside.specs.Kept.{rises, IsTold, Rises}
use Rattle.ep_keep_sql.specs.KeptTable.{kept_schema}
use Rattle.ep_keep_sql.specs.Told.{map_in}

abbrev pub same_code : Gv → Gv → Bool
same_code gnil gnil = true
same_code gnil (gnum n) = false
same_code gnil (gcons c d) = false
same_code (gnum m) gnil = false
same_code (gnum m) (gnum n) = m == n
same_code (gnum m) (gcons c d) = false
same_code (gcons a b) gnil = false
same_code (gcons a b) (gnum n) = false
same_code (gcons a b) (gcons c d) = same_code a c && same_code b d

-- whether a schema is ours, by the codes of the two, which are one to one
unfoldable pub is_ours : Schema → Bool
is_ours schema = same_code (the_row.coded.code schema) (the_row.coded.code kept_schema)

abbrev pub serves : State → Bool
serves s = s.is_open && s.is_clean

-- what a connection tells while it is open and clean: the map of the rows, where the schema is ours
abbrev pub map_of : State → Option (List Pair)
map_of s = if serves s && is_ours s.now.schema then map_in (s.now.trees 0) else None

-- whether it told a map as the keeper was made
abbrev pub began_well : {S : Type 0} → Ghosts S → Option (Held S) → Bool
began_well g None = false
began_well g (Some h) = is_some (map_of (state g h))

-- a keeper tells what its connection tells, if it told a map at the beginning
abbrev pub told_of : {S : Type 0} → Ghosts S → Option (Held S) → Option (Held S) → Option (List Pair)
told_of g first None = None
told_of g first (Some h) = if began_well g first then map_of (state g h) else None

-- then it tells one whenever it is open and clean
abbrev pub is_kept : Bool → State → Bool
is_kept well s = if well && serves s then is_some (map_of s) else true

abbrev pub is_kept_at : {S : Type 0} → Ghosts S → Bool → Option (Held S) → Bool
is_kept_at g well None = true
is_kept_at g well (Some h) = is_kept well (state g h)

-- a map that is told rises
abbrev pub rises_if : Option (List Pair) → Bool
rises_if None = true
rises_if (Some m) = rises m

pub rises_told : (o : Option (List Pair)) → rises_if o ≡ true → Rises o
rises_told None h = tt
rises_told (Some m) h = h

-- that has one proof
pub Rises-prop : (o : Option (List Pair)) → IsProp (Rises o)
Rises-prop None = Unit-prop
Rises-prop (Some m) = Coded-set coded_bool (rises m) true

-- no lie of the disk is forgotten, a connection that was shut stays so, and only a fault that the store counts shuts it
pub record Goes (old new : State) : Type 0 where
  pub clean : doubt old.is_clean ≤ doubt new.is_clean
  pub was_open : HasCleanDisk new → IsTrue new.is_open → IsTrue old.is_open
  pub counts : old.faults ≤ new.faults
  pub closes : HasCleanDisk new → IsTrue old.is_open → IsTrue new.is_open ⊎ MoreFaults old.faults new.faults

-- the disk is not known to have lied, where there is a connection
abbrev pub IsHonest : {S : Type 0} → Ghosts S → Option (Held S) → Type 0
IsHonest g None = Unit {0}
IsHonest g (Some h) = HasCleanDisk (state g h)

-- the store of this connection counted a fault more
abbrev pub HasFailed : {S : Type 0} → Ghosts S → Option (Held S) → Option (Held S) → Type 0
HasFailed g None k = ⊥
HasFailed g (Some h) None = ⊥
HasFailed g (Some h) (Some k) = MoreFaults (state g h).faults (state g k).faults

-- what told before tells now, unless its disk lied, or failed
abbrev pub GoesOn : {S : Type 0} → Ghosts S → Option (Held S) → Option (Held S) → Option (List Pair) → Option (List Pair) → Type 0
GoesOn g old new told now = IsHonest g new → IsTold told → IsTold now ⊎ HasFailed g old new

-- There is a connection, and where its disk is not known to have lied the keeper tells, if it told as it was made.
abbrev pub Answers : {S : Type 0} → Ghosts S → Option (Held S) → Option (Held S) → Option (List Pair) → Type 0
Answers g first None told = ⊥
Answers g first (Some h) told = HasCleanDisk (state g h) → IsTrue (began_well g first) → IsTold told

-- whatever it holds, such a store's disk has not lied, and no fault is counted: memory is so
abbrev pub NeverFails : {S : Type 0} → Ghosts S → Type 0
NeverFails {S} g = (h : Held S) → HasCleanDisk (state g h) × ((state g h).faults ≡ 0)

-- that has one proof
pub NeverFails-prop : {S : Type 0} (g : Ghosts S) → (always : Bool) → IsProp (IsTrue always → NeverFails g)
NeverFails-prop g always = Π_prop (λ _. Π_prop (λ h. ×_prop (Coded-set coded_ℕ (doubt (state g h).is_clean) 0) (Coded-set coded_ℕ (state g h).faults 0)))

-- a map is told where one always is
abbrev pub tells_where : Bool → Option (List Pair) → Bool
tells_where always told = if always then is_some told else true

pub always_told : (always : Bool) (told : Option (List Pair)) → IsTrue (tells_where always told) → always ≡ true → IsTold told
always_told false told h e = absurd (true≢false (sym e))
always_told true None h e = absurd (true≢false (sym h))
always_told true (Some m) h e = tt
