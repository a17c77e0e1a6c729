-- The register of open pads, and the histories of its calls. A call is asked for a name, and answers which cell the name has, or why none.
use Rattle.std.specs.Prelude.{ℕ, ◌≡◌, ◌≢◌, ◌<◌, ◌≤◌, ◌⊎◌, true, false, bytes_eq, if◌then◌else◌, List, [], ◌∷◌, ◌++◌, length, map, Option, Some, None, Result, Ok, Err}
use Rattle.atomic_table.specs.Seated.{TableId}
use Rattle.ep_outside.specs.Disk.{Contents}
use Rattle.ep_outside.specs.Outside.{HasRisen}
use Rattle.ep_outside.specs.Shelf.{Holds, IsAmong}
use Rattle.ep_pad.specs.declared.wanted.Wanted.{Wanted}
use Rattle.ep_pad.specs.declared.pass_bad.PassBad.{PassBad}
use Rattle.ep_pad.specs.declared.pass_bad.PassBad.TheVariants as bad
use Rattle.ep_pad.specs.Halls.{Answer, told_of}

-- what waits for a name that isn't open
pub data Waits (D : Type 0) : Type 0 where
  on_disk : D → Waits D
  in_cell : TableId → Waits D

-- how many pads may be open, the shelf, the cell of each open pad in the order of opening, and what waits
pub record Register (H D : Type 0) : Type 0 where
  pub limit : ℕ
  pub shelf : H
  pub cells : List (List ℕ × TableId)
  pub waiting : List (List ℕ × Waits D)

module _ {A : Type 0} where
  -- what stands under a name
  abbrev pub found_in : List (List ℕ × A) → List ℕ → Option A
  found_in [] name = None
  found_in (x ∷ xs) name = if bytes_eq name x.0 then Some x.1 else found_in xs name

  -- without what stands under a name
  abbrev pub without : List (List ℕ × A) → List ℕ → List (List ℕ × A)
  without [] name = []
  without (x ∷ xs) name = if bytes_eq name x.0 then xs else x ∷ without xs name

-- the name isn't open, and there is room for one more
pub record MayOpen {H D : Type 0} (s : Register H D) (name : List ℕ) : Type 0 where
  pub shut : found_in s.cells name ≡ None
  pub room : length s.cells < s.limit

-- a pad that waits in a cell has that cell
abbrev pub IsIn : {D : Type 0} → Waits D → TableId → Type 0
IsIn (on_disk d) id = Unit {0}
IsIn (in_cell c) id = id ≡ c

-- a pad that waits in a cell goes on to wait in that cell, and a disk without one, or in a cell
abbrev pub StaysIn : {D : Type 0} → Waits D → Waits D → Type 0
StaysIn (in_cell c) w = w ≡ in_cell c
StaysIn (on_disk d) (on_disk back) = back ≡ d
StaysIn (on_disk d) (in_cell c) = Unit {0}

-- what was to get a place gets it in the cell that is answered; where memory ran out, it waits
abbrev pub Places : {H D : Type 0} → Register H D → List ℕ → Waits D → Answer → Register H D → Type 0
Places s name w (Ok id) t = (t.limit ≡ s.limit) × (t.shelf ≡ s.shelf) × (t.cells ≡ s.cells ++ (name, id) ∷ []) × (t.waiting ≡ s.waiting) × IsIn w id
Places {D = D} s name w (Err bad.NoMemory) t = (t.limit ≡ s.limit) × (t.shelf ≡ s.shelf) × (t.cells ≡ s.cells) × ((x : Waits D) × (t.waiting ≡ s.waiting ++ (name, x) ∷ []) × StaysIn w x)
Places s name w (Err _) t = ⊥

module _ {H D : Type 0} (failed : H → ℕ) (names : H → Option (List (List ℕ))) (told : H → List ℕ → Option Contents) where
  -- A call keeps the limit and what the shelf tells of other names, and the shelf's count never falls. For who makes no pad the shelf gets no name: it had this one, or has those that it had.
  pub record Keeps (s t : Register H D) (wanted : Wanted) : Type 0 where
    pub limit : t.limit ≡ s.limit
    pub later : failed s.shelf ≤ failed t.shelf
    pub others : (other : List ℕ) → other ≢ wanted.name → told t.shelf other ≡ told s.shelf other
    pub spares : wanted.makes ≡ false → (names t.shelf ≡ names s.shelf) ⊎ IsAmong (names s.shelf) wanted.name true

module _ {H D : Type 0} (told : H → List ℕ → Option Contents) (disk_failed : D → ℕ) (disk_told : D → Option Contents) where
  -- what gets a place is what waits for the name, or else the disk that the shelf gives, which has not failed
  abbrev pub Comes : Option (Waits D) → H → List ℕ → Waits D → Type 0
  Comes (Some w) shelf name x = x ≡ w
  Comes None shelf name (on_disk d) = (disk_failed d ≡ 0) × Holds (told shelf name) (disk_told d)
  Comes None shelf name (in_cell c) = ⊥

module _ {H D : Type 0} (failed : H → ℕ) (names : H → Option (List (List ℕ))) (told : H → List ℕ → Option Contents) (disk_failed : D → ℕ) (disk_told : D → Option Contents) where
  -- the pad has a place already
  abbrev pub IsOpen : Register H D → List ℕ → TableId → Register H D → Type 0
  IsOpen s name id t = (found_in s.cells name ≡ Some id) × (t ≡ s)

  -- the pad got its place, in this cell
  pub record Opens (s : Register H D) (wanted : Wanted) (id : TableId) (t : Register H D) : Type 0 where
    pub may : MayOpen s wanted.name
    pub keeps : Keeps failed names told s t wanted
    pub of : Waits D
    pub comes : Comes told disk_failed disk_told (found_in s.waiting wanted.name) s.shelf wanted.name of
    pub same : IsIn of id
    pub cells : t.cells ≡ s.cells ++ (wanted.name, id) ∷ []
    pub waiting : t.waiting ≡ without s.waiting wanted.name

  -- the shelf failed, and no disk was taken off it
  pub record Fails (s : Register H D) (wanted : Wanted) (n : ℕ) (t : Register H D) : Type 0 where
    pub may : MayOpen s wanted.name
    pub keeps : Keeps failed names told s t wanted
    pub none : found_in s.waiting wanted.name ≡ None
    pub count : n ≡ failed t.shelf
    pub cause : HasRisen (failed s.shelf) (failed t.shelf)
    pub unopened : told t.shelf wanted.name ≡ told s.shelf wanted.name
    pub cells : t.cells ≡ s.cells
    pub waiting : t.waiting ≡ s.waiting

  -- nobody has made the pad, and who asks doesn't: no disk waits under its name, the shelf has none, and gets none
  pub record IsAbsent (s : Register H D) (wanted : Wanted) (t : Register H D) : Type 0 where
    pub may : MayOpen s wanted.name
    pub keeps : Keeps failed names told s t wanted
    pub makes : wanted.makes ≡ false
    pub none : found_in s.waiting wanted.name ≡ None
    pub new : IsAmong (names s.shelf) wanted.name false
    pub unmade : names t.shelf ≡ names s.shelf
    pub unopened : told t.shelf wanted.name ≡ told s.shelf wanted.name
    pub cells : t.cells ≡ s.cells
    pub waiting : t.waiting ≡ s.waiting

  -- memory ran out: what came to get a place waits, or no disk was taken off the shelf
  pub record Lacks (s : Register H D) (wanted : Wanted) (t : Register H D) : Type 0 where
    pub room : found_in s.cells wanted.name ≡ None → length s.cells < s.limit
    pub keeps : Keeps failed names told s t wanted
    pub cells : t.cells ≡ s.cells
    pub waiting : ((t.waiting ≡ s.waiting) × (told t.shelf wanted.name ≡ told s.shelf wanted.name)) ⊎ ((of w : Waits D) × Comes told disk_failed disk_told (found_in s.waiting wanted.name) s.shelf wanted.name of × (t.waiting ≡ without s.waiting wanted.name ++ (wanted.name, w) ∷ []) × StaysIn of w)

  -- a call with this answer leads from one state to the next
  abbrev pub Step : Register H D → Wanted → Answer → Register H D → Type 0
  Step s w (Ok id) t = IsOpen s w.name id t ⊎ Opens s w id t
  Step s w (Err (bad.Pads n)) t = (t ≡ s) × (found_in s.cells w.name ≡ None) × (n ≡ length s.cells) × (n ≡ s.limit)
  Step s w (Err (bad.Shelf n)) t = Fails s w n t
  Step s w (Err bad.Absent) t = IsAbsent s w t
  Step s w (Err bad.NoMemory) t = Lacks s w t

  -- these calls lead from the first state to the last
  abbrev pub Runs : Register H D → List (Wanted × Answer) → Register H D → Type 0
  Runs first [] last = first ≡ last
  Runs first (c ∷ cs) last = (mid : Register H D) × Step first c.0 c.1 mid × Runs mid cs last

  -- a register as it began: no pad is open, and nothing waits
  pub record IsFirst (first : Register H D) : Type 0 where
    pub cells : first.cells ≡ []
    pub waiting : first.waiting ≡ []

  -- a register that was the first as it began is the last: it has made these calls in between
  abbrev pub Stands : Register H D → Register H D → List (Wanted × Answer) → Type 0
  Stands first last h = IsFirst first × Runs first h last

  -- of a register that began so, each answer is one that the calls before it allow
  abbrev pub IsLegalFrom : Register H D → List (Wanted × Answer) → Type 0
  IsLegalFrom first h = (last : Register H D) × Stands first last h

  -- and of one under which so many pads may be open
  abbrev pub IsLegal : ℕ → List (Wanted × Answer) → Type 0
  IsLegal limit h = (first : Register H D) × (first.limit ≡ limit) × IsLegalFrom first h

abbrev pub all_told : {C : Type 0} → (C → TableId) → List (Wanted × Result C PassBad) → List (Wanted × Answer)
all_told id h = map (λ c. (c.0, told_of id c.1)) h
