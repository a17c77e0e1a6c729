-- Names of disks in their order, and what a shelf tells of a disk.
use Rattle.std.specs.Prelude.{ℕ, ◌≡◌, ◌↔◌, Bool, true, ◌&&◌, List, [], ◌∷◌, Option, Some, None, Contains, IsTrue}
use Rattle.std.specs.Ordering.{is_lt}
use Rattle.ep_units.specs.Text.{text_cmp}
use Rattle.ep_outside.specs.Disk.{Contents, settled}
use Rattle.ep_outside.specs.Kept.{by_order}

abbrev pub is_before : List ℕ → List (List ℕ) → Bool
is_before name [] = true
is_before name (n ∷ ns) = is_lt (text_cmp name n)

-- each name is less than the next, unit by unit
abbrev pub rises : List (List ℕ) → Bool
rises [] = true
rises (n ∷ ns) = is_before n ns && rises ns

-- the names with this one in its place
abbrev pub with_name : List (List ℕ) → List ℕ → List (List ℕ)
with_name [] name = name ∷ []
with_name (n ∷ ns) name = by_order (text_cmp name n) (name ∷ n ∷ ns) (n ∷ ns) (n ∷ with_name ns name)

-- where names are told, they are these
abbrev pub AreTold : Option (List (List ℕ)) → List (List ℕ) → Type 0
AreTold None names = Unit {0}
AreTold (Some ns) names = names ≡ ns

-- where names are told, this one is among them or not
abbrev pub IsAmong : Option (List (List ℕ)) → List ℕ → Bool → Type 0
IsAmong None name there = Unit {0}
IsAmong (Some ns) name there = IsTrue there ↔ Contains ns name

-- names are told, and this one isn't among them
abbrev pub IsNew : Option (List (List ℕ)) → List ℕ → Type 0
IsNew None name = ⊥
IsNew (Some ns) name = Contains ns name → ⊥

-- the disk tells what was told of it
abbrev pub Holds : Option Contents → Option Contents → Type 0
Holds None disk = Unit {0}
Holds (Some c) disk = disk ≡ Some c

-- where the disk tells, it holds nothing, in sync
abbrev pub IsEmpty : Option Contents → Type 0
IsEmpty None = Unit {0}
IsEmpty (Some c) = c ≡ settled []
