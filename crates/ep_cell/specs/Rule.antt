-- Working words of private contracts: the rule of a cell's table. Word 0 is the length of the history, word 1 the number of the next pass, and word 2 is 0 where the machine is at home.
use Rattle.std.specs.Prelude.{ℕ, ◌≡◌, ◌≢◌, ◌<◌, ◌≤◌, Bool, true, false, List, [], ◌∷◌, length, if◌then◌else◌, nat_lt, Option, Some}
use Rattle.std.specs.Option.{ForSome}
use mathlib.Core.Option as m
use lib.ListN.{get_elem?}
use Rattle.atomic_table.specs.Table.{State}
use Rattle.ep_cell.specs.declared.view.Call.{Call}
use Rattle.ep_cell.specs.declared.view.View.{View}
use Rattle.ep_cell.specs.declared.view.Held.{Held}
use Rattle.ep_cell.specs.History.{StartsWith, longer, calls_by, pairs}

abbrev pub greater : ℕ → ℕ → ℕ
greater m n = if nat_lt m n then n else m

module _ {M E R : Type 0} where
  -- a view with a number and a floor, which has just seen this history
  abbrev pub viewing : Option M → ℕ → ℕ → Bool → List (Call E R) → View M E R
  viewing m q n b l = record { begun = m; theirs = m; number = q; seen = l; floor = n; has_machine = b; one = l; two = l }

  -- two views put together
  abbrev pub joined : View M E R → View M E R → View M E R
  joined v w = record { begun = v.begun; theirs = w.begun; number = v.number; seen = longer v.seen w.seen; floor = greater v.floor w.floor; has_machine = v.has_machine; one = v.seen; two = w.seen }

  -- what a view has of the history: a beginning of it, with all calls of its number, and all of it where it has the machine
  pub record Fits (log : List (Call E R)) (next : ℕ) (v : View M E R) : Type 0 where
    pub prefix : StartsWith log v.seen
    pub own : v.number ≢ 0 → calls_by v.number log ≡ calls_by v.number v.seen
    pub number : v.number < next
    pub floor : v.floor ≤ length log
    pub whole : v.has_machine ≡ true → v.seen ≡ log
    pub one : StartsWith v.seen v.one
    pub two : StartsWith v.seen v.two
    pub first : v.number ≢ 0 → calls_by v.number v.seen ≡ calls_by v.number v.one

module _ {M E R : Type 0} (stands : M → List (E × R) → Type 0) where
  -- the slot has a machine that stands for the history
  abbrev pub IsReady : Held M E R → List (Call E R) → Type 0
  IsReady h log = (machine : M) × (h.machine ≡ Some machine) × stands machine (pairs log)

module _ {M E R : Type 0} (first : M) where
  -- a view knows of no other machine than this one
  abbrev pub IsBegun : View M E R → Type 0
  IsBegun v = ForSome v.begun (λ known. known ≡ first) × ForSome v.theirs (λ known. known ≡ first)

module _ {M E R : Type 0} (first : M) (stands : M → List (E × R) → Type 0) (legal : List (E × R) → Type 0) where
  -- There is one history, which began with this machine, and no view knows of another. Each view has a beginning of it, no two have one number, and at most one has the machine. While the lock is free the machine stands for that history.
  pub record IsCounted (s : State (Held M E R) (View M E R)) : Type 0 where
    pub log : List (Call E R)
    pub next : ℕ
    pub lock : ℕ
    pub words : s.words ≡ length log ∷ next ∷ lock ∷ []
    pub is_legal : legal (pairs log)
    pub views : (id : ℕ) (v : View M E R) → get_elem? s.views id ≡ m.some v → Fits log next v
    pub begun : (id : ℕ) (v : View M E R) → get_elem? s.views id ≡ m.some v → IsBegun first v
    pub numbers : (id other : ℕ) (v w : View M E R) → get_elem? s.views id ≡ m.some v → get_elem? s.views other ≡ m.some w → v.number ≢ 0 → v.number ≡ w.number → id ≡ other
    pub holders : (id other : ℕ) (v w : View M E R) → get_elem? s.views id ≡ m.some v → get_elem? s.views other ≡ m.some w → v.has_machine ≡ true → w.has_machine ≡ true → id ≡ other
    pub fresh : (q : ℕ) → next ≤ q → calls_by q log ≡ []
    pub nobody : calls_by 0 log ≡ []
    pub positive : 1 ≤ next
    pub home : lock ≡ 0 → (h : Held M E R) × (get_elem? s.homes 0 ≡ m.some (m.some h)) × IsReady stands h log
    pub free : lock ≡ 0 → (id : ℕ) (v : View M E R) → get_elem? s.views id ≡ m.some v → v.has_machine ≡ false
