-- What contracts see of cells and passes, and what the calls of a cell do to it.
use Rattle.std.specs.Prelude.{ℕ, ◌≡◌, ◌≢◌, ◌<◌, ◌≤◌, List, [], ◌∷◌, ◌++◌, length, All}
use Rattle.atomic_table.specs.Seated.{TableId}
use Rattle.ep_cell.specs.declared.view.Call.{Call}
use Rattle.ep_cell.specs.declared.cell.Cell.{Cell}
use Rattle.ep_cell.specs.declared.cell.PassOf.{PassOf}
use Rattle.ep_cell.specs.History.{StartsWith, Extends, longer, call, calls_by, pairs}

-- What a pass knows: its number, the history that it has seen, and a length that the history has at least
pub record Known (E R : Type 0) : Type 0 where
  pub number : ℕ
  pub seen : List (Call E R)
  pub floor : ℕ

module _ {M E R : Type 0} where
  -- which cell it is: no two have one id
  abbrev pub id_of : Cell M E R → TableId
  id_of cell = cell.board.shared.table_id

  -- which cell a pass is of
  abbrev pub home_of : PassOf M E R → TableId
  home_of pass = pass.seat.table_id

  abbrev pub IsOf : Cell M E R → PassOf M E R → Type 0
  IsOf cell pass = home_of pass ≡ id_of cell

  -- the machine as it was put in
  abbrev pub first_of : Cell M E R → M
  first_of cell = cell.first.value

  -- the machine with which a pass's history began
  abbrev pub first : PassOf M E R → M
  first pass = pass.first.value.value

  -- the pass is of the cell, and its history began with the machine that was put in there
  abbrev pub IsFrom : Cell M E R → PassOf M E R → Type 0
  IsFrom cell pass = IsOf cell pass × (first pass ≡ first_of cell)

  abbrev pub number : PassOf M E R → ℕ
  number pass = pass.seat.me.0.number

  abbrev pub seen : PassOf M E R → List (Call E R)
  seen pass = pass.seat.me.0.seen

  abbrev pub floor : PassOf M E R → ℕ
  floor pass = pass.seat.me.0.floor

  abbrev pub known : PassOf M E R → Known E R
  known pass = record { number = number pass; seen = seen pass; floor = floor pass }

module _ {E R : Type 0} where
  -- a pass that has made no call
  pub record IsFresh (v : Known E R) : Type 0 where
    pub numbered : v.number ≢ 0
    pub none : calls_by v.number v.seen ≡ []
    pub floor : v.floor ≡ length v.seen

  -- A call of a pass: its history goes on and ends with this call, which is the one more of its own, and
  -- before which at least as many stand as the pass was told
  pub record Makes (v : Known E R) (e : E) (r : R) (w : Known E R) : Type 0 where
    pub extends : Extends v.seen (call v.number e r) w.seen
    pub own : calls_by v.number w.seen ≡ calls_by v.number v.seen ++ call v.number e r ∷ []
    pub behind : v.floor < length w.seen
    pub number : w.number ≡ v.number
    pub floor : w.floor ≡ v.floor

  -- Two passes meet: both have seen the longer of their histories, which both old ones begin, and in which
  -- neither has a call more
  pub record Meets (v w v' w' : Known E R) : Type 0 where
    pub longer : v'.seen ≡ longer v.seen w.seen
    pub same : w'.seen ≡ v'.seen
    pub begins_one : StartsWith v'.seen v.seen
    pub begins_other : StartsWith v'.seen w.seen
    pub own_one : calls_by v.number v'.seen ≡ calls_by v.number v.seen
    pub own_other : calls_by w.number v'.seen ≡ calls_by w.number w.seen
    pub number_one : v'.number ≡ v.number
    pub number_other : w'.number ≡ w.number
    pub floor_one : v.floor ≤ v'.floor
    pub floor_other : w.floor ≤ w'.floor

module _ {M E R : Type 0} (stands : M → List (E × R) → Type 0) where
  -- the machine stands for one history, which begins with each of these
  abbrev pub StandsBehind : M → List (List (Call E R)) → Type 0
  StandsBehind machine begins = (log : List (Call E R)) × stands machine (pairs log) × All (StartsWith log) begins
