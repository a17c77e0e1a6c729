-- The history of a cell: the calls of its machine in order, each with the number of the pass that made it.
use Rattle.std.specs.Prelude.{ℕ, ◌≡◌, ◌==◌, List, [], ◌∷◌, ◌++◌, length, map, filter, if◌then◌else◌, nat_lt}
use Rattle.ep_cell.specs.declared.view.Call.{Call}

module _ {E R : Type 0} where
  abbrev pub call : ℕ → E → R → Call E R
  call q e r = record { by = q; entry = e; reply = r }

  -- the calls as the machine makes them: entries with replies
  abbrev pub pairs : List (Call E R) → List (E × R)
  pairs log = map (λ c. (c.entry, c.reply)) log

  -- the calls of one pass
  abbrev pub calls_by : ℕ → List (Call E R) → List (Call E R)
  calls_by q log = filter (λ c. c.by == q) log

  abbrev pub StartsWith : List (Call E R) → List (Call E R) → Type 0
  StartsWith log seen = (rest : List (Call E R)) × (log ≡ seen ++ rest)

  -- what was seen goes on, and ends with this call
  abbrev pub Extends : List (Call E R) → Call E R → List (Call E R) → Type 0
  Extends seen c log = (between : List (Call E R)) × (log ≡ (seen ++ between) ++ c ∷ [])

  -- the longer of two histories
  abbrev pub longer : List (Call E R) → List (Call E R) → List (Call E R)
  longer xs ys = if nat_lt (length xs) (length ys) then ys else xs
