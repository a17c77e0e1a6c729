-- The map that the rows of the table stand for.
use Rattle.std.specs.Prelude.{ℕ, ◌≡◌, ◌&&◌, Bool, true, List, [], ◌∷◌, map, if◌then◌else◌, Option, Some, None, is_some}
use Rattle.std.specs.List.{list_all}
use Rattle.std.specs.Ordering.{is_lt}
use Rattle.sqlite.specs.declared.types.Value.{Value}
use Rattle.sqlite.specs.declared.types.Value.TheVariants.{Null, Int, Real, Text, Blob}
use Rattle.sqlite.specs.Order.{Row, column, value_cmp}
use Rattle.sqlite_trees.specs.Tree.{rowid}
use Rattle.sqlite_trees.specs.View.{is_int}
use Rattle.sqlite.specs.Effect.{Database}
use Rattle.ep_outside.specs.Kept.{listed, value_at, with}
use Rattle.ep_outside.specs.declared.keeper.Pair.{Pair}
use Rattle.ep_keep_sql.specs.KeptTable.{kept_schema}

abbrev pub text_in : Value → Option (List ℕ)
text_in Null = None
text_in (Int n) = None
text_in (Real x) = None
text_in (Text t) = Some t
text_in (Blob b) = None

abbrev pub pair_by : Option (List ℕ) → Option (List ℕ) → Option Pair
pair_by None v = None
pair_by (Some k) None = None
pair_by (Some k) (Some v) = Some (record { key = k; value = v })

-- the name and the value of a row, where both are texts
abbrev pub pair_in : Row → Option Pair
pair_in r = pair_by (text_in (column r 1)) (text_in (column r 2))

abbrev pub joined : Option Pair → Option (List Pair) → Option (List Pair)
joined None told = None
joined (Some p) None = None
joined (Some p) (Some m) = if is_some (value_at m p.key) then None else Some (with m p.key p.value)

-- the pairs of the rows by key, where all are texts and no name stands twice
abbrev pub told_in : List Row → Option (List Pair)
told_in [] = Some []
told_in (r ∷ rs) = joined (pair_in r) (told_in rs)

-- the rows' ids are numbers that rise, as in any table of the database
abbrev pub are_numbered : List Row → Bool
are_numbered [] = true
are_numbered (r ∷ rs) = is_int (rowid r) && list_all (λ s. is_lt (value_cmp (rowid r) (rowid s))) rs && are_numbered rs

-- the map that a table's rows tell, where they are a table's
abbrev pub map_in : List Row → Option (List Pair)
map_in rows = if are_numbered rows then told_in rows else None

-- a database has our table alone, and its rows tell this map
pub record Holds (db : Database) (m : List Pair) : Type 0 where
  pub schema : db.schema ≡ kept_schema
  pub rows : map_in (db.trees 0) ≡ Some m

-- the row that shows a pair
abbrev pub shows : Pair → Row
shows p = Text p.key ∷ Text p.value ∷ []

-- the rows show some pairs of the map in their order, those whose keys begin so among them
abbrev pub ShowsListed : List Pair → List ℕ → List Row → Type 0
ShowsListed m prefix rows = (ps : List Pair) × (rows ≡ map shows ps) × (listed ps prefix ≡ listed m prefix)
