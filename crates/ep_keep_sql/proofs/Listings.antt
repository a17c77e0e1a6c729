-- What the statements of a listing do.
use Rattle.std.proofs.Common.{◌≡◌, ℕ, List, [], ◌∷◌, nat_eq, true, Ok, Err, Result, IfOk}
use Rattle.std.specs.List.{starts_with}
use Rattle.std.specs.declared.cmp.Ordering.TheVariants.{Less}
use Rattle.sqlite.specs.declared.types.Value.TheVariants.{Null, Text}
use Rattle.sqlite.specs.Order.{Row}
use Rattle.sqlite.specs.State.{State, Shown}
use Rattle.sqlite.proofs.Callers.{reads_as}
use Rattle.ep_outside.specs.declared.keeper.Pair.{Pair}
use Rattle.ep_outside.specs.Kept.{key_cmp}
use Rattle.ep_keep_sql.specs.KeptTable.{kept_schema}
use Rattle.ep_keep_sql.specs.Told.{Holds, ShowsListed}
use Rattle.ep_keep_sql.proofs.Lists.{between_shows, from_shows}
use Rattle.ep_keep_sql.proofs.Removes.{tells}
use Rattle.ep_keep_sql.proofs.Texts.{between_is, between_listing, between_plain, between_text, from_is, from_listing, from_plain, from_text}

pub from_all : (old new : State) (prefix : List ℕ) (m : List Pair) (rows : List Row) → Holds old.now m → Shown from_text (Text prefix ∷ []) old new rows → ShowsListed m prefix rows
from_all old new prefix m rows holds h =
    let reads = reads_as from_text (Text prefix ∷ []) old new kept_schema holds.schema _ from_is from_plain from_listing rows h in
    from_shows old.now.trees m prefix rows (tells (old.now.trees 0) m holds.rows).told (reads.answer Null)

pub between_all : (old new : State) (prefix end : List ℕ) (m : List Pair) (rows : List Row) → ((n : List ℕ) → starts_with nat_eq n prefix ≡ true → key_cmp n end ≡ Less) → Holds old.now m
    → Shown between_text (Text prefix ∷ Text end ∷ []) old new rows → ShowsListed m prefix rows
between_all old new prefix end m rows above holds h =
    let reads = reads_as between_text (Text prefix ∷ Text end ∷ []) old new kept_schema holds.schema _ between_is between_plain between_listing rows h in
    between_shows old.now.trees m prefix end rows above (tells (old.now.trees 0) m holds.rows).told (reads.answer Null)

pub if_ok : {A E : Type 0} (P Q : A → Type 0) (r : Result A E) → ((a : A) → P a → Q a) → IfOk r P → IfOk r Q
if_ok P Q (Ok a) then h = then a h
if_ok P Q (Err e) then h = tt
