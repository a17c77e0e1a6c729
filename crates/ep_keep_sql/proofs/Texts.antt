use Rattle.std.proofs.Common.{◌≡◌, ℕ, pos, negsuc, List, [], ◌∷◌, codes, false, None, Some, Ok, refl}
use Rattle.sqlite.specs.Collation.TheVariants.{Binary}
use Rattle.sqlite.specs.declared.types.Value.TheVariants.{Int, Null}
use Rattle.sqlite.specs.Command.TheVariants.{Select, Delete, InsertOr}
use Rattle.sqlite.specs.Source.{Source}
use Rattle.sqlite.specs.Source.TheVariants.{Values}
use Rattle.sqlite_schema.specs.declared.command.Conflict.TheVariants.{Abort}
use Rattle.sqlite_schema.specs.declared.command.Upsert.{Upsert}
use Rattle.sqlite.specs.Compile.{table_defined_by}
use Rattle.sqlite.specs.Change.{created}
use Rattle.sqlite_tied.specs.Compute.{everything}
use Rattle.sqlite_value.specs.Keys.{ascending}
use Rattle.sqlite.specs.Listing.{understood, reads_listing}
use Rattle.sqlite.proofs.Callers.{IsPlain, command_of}
use Rattle.ep_keep_sql.specs.KeptTable.{kept, kept_schema, no_schema}
use Rattle.sqlite_sql.specs.declared.ops.BinaryOp.TheVariants.{Compare}
use Rattle.sqlite_sql.specs.declared.ops.CompareOp.TheVariants.{Eq, Ge, Lt}
use Rattle.sqlite.specs.Term.{Term, lit, col, op2}
use Rattle.sqlite.specs.Query.{Query, inner, end}

abbrev pub make_text : List ℕ
make_text = codes "CREATE TABLE IF NOT EXISTS kept(name TEXT PRIMARY KEY NOT NULL, value TEXT NOT NULL)"

abbrev pub get_text : List ℕ
get_text = codes "SELECT value FROM kept WHERE name = ?1"

abbrev pub from_text : List ℕ
from_text = codes "SELECT name, value FROM kept WHERE name >= ?1 ORDER BY name"

abbrev pub remove_text : List ℕ
remove_text = codes "DELETE FROM kept WHERE name = ?1"

abbrev pub put_text : List ℕ
put_text = codes "INSERT INTO kept (name, value) VALUES (?1, ?2) ON CONFLICT (name) DO UPDATE SET value = excluded.value"

pub table_is : table_defined_by make_text ≡ Ok kept
unfolding understood everything
table_is = refl

pub schema_is : created no_schema kept ≡ kept_schema
unfolding understood everything
schema_is = refl

abbrev pub get_query : Query
get_query = record {
  from = inner 0 end;
  filter = op2 (Compare Eq Binary) (col 1 1) (col 0 0) ∷ [];
  group = None;
  project = col 1 2 ∷ [];
  distinct = false;
  collations = [];
  order = [];
  limit = lit (Int (negsuc 0));
  offset = lit (Int (pos 0));
}

pub get_is : command_of (understood kept_schema get_text) ≡ Select (record { lets = []; body = get_query }) (codes "value" ∷ [])
unfolding understood everything
get_is = refl

pub get_listing : reads_listing kept_schema get_text ≡ false
unfolding understood everything
get_listing = refl

pub get_plain : IsPlain (understood kept_schema get_text)
unfolding understood everything
get_plain = (refl, refl)

abbrev pub remove_query : Query
remove_query = record {
  from = inner 0 end;
  filter = op2 (Compare Eq Binary) (col 1 1) (col 0 0) ∷ [];
  group = None;
  project = col 1 0 ∷ [];
  distinct = false;
  collations = [];
  order = [];
  limit = lit (Int (negsuc 0));
  offset = lit (Int (pos 0));
}

pub remove_is : command_of (understood kept_schema remove_text) ≡ Delete 0 (record { lets = []; body = remove_query })
unfolding understood everything
remove_is = refl

pub remove_plain : IsPlain (understood kept_schema remove_text)
unfolding understood everything
remove_plain = (refl, refl)

-- the row that is there, by its id, with the new value
abbrev pub update_query : Query
update_query = record {
  from = inner 0 end;
  filter = op2 (Compare Eq Binary) (col 1 0) (col 0 2) ∷ [];
  group = None;
  project = col 1 0 ∷ col 1 0 ∷ col 1 1 ∷ col 0 5 ∷ [];
  distinct = false;
  collations = [];
  order = [];
  limit = lit (Int (negsuc 0));
  offset = lit (Int (pos 0));
}

-- the values of the new row, whose id is to be chosen
abbrev pub put_source : Source
put_source = Values (lit Null ∷ col 0 0 ∷ col 0 1 ∷ []) 3

abbrev pub put_clause : Upsert
put_clause = record { target = Some (1 ∷ []); update = Some (record { lets = []; body = update_query }) }

pub put_is : command_of (understood kept_schema put_text) ≡ InsertOr 0 Abort put_source (put_clause ∷ [])
unfolding understood everything
put_is = refl

pub put_plain : IsPlain (understood kept_schema put_text)
unfolding understood everything
put_plain = (refl, refl)

abbrev pub between_text : List ℕ
between_text = codes "SELECT name, value FROM kept WHERE name >= ?1 AND name < ?2 ORDER BY name"

abbrev pub from_query : List Term → Query
from_query filter = record {
  from = inner 0 end;
  filter = filter;
  group = None;
  project = col 1 1 ∷ col 1 2 ∷ [];
  distinct = false;
  collations = [];
  order = (col 1 1, ascending Binary) ∷ [];
  limit = lit (Int (negsuc 0));
  offset = lit (Int (pos 0));
}

abbrev pub from_terms : List Term
from_terms = op2 (Compare Ge Binary) (col 1 1) (col 0 0) ∷ []

abbrev pub between_terms : List Term
between_terms = op2 (Compare Ge Binary) (col 1 1) (col 0 0) ∷ op2 (Compare Lt Binary) (col 1 1) (col 0 1) ∷ []

abbrev pub shown_names : List (List ℕ)
shown_names = codes "name" ∷ codes "value" ∷ []

pub from_is : command_of (understood kept_schema from_text) ≡ Select (record { lets = []; body = from_query from_terms }) shown_names
unfolding understood everything
from_is = refl

pub between_is : command_of (understood kept_schema between_text)
    ≡ Select (record { lets = []; body = from_query between_terms }) shown_names
unfolding understood everything
between_is = refl

pub from_listing : reads_listing kept_schema from_text ≡ false
unfolding understood everything
from_listing = refl

pub between_listing : reads_listing kept_schema between_text ≡ false
unfolding understood everything
between_listing = refl

pub from_plain : IsPlain (understood kept_schema from_text)
unfolding understood everything
from_plain = (refl, refl)

pub between_plain : IsPlain (understood kept_schema between_text)
unfolding understood everything
between_plain = (refl, refl)
