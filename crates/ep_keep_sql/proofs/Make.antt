-- What the statement that makes the table does.
use Rattle.std.proofs.Common.{◌≡◌, ◌∙◌, ◌⊎◌, inl, inr, ℕ, [], false, refl, sym, ap, subst, None, Ok, Err, Result, OnOk}
use Rattle.sqlite.specs.Command.TheVariants.{CreateTable, Nothing}
use Rattle.sqlite.specs.Change.{created, next_tree}
use Rattle.sqlite.specs.Does.{Tally, lacks_sequence}
use Rattle.sqlite.specs.Effect.{Database}
use Rattle.sqlite.specs.declared.error.Error.{Error}
use Rattle.sqlite.specs.Listing.{understood}
use Rattle.sqlite.specs.State.{State, Executes, Writes, IsUnchanged}
use Rattle.sqlite_tied.specs.Compute.{everything}
use Rattle.sqlite.proofs.Callers.{IsPlain, command_of, runs_as, statement_of}
use Rattle.std.specs.Prelude.{IsTrue}
use Rattle.ep_keep_sql.specs.KeptTable.{kept, kept_schema, no_schema}
use Rattle.ep_keep_sql.specs.Told.{map_in, Holds}
use Rattle.ep_keep_sql.proofs.Texts.{make_text, schema_is, table_is}

make_is : (command_of (understood no_schema make_text) ≡ CreateTable) × (statement_of make_text (understood no_schema make_text) ≡ make_text)
unfolding understood everything
make_is = (refl, refl)

make_plain : IsPlain (understood no_schema make_text)
unfolding understood everything
make_plain = (refl, refl)

-- a part that gave a value did not stop on the way
pub went : {B E R : Type 0} {b : B} {Stops : E → Type 0} → ((stop : E) × Stops stop × (Ok b ≡ Err stop)) ⊎ R → R
went (inl stopped) = absurd (let e = stopped.2 in cc)
went (inr on) = on

pub same_value : {B E : Type 0} {a b : B} → ◌≡◌ {A = Result B E} (Ok a) (Ok b) → a ≡ b
same_value e = cc

pub creates : (old new : State) (r : Result ℕ Error) → old.now.schema ≡ no_schema → Executes make_text [] old new r → OnOk r (Holds new.now [] × IsTrue new.is_open)
creates old new (Err e) has h = tt
creates old new (Ok count) has h =
    let w = subst (λ t. Writes old new None CreateTable t [] count) make_is.1 (runs_as make_text [] old new no_schema has CreateTable make_is.0 make_plain count h) in
    let all = went w.changed in
    let first = went all.1 in
    let made = first.1 in
    let both : Ok made.table ≡ Ok kept = sym made.defined ∙ table_is in
    let same : made.table ≡ kept = cc in
    let schema : first.0.schema ≡ kept_schema = made.is ∙ ap (λ s. created s made.table) has ∙ ap (created no_schema) same ∙ schema_is in
    let plain : lacks_sequence first.0.schema ≡ false = ap lacks_sequence schema in
    let now : new.now ≡ first.0 = ap (λ (p : Tally × Database). p.1) (same_value all.2) ∙ same_value (rw plain at first.2) in
    let rows : new.now.trees 0 ≡ [] = ap (λ (d : Database). d.trees 0) now ∙ subst (λ s. first.0.trees (next_tree s) ≡ []) has made.empty in
    (record { schema = ap (λ (d : Database). d.schema) now ∙ schema; rows = ap map_in rows }, w.shown.is_open)

again_is : command_of (understood kept_schema make_text) ≡ Nothing
unfolding understood everything
again_is = refl

again_plain : IsPlain (understood kept_schema make_text)
unfolding understood everything
again_plain = (refl, refl)

pub stays : (old new : State) (r : Result ℕ Error) → old.now.schema ≡ kept_schema → Executes make_text [] old new r → OnOk r (IsUnchanged old new)
stays old new (Err e) has h = tt
stays old new (Ok count) has h = (runs_as make_text [] old new kept_schema has Nothing again_is again_plain count h).0
