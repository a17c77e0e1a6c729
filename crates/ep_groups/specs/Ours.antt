-- Maps that a directory alone has written.
use Rattle.std.specs.Prelude.{ℕ, ◌≡◌, Bool, ◌&&◌, List, ◌++◌, codes, is_some, IsTrue}
use Rattle.std.specs.List.{All}
use Rattle.ep_units.specs.Utf8.{units_of}
use Rattle.ep_units.specs.PadId.{is_own_id}
use Rattle.ep_outside.specs.declared.keeper.Pair.{Pair}
use Rattle.ep_dir_records.specs.Keys.{prefix}
use Rattle.ep_dir_records.specs.Values.{count_in, empty_in, id_in, is_id, pad_in, session_in}
use Rattle.ep_dir_records.specs.declared.ids.IdKind.TheVariants as id
use Rattle.ep_dir_records.specs.declared.keys.Kind.{Kind}
use Rattle.ep_dir_records.specs.declared.keys.Kind.TheVariants.{Group, GroupMapper, GroupPad, Author, AuthorMapper, Token, Session, ReadOnly, Pad}

-- a value is what a directory puts under the key of this kind and name
abbrev pub has_form : Kind → List ℕ → List ℕ → Bool
has_form Group name value = is_some (empty_in value) && is_id id.Group name
has_form GroupMapper name value = is_some (id_in id.Group value)
has_form GroupPad name value = is_some (empty_in value) && is_own_id (units_of name)
has_form Author name value = is_id id.Author name
has_form AuthorMapper name value = is_some (id_in id.Author value)
has_form Token name value = is_some (id_in id.Author value)
has_form Session name value = is_some (session_in (units_of name) value)
has_form ReadOnly name value = is_some (pad_in value)
has_form Pad name value = is_some (id_in id.ReadOnly value)

-- the value has the form that its key asks for, and the ids in keys have theirs
pub record IsOurs (p : Pair) : Type 0 where
  pub count : p.key ≡ codes "n" → IsTrue (is_some (count_in p.value))
  pub form : (kind : Kind) (name : List ℕ) → p.key ≡ prefix kind ++ name → IsTrue (has_form kind name p.value)

abbrev pub AreOurs : List Pair → Type 0
AreOurs m = All IsOurs m
