-- The keys of the directory's records, and puts under them.
use Rattle.std.specs.Prelude.{ℕ, ◌==◌, Bool, List, ◌++◌, codes, Some, None}
use Rattle.std.specs.List.{after_first}
use Rattle.std.specs.Fmt.{decimal}
use Rattle.ep_units.specs.Text.{Text}
use Rattle.ep_units.specs.Utf8.{utf8_of, units_of}
use Rattle.ep_outside.specs.declared.keeper.Put.{Put}
use Rattle.ep_dir_records.specs.declared.keys.Kind.{Kind}
use Rattle.ep_dir_records.specs.declared.keys.Kind.TheVariants.{Group, GroupMapper, GroupPad, Author, AuthorMapper, Token, Session, ReadOnly, Pad}

-- what the keys of a kind begin with
abbrev pub prefix : Kind → List ℕ
prefix Group = codes "g/"
prefix GroupMapper = codes "gm/"
prefix GroupPad = codes "gp/"
prefix Author = codes "a/"
prefix AuthorMapper = codes "am/"
prefix Token = codes "t/"
prefix Session = codes "s/"
prefix ReadOnly = codes "r/"
prefix Pad = codes "p/"

-- the key of the record with this name
abbrev pub key : Kind → Text → List ℕ
key kind name = prefix kind ++ utf8_of name

abbrev pub is_slash : ℕ → Bool
is_slash b = b == 47

abbrev pub behind_slash : List ℕ → List ℕ
behind_slash k = after_first is_slash k

-- the name in a key
abbrev pub name_of_key : List ℕ → Text
name_of_key k = units_of (behind_slash k)

-- a value under a key
abbrev pub put : List ℕ → List ℕ → Put
put k value = record { key = k; value = Some value }

-- nothing under a key
abbrev pub gone : List ℕ → Put
gone k = record { key = k; value = None }

-- the count of ids given
abbrev pub count_put : ℕ → Put
count_put n = put (codes "n") (decimal n)
