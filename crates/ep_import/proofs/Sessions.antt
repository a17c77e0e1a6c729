-- A session's member, by what its reader says.
use Rattle.std.proofs.Common.{◌≡◌, Option, Some, None, Result, Ok, Err, codes, refl, ap}
use Rattle.std.specs.Option.{ok_or}
use Rattle.std.specs.Prelude.{option_and_then}
use Rattle.serde_json.specs.Data.{Data}
use Rattle.serde_json.specs.Find.{get}
use Rattle.ep_units.specs.declared.session.Session.{Session}
use Rattle.ep_wire_words.specs.Answer as wire
use Rattle.ep_wire_words.specs.Members as wire_members
use Rattle.ep_wire_words.specs.Sessions.{session}
use Rattle.ep_wire_words.specs.declared.bad.WireBad.{WireBad}
use Rattle.ep_wire_words.specs.declared.bad.WireBad.TheVariants as wire_bad
use Rattle.ep_wire_words.specs.declared.member.Member.TheVariants as member
use Rattle.ep_import.specs.declared.bad.ImportBad.TheVariants as bad
use Rattle.ep_import.specs.declared.place.Place.{Place}
use Rattle.ep_import.specs.Imported.{needed}

there : {A E F : Type 0} (o : Option A) (e : E) (f : F) (x : A) → ok_or o e ≡ Ok x → ok_or o f ≡ Ok x
there (Some y) e f x is = let same : y ≡ x = cc in ap Ok same
there None e f x is = absurd cc

missing : {A E F : Type 0} (o : Option A) (e why : E) (f : F) → ok_or o e ≡ Err why → ok_or o f ≡ Err f
missing (Some y) e why f is = absurd cc
missing None e why f is = refl

refused : {A : Type 0} (why : WireBad) (read : Result A WireBad) → (why ≡ wire_bad.NoMemory → ⊥) → wire.IsRefused why read → read ≡ Err why
refused wire_bad.NoMemory read other is = absurd (other refl)
refused why read other is = is

pub session_there : (d : Data) (p : Place) (s : Session) → wire_members.needed session member.Session d ≡ Ok s → needed session (codes "session") p d ≡ Ok s
session_there d p s is = there (option_and_then session (get (codes "session") d)) (wire_bad.Shape member.Session) (bad.Shape p) s is

pub session_missing : (d : Data) (p : Place) (why : WireBad) → (why ≡ wire_bad.NoMemory → ⊥) → wire.IsRefused why (wire_members.needed session member.Session d) → needed session (codes "session") p d ≡ Err (bad.Shape p)
session_missing d p why other is =
    missing (option_and_then session (get (codes "session") d)) (wire_bad.Shape member.Session) why (bad.Shape p) (refused why (wire_members.needed session member.Session d) other is)
