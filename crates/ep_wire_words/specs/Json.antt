-- JSON values in the words of messages.
use Rattle.std.specs.Prelude.{ℕ, List, [], ◌∷◌, map}
use Rattle.serde_json.specs.Data.{Data, number, unsigned, string, array, object, Members, no_members, put}
use Rattle.serde_json.specs.View.{items_of, view}
use Rattle.serde_json.specs.declared.value.Value.{Value}
use Rattle.ep_units.specs.Text.{Text}
use Rattle.ep_units.specs.Utf8.{utf8_of}
use Rattle.ep_units.specs.declared.session.Session.{Session}
use Rattle.ep_wire_words.specs.declared.member.Member.{Member}
use Rattle.ep_wire_words.specs.Members.{name}
use Rattle.ep_wire_words.specs.Sessions.{session_text}

abbrev pub whole : ℕ → Data
whole n = number (unsigned n)

abbrev pub text : Text → Data
text us = string (utf8_of us)

abbrev pub session : Session → Data
session s = string (session_text s)

abbrev pub texts : List Text → Data
texts ts = array (items_of (map text ts))

abbrev pub put_all : List (Member × Data) → Members → Members
put_all [] ms = ms
put_all (f ∷ fs) ms = put_all fs (put (name f.0) f.1 ms)

-- the object with these members, which stand in the order of their names
abbrev pub obj : List (Member × Data) → Data
obj fs = object (put_all fs no_members)

abbrev pub with_view : Member × Value → Member × Data
with_view f = (f.0, view f.1)
