-- The members of a JSON object, each read as what it is to be.
use Rattle.std.specs.Prelude.{ℕ, nat_le, if◌then◌else◌, List, codes, Bool, true, ◌&&◌, is_some, Option, Some, None, option_map, option_and_then, Result, Ok}
use Rattle.std.specs.Option.{ok_or}
use Rattle.serde_json.specs.Data.{Data, Items, no_items, item}
use Rattle.serde_json.specs.Find.{get, as_array, as_number, as_object, as_str, as_u64}
use Rattle.ep_units.specs.Text.{Text}
use Rattle.ep_units.specs.Utf8.{units_of}
use Rattle.ep_wire_words.specs.declared.bad.WireBad.{WireBad}
use Rattle.ep_wire_words.specs.declared.bad.WireBad.TheVariants.{Shape}
use Rattle.ep_wire_words.specs.declared.member.Member.{Member}
use Rattle.ep_wire_words.specs.declared.member.Member.TheVariants as member

abbrev pub name : Member → List ℕ
name member.Type = codes "type"
name member.PadId = codes "padId"
name member.Token = codes "token"
name member.SessionId = codes "sessionID"
name member.Reconnect = codes "reconnect"
name member.ClientRev = codes "client_rev"
name member.Birth = codes "birth"
name member.Author = codes "author"
name member.Data = codes "data"
name member.BaseRev = codes "baseRev"
name member.Changeset = codes "changeset"
name member.Apool = codes "apool"
name member.Start = codes "start"
name member.Granularity = codes "granularity"
name member.RequestId = codes "requestID"
name member.CollabClientVars = codes "collab_client_vars"
name member.InitialAttributedText = codes "initialAttributedText"
name member.Attribs = codes "attribs"
name member.Text = codes "text"
name member.Rev = codes "rev"
name member.Time = codes "time"
name member.Readonly = codes "readonly"
name member.Session = codes "session"
name member.UserId = codes "userId"
name member.NewRev = codes "newRev"
name member.CurrentTime = codes "currentTime"
name member.TimeDelta = codes "timeDelta"
name member.Current = codes "current"
name member.HeadRev = codes "headRev"
name member.NoChanges = codes "noChanges"
name member.ActualEndNum = codes "actualEndNum"
name member.BackwardsChangesets = codes "backwardsChangesets"
name member.ForwardsChangesets = codes "forwardsChangesets"
name member.Disconnect = codes "disconnect"
name member.AccessStatus = codes "accessStatus"

-- ---- kinds

-- a whole number that a browser has exactly
abbrev pub small : ℕ → Option ℕ
small n = if nat_le n 9007199254740991 then Some n else None

abbrev pub whole : Data → Option ℕ
whole d = option_and_then small (option_and_then as_u64 (as_number d))

-- an object, as it stands
abbrev pub object_kind : Data → Option Data
object_kind d = option_map (λ _. d) (as_object d)

abbrev pub units : Data → Option Text
units d = option_map units_of (as_str d)

abbrev pub are_texts : Items → Bool
are_texts no_items = true
are_texts (item d ds) = is_some (as_str d) && are_texts ds

abbrev pub only_texts : Items → Option Items
only_texts ds = if are_texts ds then Some ds else None

-- an array of texts, as it stands
abbrev pub array_of_texts : Data → Option Items
array_of_texts d = option_and_then only_texts (as_array d)

-- ---- members

-- the member, which must be there and of this kind
abbrev pub needed : {A : Type 0} → (Data → Option A) → Member → Data → Result A WireBad
needed kind m d = ok_or (option_and_then kind (get (name m) d)) (Shape m)

-- the member, which must be of this kind where it is there
abbrev pub optional_of : {A : Type 0} → (Data → Option A) → Member → Option Data → Result (Option A) WireBad
optional_of kind m None = Ok None
optional_of kind m (Some d) = ok_or (option_map Some (kind d)) (Shape m)

abbrev pub optional : {A : Type 0} → (Data → Option A) → Member → Data → Result (Option A) WireBad
optional kind m d = optional_of kind m (get (name m) d)
