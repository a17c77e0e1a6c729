-- Histories of the directory.
use Rattle.std.specs.Prelude.{◌≡◌, Bool, true, List, [], ◌∷◌, Result}
use Rattle.ep_outside.specs.declared.keeper.Pair.{Pair}
use Rattle.ep_outside.specs.declared.keeper.Put.{Put}
use Rattle.ep_dir_records.specs.Answers.{Answers, Makes, Seen, Tells, only}
use Rattle.ep_dir_records.specs.declared.dir_bad.DirBad.{DirBad}
use Rattle.ep_groups.specs.Directory.{create_group, group_for, delete_group, add_group_pad, drop_group_pad, group_pads, create_author, author_for, create_session, delete_session, sessions_of_group, sessions_of_author, read_only}
use Rattle.ep_groups.specs.Policy.{grant}
use Rattle.ep_dir_records.specs.Readings.{groups, name_of, session}
use Rattle.ep_groups.specs.declared.entries.DirEntry.{DirEntry}
use Rattle.ep_groups.specs.declared.entries.DirEntry.TheVariants as entry
use Rattle.ep_groups.specs.declared.entries.DirReply.{DirReply}
use Rattle.ep_groups.specs.declared.entries.DirReply.TheVariants as reply

-- what holds of a call: of what it asks of a map, and of what was replied
abbrev pub Call : ((A : Type 0) → (List Pair → Result (A × List Put) DirBad) → Result A DirBad → Type 0) → DirEntry → DirReply → Type 0
Call Is (entry.CreateGroup drawn) (reply.Text r) = Is _ (create_group drawn.digits) r
Call Is (entry.GroupFor mapper drawn) (reply.Text r) = Is _ (group_for mapper drawn.digits) r
Call Is (entry.DeleteGroup group) (reply.Done r) = Is _ (delete_group group) r
Call Is entry.Groups (reply.Texts r) = Is _ (only groups) r
Call Is (entry.AddGroupPad group name) (reply.Pad r) = Is _ (add_group_pad group name) r
Call Is (entry.DropGroupPad pad) (reply.Done r) = Is _ (drop_group_pad pad) r
Call Is (entry.GroupPads group) (reply.Pads r) = Is _ (only (group_pads group)) r
Call Is (entry.CreateAuthor name drawn) (reply.Text r) = Is _ (create_author name drawn.digits) r
Call Is (entry.AuthorFor mapper name drawn) (reply.Text r) = Is _ (author_for mapper name drawn.digits) r
Call Is (entry.AuthorName author) (reply.Text r) = Is _ (only (name_of author)) r
Call Is (entry.CreateSession a) (reply.Text r) = Is _ (create_session a.group a.author a.valid_until a.at a.drawn.digits) r
Call Is (entry.DeleteSession id) (reply.Done r) = Is _ (delete_session id) r
Call Is (entry.Session id) (reply.Session r) = Is _ (only (session id)) r
Call Is (entry.SessionsOfGroup group) (reply.Sessions r) = Is _ (only (sessions_of_group group)) r
Call Is (entry.SessionsOfAuthor author) (reply.Sessions r) = Is _ (only (sessions_of_author author)) r
Call Is (entry.ReadOnly pad drawn) (reply.Text r) = Is _ (read_only pad drawn.digits) r
Call Is (entry.Grant a) (reply.Grant r) = Is _ (grant a.asked a.sessions a.token a.at a.drawn.digits) r
Call Is _ _ = ⊥

-- a call with this reply leads from one state to the next
abbrev pub Step : Seen → Seen → DirEntry → DirReply → Type 0
Step old now e r = Call (λ A f x. Answers {A = A} old now f x) e r

-- these calls lead from the first state to the last, and each state between them tells where the keeper always does
abbrev pub Runs : Seen → List (DirEntry × DirReply) → Seen → Type 0
Runs first [] last = first ≡ last
Runs first (c ∷ cs) last = (mid : Seen) × Step first mid c.0 c.1 × Tells mid × Runs mid cs last

-- every keeper of a type always tells its map, by what a keeper says of itself
abbrev pub AllTell : {K : Type 0} → (K → Bool) → Type 0
AllTell {K} always_tells = (k : K) → always_tells k ≡ true

-- calls may begin in this state: it tells where its keeper always does, which it does where all of them do
pub record IsFirst {K : Type 0} (always_tells : K → Bool) (first : Seen) : Type 0 where
  pub told : Tells first
  pub telling : AllTell always_tells → first.always_tells ≡ true

-- a directory that was in the first state as it began is in the last: it has made these calls in between
abbrev pub Stands : {K : Type 0} → (K → Bool) → Seen → Seen → List (DirEntry × DirReply) → Type 0
Stands always_tells first last h = IsFirst always_tells first × Runs first h last

-- of a directory that began in this state, each reply is the one that the calls before it ask for, through states that tell where its keeper always does
abbrev pub IsLegal : {K : Type 0} → (K → Bool) → Seen → List (DirEntry × DirReply) → Type 0
IsLegal always_tells first h = (last : Seen) × Stands always_tells first last h

-- by the definitions alone: a call with this reply makes the second map of the first
abbrev pub Leads : List Pair → List Pair → DirEntry → DirReply → Type 0
Leads m n e r = Call (λ A f x. Makes {A = A} (f m) m x n) e r

-- each reply is what the definitions answer on the map that the calls before it made of this one
abbrev pub Follows : List Pair → List (DirEntry × DirReply) → Type 0
Follows m [] = Unit {0}
Follows m (c ∷ cs) = (n : List Pair) × Leads m n c.0 c.1 × Follows n cs
